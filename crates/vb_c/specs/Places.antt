-- What the exports for a balloon over regions answer.
use Rattle.std.specs.Prelude.{◌≡◌, ℕ, ◌+◌, ◌*◌, ◌==◌, true, false, List, Option, Some, None}
use Rattle.std.specs.Prelude.{Result, Ok, Err}
use Rattle.vb_virtio.specs.Tests.{one_if}
use Rattle.vb_core.specs.declared.kinds.Kind.{Kind}
use Rattle.vb_core.specs.declared.device.Denial.{Denial}
use Rattle.vb_core.specs.declared.device.Denial.TheVariants.{BadArgument, NoQueue, Misplaced}
use Rattle.vb_core.specs.declared.settings.Settings.{Settings}
use Rattle.vb_status.specs.declared.bits.StatusFault.{StatusFault}
use Rattle.vb_core.specs.Devices.{with_ring, placed, place_denial}
use Rattle.vb_core.specs.Statuses.{status_denial}
use Rattle.vb_core.specs.Saved.{restored}
use Rattle.vb_monitor.specs.declared.regions.Region.{Region}
use Rattle.vb_monitor.specs.declared.balloon.Balloon.{Balloon}
use Rattle.vb_monitor.specs.declared.placing.RestoreDenial.{RestoreDenial}
use Rattle.vb_monitor.specs.declared.placing.RestoreDenial.TheVariants.{State, Elsewhere}
use Rattle.vb_monitor.specs.Balloons.{after_status, becomes_ready}
use Rattle.vb_monitor.specs.Places.{balloon_over, may_be_memory, ending_with, Lies, RestoresBy}
use Rattle.vb_monitor.specs.Codes.{code_of}
use Rattle.vb_c.specs.Codes.{code_in, number_in}
use Rattle.vb_c.specs.Saving.{code_of_state}

-- A balloon is made over regions, where there may be one, and else stays as it is.
pub record StartsOver (settings : Settings) (regions : List Region) (b1 b2 : Balloon) (result : ℕ) :
    Type 0 where
  pub made : (b : Balloon) → balloon_over settings regions ≡ Some b → (result ≡ 0) × (b2 ≡ b)
  pub denied : balloon_over settings regions ≡ None →
      (result ≡ code_of BadArgument) × (b2 ≡ b1)

-- Memory ends with these regions from now on, where it may.
pub record MapsAnew (regions : List Region) (b1 b2 : Balloon) (result : ℕ) : Type 0 where
  pub mapped : may_be_memory b1.device.settings regions ≡ true →
      (result ≡ 0) × (b2 ≡ record b1 {
        device = record (b1.device) { settings = ending_with b1.device.settings regions };
      })
  pub denied : may_be_memory b1.device.settings regions ≡ false →
      (result ≡ code_of BadArgument) × (b2 ≡ b1)

-- A queue's place is refused, or lies in a hole, or is taken.
pub record PlacesOver (kind : Kind) (regions : List Region) (table avail used size : ℕ)
    (b1 b2 : Balloon) (result : ℕ) : Type 0 where
  pub answer : Result (Unit {0}) Denial
  pub denied : (why : Denial) →
      place_denial kind (placed table avail used size) b1.device ≡ Some why →
      (answer ≡ Err why) × (b2 ≡ b1)
  pub misplaced : place_denial kind (placed table avail used size) b1.device ≡ None →
      (¬ Lies regions (placed table avail used size)) →
      (answer ≡ Err Misplaced) × (b2 ≡ b1)
  pub placed_so : place_denial kind (placed table avail used size) b1.device ≡ None →
      Lies regions (placed table avail used size) →
      (answer ≡ Ok tt) × (b2 ≡ record b1 {
        device = with_ring kind (placed table avail used size) b1.device;
      })
  pub code : result ≡ code_in answer

abbrev pub PlacesOverFor : Option Kind → List Region → ℕ → ℕ → ℕ → ℕ → Balloon → Balloon → ℕ →
    Type 0
PlacesOverFor None regions table avail used size b1 b2 result =
    (result ≡ code_of NoQueue) × (b2 ≡ b1)
PlacesOverFor (Some kind) regions table avail used size b1 b2 result =
    PlacesOver kind regions table avail used size b1 b2 result

-- A write of the status is refused, or accepted, and then each queue may have to be looked at (1),
-- and the set of ballooned pages be emptied (2).
pub record SetsStatus (write : ℕ) (b1 b2 : Balloon) (next result : ℕ) : Type 0 where
  pub denied : (why : StatusFault) → status_denial write b1.device ≡ Some why →
      (result ≡ number_in (Err why)) × (next ≡ 0) × (b2 ≡ b1)
  pub accepted : status_denial write b1.device ≡ None →
      (result ≡ 0) × (next ≡ one_if (becomes_ready write b1) + 2 * one_if (write == 0)) ×
      (b2 ≡ after_status write b1)

-- The code of why a balloon isn't restored.
abbrev pub code_of_restore : Result (Unit {0}) RestoreDenial → ℕ
code_of_restore (Ok done) = 0
code_of_restore (Err (State why)) = code_of_state why
code_of_restore (Err Elsewhere) = code_of Misplaced

-- The balloon is that of the bytes, or stays as it is.
pub record RestoresOver (regions : List Region) (bytes : List ℕ) (b1 b2 : Balloon) (result : ℕ) :
    Type 0 where
  pub answer : Result (Unit {0}) RestoreDenial
  pub restores : RestoresBy (restored bytes) regions b1 b2 answer
  pub code : result ≡ code_of_restore answer
