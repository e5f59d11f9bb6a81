-- A device's state, and what its calls are refused for.
use Rattle.std.specs.Prelude.{ℕ, Bool, true, not, ◌||◌, List, [], ◌∷◌, if◌then◌else◌, Option, Some}
use Rattle.std.specs.Prelude.{None, bit_or}
use Rattle.vb_virtio.specs.Status.{contains, driver_ok, needs_reset, is_not_ready, has_fault}
use Rattle.vb_core.specs.declared.settings.Settings.{Settings}
use Rattle.vb_core.specs.declared.ring.Virtqueue.{Virtqueue}
use Rattle.vb_core.specs.declared.kinds.Kind.{Kind}
use Rattle.vb_core.specs.declared.kinds.Kind.TheVariants.{Inflate, Deflate, Statistics, Hint}
use Rattle.vb_core.specs.declared.kinds.Kind.TheVariants.{Report}
use Rattle.vb_core.specs.declared.device.Denial.{Denial}
use Rattle.vb_core.specs.declared.device.Denial.TheVariants.{NoQueue, BadArgument, NotReady}
use Rattle.vb_core.specs.declared.device.Denial.TheVariants.{NeedsReset, Misplaced}
use Rattle.vb_core.specs.declared.device.Device.{Device}
use Rattle.vb_core.specs.Settings.{are_settings}
use Rattle.vb_core.specs.Rings.{no_ring, has_place, with_taken}
use Rattle.vb_core.specs.Kinds.{lacks}
use Rattle.vb_core.specs.Hints.{no_round}

-- ---- the state

-- A device that waits for its driver.
abbrev pub new_device : Settings → Device
new_device settings = record {
  settings = settings;
  features = 0;
  target = 0;
  actual = 0;
  inflate = no_ring;
  deflate = no_ring;
  statistics = no_ring;
  hint = no_ring;
  report = no_ring;
  poison = 0;
  round = no_round;
  status = 0;
}

abbrev pub ring_of : Kind → Device → Virtqueue
ring_of Inflate d = d.inflate
ring_of Deflate d = d.deflate
ring_of Statistics d = d.statistics
ring_of Hint d = d.hint
ring_of Report d = d.report

-- The device with this ring of the kind's queue.
abbrev pub with_ring : Kind → Virtqueue → Device → Device
with_ring Inflate r d = record d { inflate = r }
with_ring Deflate r d = record d { deflate = r }
with_ring Statistics r d = record d { statistics = r }
with_ring Hint r d = record d { hint = r }
with_ring Report r d = record d { report = r }

-- One more available entry of the kind's queue is taken.
abbrev pub with_one_taken : Kind → Device → Device
with_one_taken kind d = with_ring kind (with_taken (ring_of kind d)) d

-- DEVICE_NEEDS_RESET is set (VIRTIO 1.1, 2.1.2), and nothing else is changed.
abbrev pub needing_reset : Device → Device
needing_reset d = record d { status = bit_or d.status needs_reset }

-- A ring of these parts from which nothing was taken.
abbrev pub placed : ℕ → ℕ → ℕ → ℕ → Virtqueue
placed table avail used size = record {
  table = table;
  avail = avail;
  used = used;
  size = size;
  next_avail = 0;
  next_used = 0;
}

-- ---- refusals

-- A condition, and what is answered where it holds and none before it does.
pub record DenialTest : Type 0 where
  pub holds : Bool
  pub denial : Denial

infix 3 ◌⇛◌
abbrev pub ◌⇛◌ : Bool → Denial → DenialTest
holds ⇛ denial = record { holds = holds; denial = denial }

abbrev pub first_denial : List DenialTest → Option Denial
first_denial [] = None
first_denial (test ∷ tests) = if test.holds then Some test.denial else first_denial tests

-- What a call on a kind's queue is refused for, where the call is for that kind, and its arguments
-- fit, or not.
abbrev pub call_denial : Kind → Bool → Bool → Device → Option Denial
call_denial kind known fits d =
    first_denial
    ((not known ⇛ NoQueue)
    ∷ ((not fits || not (are_settings d.settings)) ⇛ BadArgument)
    ∷ (is_not_ready d.status ⇛ NotReady)
    ∷ (has_fault d.status ⇛ NeedsReset)
    ∷ (lacks d.features kind ⇛ NoQueue)
    ∷ (not (has_place d.settings.memory_end (ring_of kind d)) ⇛ Misplaced)
    ∷ [])

-- What the use of a kind's queue is refused for, before anything of it is read.
abbrev pub queue_denial : Kind → Device → Option Denial
queue_denial kind d = call_denial kind true true d

-- What a place of a kind's queue is refused for.
abbrev pub place_denial : Kind → Virtqueue → Device → Option Denial
place_denial kind ring d =
    first_denial
    (((contains d.status driver_ok || not (are_settings d.settings)) ⇛ BadArgument)
    ∷ (lacks d.features kind ⇛ NoQueue)
    ∷ (not (has_place d.settings.memory_end ring) ⇛ Misplaced)
    ∷ [])
