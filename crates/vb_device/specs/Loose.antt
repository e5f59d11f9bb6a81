-- Frames that were taken from pages, in any order, and how they go to who keeps them.
use Rattle.std.specs.Prelude.{◌≡◌, ℕ, ◌+◌, ◌≤◌, true, false, List, [], ◌∷◌, length}
use Rattle.std.specs.Prelude.{Option, Some, None}
use Rattle.vb_virtio.specs.Tests.{times, one_if}
use Rattle.vb_ram.specs.Pages.{Page}
use Rattle.vb_ram.specs.Part.{Part}
use Rattle.vb_device.specs.Own.{has}

-- Just these frames, in any order.
abbrev pub SameFrames : List ℕ → List ℕ → Type 0
SameFrames frames others = (n : ℕ) → times n frames ≡ times n others

-- Some loose frame is given out, the device's or the host's, if there is one.
abbrev pub PopsLoose : Part → Part → Option Page → Type 0
PopsLoose p1 p2 None = (p1.loose ≡ []) × (p2 ≡ p1)
PopsLoose p1 p2 (Some frame) =
    SameFrames p1.loose (frame.number ∷ p2.loose) × (length p1.loose ≡ length p2.loose + 1) ×
    (p2 ≡ record p1 { loose = p2.loose })

-- Some loose frames go: these are given out, and the others were the device's own and are out no
-- more.
pub record GoBack (p1 p2 : Part) (given : List ℕ) : Type 0 where
  pub part : p2 ≡ record p1 { loose = p2.loose; own = p2.own }
  pub fewer : length p2.loose + length given ≤ length p1.loose
  pub own : (n : ℕ) → has p2.own n ≡ true → has p1.own n ≡ true
  pub balance : (n : ℕ) → times n p1.loose + one_if (has p2.own n) ≡
      times n p2.loose + times n given + one_if (has p1.own n)

-- A loose frame that isn't the device's own is given out; where there is none, no frame is loose
-- any more.
abbrev pub HandsBack : Part → Part → Option Page → Type 0
HandsBack p1 p2 None = GoBack p1 p2 [] × (p2.loose ≡ [])
HandsBack p1 p2 (Some frame) =
    GoBack p1 p2 (frame.number ∷ []) × (has p2.own frame.number ≡ false)
