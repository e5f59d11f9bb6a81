-- Claims of a device's own frames, and their return (profile).
use Rattle.std.specs.Prelude.{◌≡◌, Bool, true, false, ◌∷◌, Option, Some, None, ⊤}
use Rattle.vb_model.specs.declared.calls.Claim.{Claim}
use Rattle.vb_model.specs.declared.calls.Claim.TheVariants.{Gave as GaveNumber, GaveNoFrame}
use Rattle.vb_model.specs.declared.calls.Claim.TheVariants.{GaveNoMemory}
use Rattle.vb_virtio.specs.Memory.{zero_page}
use Rattle.vb_ram.specs.Pages.{Page}
use Rattle.vb_ram.specs.Part.{Part}
use Rattle.vb_device.specs.declared.claimed.Claimed.{Claimed}
use Rattle.vb_device.specs.declared.claimed.Claimed.TheVariants.{Gave, AskHost, NoFrame, NoMemory}
use Rattle.vb_device.specs.Own.{has, without, SameSet}

-- A claim: a device that keeps no frames asks the host; one that does gives a frame of zeros whose
-- number wasn't out, or has none, or no memory for its bytes; then the same numbers are out.
abbrev pub Claims : Part → Part → Claimed → Type 0
Claims p1 p2 AskHost = (p1.keeps ≡ false) × (p2 ≡ p1)
Claims p1 p2 (Gave frame) =
    (p1.keeps ≡ true) × (frame.bytes ≡ zero_page) × (has p1.own frame.number ≡ false) ×
    SameSet p2.own (frame.number ∷ p1.own) × (p2 ≡ record p1 { own = p2.own })
Claims p1 p2 NoFrame =
    (p1.keeps ≡ true) × SameSet p2.own p1.own × (p2 ≡ record p1 { own = p2.own })
Claims p1 p2 NoMemory =
    (p1.keeps ≡ true) × SameSet p2.own p1.own × (p2 ≡ record p1 { own = p2.own })

-- Where a device answers a claim itself, it may answer so.
abbrev pub IsAnswered : (Claim → Bool) → Claimed → Type 0
IsAnswered may AskHost = ⊤
IsAnswered may (Gave frame) = may (GaveNumber frame.number) ≡ true
IsAnswered may NoFrame = may GaveNoFrame ≡ true
IsAnswered may NoMemory = may GaveNoMemory ≡ true

-- A frame whose number is one of the device's own is kept, and any other comes back as it is.
abbrev pub PutsBack : Part → Part → Page → Option Page → Type 0
PutsBack p1 p2 frame None =
    (has p1.own frame.number ≡ true) × SameSet p2.own (without p1.own frame.number) ×
    (p2 ≡ record p1 { own = p2.own })
PutsBack p1 p2 frame (Some back) = (has p1.own frame.number ≡ false) × (back ≡ frame) × (p2 ≡ p1)
