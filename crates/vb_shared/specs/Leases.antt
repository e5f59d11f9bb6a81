-- What a device that leases its frames answers to a claim, by what its pass found.
use Rattle.std.specs.Prelude.{◌≡◌, ℕ, Option, Some, None, ⊤}
use Rattle.vb_device.specs.declared.claimed.Claimed.{Claimed}
use Rattle.vb_device.specs.declared.claimed.Claimed.TheVariants.{Gave, NoFrame, NoMemory}

-- Just where the pass found no frame, none is free. Of one that it found, the device gives that
-- frame, or had no memory for its bytes. It never asks the host.
abbrev pub AnswersAs : Option ℕ → Claimed → Type 0
AnswersAs None NoFrame = ⊤
AnswersAs (Some number) (Gave frame) = frame.number ≡ number
AnswersAs (Some number) NoMemory = ⊤
AnswersAs found claimed = ⊥
