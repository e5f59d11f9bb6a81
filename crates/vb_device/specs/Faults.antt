-- What a device does where it finds a fault in what its guest wrote.
use Rattle.std.specs.Prelude.{◌≡◌, ℕ, Result, Err, Option, bit_or}
use Rattle.vb_virtio.specs.declared.refusals.Refusal.{Refusal}
use Rattle.vb_virtio.specs.declared.refusals.Refusal.TheVariants.{Broken}
use Rattle.vb_virtio.specs.Status.{needs_reset}
use Rattle.vb_ram.specs.Part.{Part}
use Rattle.vb_chain.specs.declared.fault.ChainFault.{ChainFault}
use Rattle.vb_request.specs.Refusals.{rule_of}

-- DEVICE_NEEDS_RESET is set (VIRTIO 1.1, 2.1.2), and nothing else is changed.
abbrev pub needing_reset : Part → Part
needing_reset part = record part { status = bit_or part.status needs_reset }

-- The answer to a chain that breaks a rule, and what it leaves.
pub record Breaks (fault : ChainFault) (p1 p2 : Part)
    (result : Result (Option ℕ) Refusal) : Type 0 where
  pub answer : result ≡ Err (Broken (rule_of fault))
  pub part : p2 ≡ needing_reset p1
