use Rattle.std.proofs.Common.{◌≡◌, take}
use Rattle.vb_core.specs.Format.{checksum}
use Rattle.vb_core.proofs.format.checksum.Given as goal

abbrev pub invariant-loop-byte : goal.invariant-loop-byte
invariant-loop-byte l = l.sum ≡ checksum (take l.byte-index l.bytes)
