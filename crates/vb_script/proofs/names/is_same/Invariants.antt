use Rattle.std.proofs.Common.{◌≡◌, bytes_eq, drop}
use Rattle.vb_script.proofs.names.is_same.Given as goal

abbrev pub invariant-loop-index : goal.invariant-loop-index
invariant-loop-index l =
    bytes_eq (drop l.index l.name) (drop l.index l.word) ≡ bytes_eq l.name l.word
