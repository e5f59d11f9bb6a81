use Rattle.std.proofs.Common.{◌≡◌, replicate, None, vec_len}
use Rattle.vb_ram.proofs.memory.Ram.new.Given as goal

abbrev pub invariant-loop-made : goal.invariant-loop-made
invariant-loop-made l =
    record { count : vec_len l.all ≡ l._made; bare : l.all.items ≡ replicate l._made None }
