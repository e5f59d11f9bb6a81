use Rattle.std.proofs.Common.{◌≡◌, length}
use Rattle.vb_run.proofs.threads.looks.Given as goal

abbrev pub invariant-loop-seat : goal.invariant-loop-seat
invariant-loop-seat g l = length l.needs.items ≡ l.seat-index
