use Rattle.std.proofs.Common.{◌≡◌}
use Rattle.vb_tests.proofs.tests.notices.scribbled.Scribbled.take_bytes.Given as goal

abbrev pub invariant-loop-k : goal.invariant-loop-k
invariant-loop-k g l = l.self.trace ≡ l.fn.self.trace
