use Rattle.std.proofs.Common.{◌≡◌, ℕ, ◌<◌, [], get_or, List}
use Rattle.vb_driver.proofs.queue.forget_all.Given as goal

abbrev pub invariant-loop-k : goal.invariant-loop-k
invariant-loop-k l = (k : ℕ) (d : List ℕ) → k < l.k → get_or l.sent k d ≡ []
