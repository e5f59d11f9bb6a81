use Rattle.std.proofs.Common.{◌≡◌, ℕ, List, [], replicate}
use Rattle.vb_driver.proofs.queue.RequestQueue.new.Given as goal

abbrev pub invariant-loop-head : goal.invariant-loop-head
invariant-loop-head l = l.sent.items ≡ replicate {A = List ℕ} l._head []
