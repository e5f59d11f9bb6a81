use Rattle.std.proofs.Common.{◌≡◌, ◌<◌, ℕ, false}
use Rattle.vb_ring.specs.Ends.{is_unused}
use Rattle.vb_ring.proofs.owners.Owners.lowest_free.Given as goal

abbrev pub invariant-loop-i : goal.invariant-loop-i
invariant-loop-i l = (j : ℕ) → j < l.i → is_unused l.self j ≡ false
