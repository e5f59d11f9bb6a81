use Rattle.std.proofs.Common.{ℕ, ◌<◌, ◌≤◌}
use Rattle.vb_virtio.specs.Targets.{spare_at}
use Rattle.vb_balance.proofs.levels.most_spare.Given as goal

abbrev pub invariant-loop-need : goal.invariant-loop-need
invariant-loop-need l = (i : ℕ) → i < l.need-index → spare_at l.needs i ≤ l.most
