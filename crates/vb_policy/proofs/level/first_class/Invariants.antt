use Rattle.std.proofs.Common.{ℕ, ◌-◌, ◌<◌, ◌≤◌, sum_by}
use Rattle.vb_policy.specs.Tiers.{high}
use Rattle.vb_policy.proofs.level.first_class.Given as goal

abbrev pub invariant-loop-first : goal.invariant-loop-first
invariant-loop-first l = record {
  ordered : l.first ≤ l.last;
  before : (p : ℕ) → p < l.first → sum_by (high l.tier p) l.guests < l.lack;
  enough : l.lack ≤ sum_by (high l.tier l.last) l.guests;
}

abbrev pub decreases-loop-first : goal.decreases-loop-first
decreases-loop-first l = l.last - l.first
