use Rattle.std.proofs.Common.{◌-◌, ◌<◌, ◌≤◌, sum_by}
use Rattle.vb_policy.specs.Divisions.{share}
use Rattle.vb_policy.proofs.level.most_kept.Given as goal

abbrev pub invariant-loop-too_much : goal.invariant-loop-too_much
invariant-loop-too_much l = record {
  ordered : l.kept < l.too_much;
  enough : l.lack ≤ sum_by (share l.tier l.priority l.kept) l.guests;
  too_few : sum_by (share l.tier l.priority l.too_much) l.guests < l.lack;
}

abbrev pub decreases-loop-too_much : goal.decreases-loop-too_much
decreases-loop-too_much l = l.too_much - l.kept
