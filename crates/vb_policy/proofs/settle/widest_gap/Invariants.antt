use Rattle.std.proofs.Common.{◌-◌, ◌<◌, ◌≤◌, sum_by}
use Rattle.vb_policy.specs.Settling.{settled}
use Rattle.vb_policy.proofs.settle.widest_gap.Given as goal

abbrev pub invariant-loop-too_wide : goal.invariant-loop-too_wide
invariant-loop-too_wide l = record {
  ordered : l.gap < l.too_wide;
  enough : l.host.lack ≤ sum_by (settled l.host l.division l.gap) l.guests;
  too_few : sum_by (settled l.host l.division l.too_wide) l.guests < l.host.lack;
}

abbrev pub decreases-loop-too_wide : goal.decreases-loop-too_wide
decreases-loop-too_wide l = l.too_wide - l.gap
