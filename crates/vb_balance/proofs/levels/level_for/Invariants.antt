use Rattle.std.proofs.Common.{◌+◌, ◌-◌, ◌≤◌}
use Rattle.vb_balance.specs.Levels.{spared_from}
use Rattle.vb_balance.proofs.levels.level_for.Given as goal

abbrev pub invariant-loop-low : goal.invariant-loop-low
invariant-loop-low l = record {
  ordered : l.low ≤ l.high;
  fits : spared_from l.needs (l.high + 1) ≤ l.lack;
  enough : l.lack ≤ spared_from l.needs l.low;
}

abbrev pub decreases-loop-low : goal.decreases-loop-low
decreases-loop-low l = l.high - l.low
