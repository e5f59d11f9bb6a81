use Rattle.std.proofs.Common.{◌≡◌, ◌+◌, ◌*◌, ◌≤◌, take}
use Rattle.vb_balance.specs.Levels.{spared_from}
use Rattle.vb_balance.proofs.levels.spared_above.Given as goal

abbrev pub invariant-loop-need : goal.invariant-loop-need
invariant-loop-need l = (l.pages ≡ spared_from (take l.need-index l.needs) (l.level + 1))
    × (l.pages ≤ 4294967295 * l.need-index)
