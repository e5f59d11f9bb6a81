use Rattle.std.proofs.Common.{◌≡◌, ◌*◌, ◌≤◌, sum_by, take}
use Rattle.vb_balance.proofs.levels.missing.Given as goal

abbrev pub invariant-loop-need : goal.invariant-loop-need
invariant-loop-need l = (l.pages ≡ sum_by (λ n. n.pages) (take l.need-index l.needs))
    × (l.pages ≤ 4294967295 * l.need-index)
