use Rattle.std.proofs.Common.{◌≡◌, ◌*◌, ◌≤◌, sum_by, take}
use Rattle.vb_policy.specs.Settling.{settled}
use Rattle.vb_policy.proofs.settle.all_settled.Given as goal

abbrev pub invariant-loop-guest : goal.invariant-loop-guest
invariant-loop-guest l =
    (l.pages ≡ sum_by (settled l.host l.division l.gap) (take l.guest-index l.guests))
    × (l.pages ≤ 4294967295 * l.guest-index)
