use Rattle.std.proofs.Common.{◌≡◌, ◌*◌, ◌≤◌, sum_by, take}
use Rattle.vb_policy.specs.Divisions.{fair}
use Rattle.vb_policy.proofs.level.all_fair.Given as goal

abbrev pub invariant-loop-guest : goal.invariant-loop-guest
invariant-loop-guest l = (l.pages ≡ sum_by (fair l.division) (take l.guest-index l.guests))
    × (l.pages ≤ 4294967295 * l.guest-index)
