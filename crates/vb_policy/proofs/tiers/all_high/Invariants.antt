use Rattle.std.proofs.Common.{◌≡◌, ◌*◌, ◌≤◌, sum_by, take}
use Rattle.vb_policy.specs.Tiers.{high}
use Rattle.vb_policy.proofs.tiers.all_high.Given as goal

abbrev pub invariant-loop-guest : goal.invariant-loop-guest
invariant-loop-guest l =
    (l.pages ≡ sum_by (high l.tier l.priority) (take l.guest-index l.guests))
    × (l.pages ≤ 4294967295 * l.guest-index)
