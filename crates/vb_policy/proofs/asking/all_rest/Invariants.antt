use Rattle.std.proofs.Common.{◌≡◌, ◌*◌, ◌≤◌, sum_by, take}
use Rattle.vb_policy.specs.Asking.{rest}
use Rattle.vb_policy.proofs.asking.all_rest.Given as goal

abbrev pub invariant-loop-guest : goal.invariant-loop-guest
invariant-loop-guest l = (l.pages ≡ sum_by (rest l.budget) (take l.guest-index l.figures))
    × (l.pages ≤ 4294967295 * l.guest-index)
