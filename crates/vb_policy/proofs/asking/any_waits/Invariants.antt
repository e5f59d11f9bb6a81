use Rattle.std.proofs.Common.{◌≡◌, take, false}
use Rattle.std.specs.List.{list_any}
use Rattle.vb_policy.specs.Needs.{waits}
use Rattle.vb_policy.proofs.asking.any_waits.Given as goal

abbrev pub invariant-loop-guest : goal.invariant-loop-guest
invariant-loop-guest l = list_any waits (take l.guest-index l.figures) ≡ false
