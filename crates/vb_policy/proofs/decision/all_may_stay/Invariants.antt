use Rattle.std.proofs.Common.{◌≡◌, take, true}
use Rattle.std.specs.List.{list_all}
use Rattle.vb_policy.specs.Decisions.{may_stay}
use Rattle.vb_policy.proofs.decision.all_may_stay.Given as goal

abbrev pub invariant-loop-guest : goal.invariant-loop-guest
invariant-loop-guest l = list_all (may_stay l.host) (take l.guest-index l.guests) ≡ true
