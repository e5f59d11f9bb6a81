use Rattle.std.{proofs.Common.{◌≡◌, true, take}, specs.List.list_all}
use Rattle.vb_run.specs.Plans.{is_guest_plan}
use Rattle.vb_run.proofs.plan.are_guest_plans.Given as goal

abbrev pub invariant-loop-guest : goal.invariant-loop-guest
invariant-loop-guest l = list_all is_guest_plan (take l.guest-index l.guests) ≡ true
