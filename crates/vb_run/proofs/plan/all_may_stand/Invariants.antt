use Rattle.std.{proofs.Common.{◌≡◌, true, take}, specs.List.list_all}
use Rattle.vb_run.specs.Plans.{may_stand}
use Rattle.vb_run.proofs.plan.all_may_stand.Given as goal

abbrev pub invariant-loop-call : goal.invariant-loop-call
invariant-loop-call l = list_all (may_stand l.cpu) (take l.call-index l.calls) ≡ true
