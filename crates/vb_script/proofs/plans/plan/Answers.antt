use Rattle.{std.proofs.Common.rules, vb_script.specs.Plans.plan_of}
use Rattle.vb_script.proofs.plans.plan.Goals as goal

pub returns-then-not-is_plan : goal.returns-then-not-is_plan
unfolding plan_of
returns-then-not-is_plan c = search rules

pub returns : goal.returns
unfolding plan_of
returns c = search rules
