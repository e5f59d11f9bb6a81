use Rattle.vb_host.proofs.Pacing.{none_steps_in_need, steps_reach}
use Rattle.vb_host.proofs.pace.steps_reach_what_was_decided.Goals as goal

pub returns : goal.returns
returns c = record { reach = steps_reach; need = none_steps_in_need }
