use Rattle.vb_model.proofs.HostSteps.{hosts_agree, call_leaves_host}
use Rattle.vb_model.proofs.laws.host_steps_agree.Goals as goal

pub returns : goal.returns
returns c = record { agree = hosts_agree; calls = call_leaves_host }
