use Rattle.vb_model.proofs.Agreeing.{honest_agree}
use Rattle.vb_model.proofs.laws.honest_steps_agree.Goals as goal

pub returns : goal.returns
returns c = record { agree = honest_agree }
