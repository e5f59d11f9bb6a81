use Rattle.vb_model.proofs.Histories.{quiet_agree}
use Rattle.vb_model.proofs.laws.quiet_guests_agree.Goals as goal

pub returns : goal.returns
returns c = record { quiet = quiet_agree }
