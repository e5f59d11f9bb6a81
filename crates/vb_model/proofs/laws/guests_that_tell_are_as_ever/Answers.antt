use Rattle.vb_model.proofs.Telling.{told_agree}
use Rattle.vb_model.proofs.laws.guests_that_tell_are_as_ever.Goals as goal

pub returns : goal.returns
returns c = record { agree = told_agree }
