use Rattle.vb_model.proofs.Fates.{others_untouched}
use Rattle.vb_model.proofs.laws.other_guests_are_untouched.Goals as goal

pub returns : goal.returns
returns c = record { untouched = others_untouched }
