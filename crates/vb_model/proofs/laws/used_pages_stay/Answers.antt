use Rattle.vb_model.proofs.Histories.{used_pages_stay}
use Rattle.vb_model.proofs.laws.used_pages_stay.Goals as goal

pub returns : goal.returns
returns c = record { stay = used_pages_stay }
