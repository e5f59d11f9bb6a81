use Rattle.vb_model.proofs.HonestRuns.{honest_stay}
use Rattle.vb_model.proofs.laws.honest_guests_stay_honest.Goals as goal

pub returns : goal.returns
returns c = record { stay = honest_stay }
