use Rattle.vb_model.proofs.Fates.{configurations_kept}
use Rattle.vb_model.proofs.laws.configurations_are_kept.Goals as goal

pub returns : goal.returns
returns c = record { kept = configurations_kept }
