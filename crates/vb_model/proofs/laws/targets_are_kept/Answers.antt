use Rattle.vb_model.proofs.Fates.{targets_kept, targets_set}
use Rattle.vb_model.proofs.laws.targets_are_kept.Goals as goal

pub returns : goal.returns
returns c = record { kept = targets_kept; set = targets_set }
