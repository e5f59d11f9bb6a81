use Rattle.vb_model.proofs.Fates.{rogues_made, scribbles_make_rogues, rogues_stay}
use Rattle.vb_model.proofs.laws.rogues_are_made_by_scribbles.Goals as goal

pub returns : goal.returns
returns c = record { made = rogues_made; scribbled = scribbles_make_rogues; stay = rogues_stay }
