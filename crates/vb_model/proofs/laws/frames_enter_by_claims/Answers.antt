use Rattle.vb_model.{proofs.Entering.frames_enter, proofs.Wanting.refused_claims}
use Rattle.vb_model.proofs.laws.frames_enter_by_claims.Goals as goal

pub returns : goal.returns
returns c = record { enter = frames_enter; refused = refused_claims }
