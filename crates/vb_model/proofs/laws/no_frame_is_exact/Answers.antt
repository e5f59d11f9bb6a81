use Rattle.vb_model.{proofs.Entering.want_answered, proofs.Wanting.no_frame_exact}
use Rattle.vb_model.proofs.laws.no_frame_is_exact.Goals as goal

pub returns : goal.returns
returns c = record { exact = no_frame_exact; answered = want_answered }
