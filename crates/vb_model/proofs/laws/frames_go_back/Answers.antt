use Rattle.vb_model.proofs.Fates.{no_frames_left, restarted_honest}
use Rattle.vb_model.proofs.laws.frames_go_back.Goals as goal

pub returns : goal.returns
returns c = record { frames = no_frames_left; honest = restarted_honest }
