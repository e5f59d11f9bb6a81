use Rattle.vb_model.proofs.Runs.{fit_at}
use Rattle.vb_model.proofs.laws.pages_without_frames_are_blank.Goals as goal

pub returns : goal.returns
returns c =
    record
    { blank = λ frames spares h r n i g honest. (fit_at frames spares h r n i g honest).blank }
