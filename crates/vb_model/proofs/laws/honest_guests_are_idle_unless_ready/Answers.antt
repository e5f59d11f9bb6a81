use Rattle.vb_model.proofs.Runs.{fit_at}
use Rattle.vb_model.proofs.laws.honest_guests_are_idle_unless_ready.Goals as goal

pub returns : goal.returns
returns c =
    record
    { idle = λ frames spares h r n i g honest. (fit_at frames spares h r n i g honest).attentive }
