use Rattle.vb_model.proofs.SafeRunFacts.{empty_run}
use Rattle.vb_model.proofs.laws.no_events_change_nothing.Goals as goal

pub returns : goal.returns
returns c = record { empty = empty_run }
