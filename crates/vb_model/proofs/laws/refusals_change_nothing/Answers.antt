use Rattle.vb_model.proofs.Refusing.{refusals_change_nothing, refused_events_change_nothing}
use Rattle.vb_model.proofs.laws.refusals_change_nothing.Goals as goal

pub returns : goal.returns
returns c = record { calls = refusals_change_nothing; events = refused_events_change_nothing }
