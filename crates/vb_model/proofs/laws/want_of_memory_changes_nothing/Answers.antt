use Rattle.vb_model.{proofs.Wanting.no_memory_exact, proofs.NoMemory.wants_change_nothing}
use Rattle.vb_model.proofs.laws.want_of_memory_changes_nothing.Goals as goal

pub returns : goal.returns
returns c = record { calls = no_memory_exact; events = wants_change_nothing }
