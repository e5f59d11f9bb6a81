use Rattle.vb_core.proofs.Restoring.{saved_restored}
use Rattle.vb_core.proofs.saved_laws.what_was_saved_is_restored.Goals as goal

pub returns : goal.returns
returns c = λ s f h. saved_restored s f h
