use Rattle.vb_core.proofs.Restoring.{only_saved}
use Rattle.vb_core.proofs.saved_laws.only_what_was_saved_is_restored.Goals as goal

pub returns : goal.returns
returns c = λ bytes s all e. only_saved bytes s all e
