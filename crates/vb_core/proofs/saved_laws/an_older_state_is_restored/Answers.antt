use Rattle.vb_core.proofs.Restoring.{older_restored, oldest_restored}
use Rattle.vb_core.proofs.saved_laws.an_older_state_is_restored.Goals as goal

pub returns-clause-older : goal.returns-clause-older
returns-clause-older c = λ s f none h. older_restored s f none h

pub returns-clause-oldest : goal.returns-clause-oldest
returns-clause-oldest c = λ s f none hints h. oldest_restored s f none hints h
