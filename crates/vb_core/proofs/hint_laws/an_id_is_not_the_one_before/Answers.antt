use Rattle.vb_core.proofs.HintLemmas.{next_is_id, next_is_other, next_fits}
use Rattle.vb_core.proofs.hint_laws.an_id_is_not_the_one_before.Goals as goal

pub returns-clause-id : goal.returns-clause-id
returns-clause-id c = next_is_id

pub returns-clause-other : goal.returns-clause-other
returns-clause-other c = next_is_other

pub returns-clause-fits : goal.returns-clause-fits
returns-clause-fits c = next_fits
