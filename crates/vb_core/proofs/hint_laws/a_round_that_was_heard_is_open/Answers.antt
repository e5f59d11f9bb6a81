use Rattle.vb_core.proofs.HintLemmas.{heard_is_open}
use Rattle.vb_core.proofs.hint_laws.a_round_that_was_heard_is_open.Goals as goal

pub returns-clause-opened : goal.returns-clause-opened
returns-clause-opened c = λ id events r next h. (heard_is_open id events r next h).0

pub returns-clause-shown : goal.returns-clause-shown
returns-clause-shown c = λ id events r next h. (heard_is_open id events r next h).1
