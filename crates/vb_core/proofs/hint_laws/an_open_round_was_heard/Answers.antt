use Rattle.vb_core.proofs.HintLemmas.{was_heard}
use Rattle.vb_core.proofs.hint_laws.an_open_round_was_heard.Goals as goal

pub returns : goal.returns
returns c = λ events r none o. was_heard events r none o
