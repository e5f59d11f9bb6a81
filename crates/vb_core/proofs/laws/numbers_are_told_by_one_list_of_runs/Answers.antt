use Rattle.vb_core.proofs.OneTelling.{told_once}
use Rattle.vb_core.proofs.laws.numbers_are_told_by_one_list_of_runs.Goals as goal

pub returns : goal.returns
returns c = told_once
