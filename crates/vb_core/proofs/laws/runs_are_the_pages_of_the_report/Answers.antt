use Rattle.vb_core.proofs.RunLemmas.{runs_of_pieces}
use Rattle.vb_core.proofs.laws.runs_are_the_pages_of_the_report.Goals as goal

pub returns : goal.returns
returns c = runs_of_pieces
