use Rattle.vb_core.proofs.RunLemmas.{run_added, ends_of_new}
use Rattle.std.proofs.Common.{arith}
use Rattle.vb_core.proofs.runs.add_page.Goals as goal

pub returns-clause-told : goal.returns-clause-told
returns-clause-told c ns short t = grind (arith, run_added, ends_of_new)
