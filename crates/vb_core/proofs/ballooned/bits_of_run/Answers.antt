use Rattle.std.proofs.Common.{arith}
use Rattle.vb_core.proofs.MarkLemmas.{without_bit, run_bit}
use Rattle.vb_core.proofs.ballooned.bits_of_run.Goals as goal

pub returns : goal.returns
returns c = grind (arith, without_bit, run_bit)
