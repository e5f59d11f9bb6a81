use Rattle.std.proofs.Common.{arith, count_ones}
use Rattle.vb_bits.proofs.Words.{at_place}
use Rattle.vb_core.proofs.CountLemmas.{count_more}
use Rattle.vb_core.proofs.ballooned.count_ballooned.Goals as goal

pub loop-word-preserved : goal.loop-word-preserved
loop-word-preserved c = grind (arith, count_ones, count_more, at_place)
