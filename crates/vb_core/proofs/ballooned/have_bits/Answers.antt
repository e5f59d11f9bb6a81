use Rattle.std.{proofs.Common.arith, proofs.lemmas.Bool.not-false, proofs.lemmas.List.take_all}
use Rattle.vb_core.proofs.MarkLemmas.{some_past, any_of_runs}
use Rattle.vb_core.proofs.ballooned.have_bits.Goals as goal

pub returns-then-not-has_bits : goal.returns-then-not-has_bits
returns-then-not-has_bits c = grind (arith, some_past, not-false)

pub returns : goal.returns
returns c = grind (arith, any_of_runs, take_all)
