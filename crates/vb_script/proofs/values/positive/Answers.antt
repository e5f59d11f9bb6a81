use Rattle.std.{proofs.Common.arith, proofs.lemmas.Bool.Decides.nat_tests}
use Rattle.vb_script.specs.Values.{positive_of}
use Rattle.vb_script.proofs.values.positive.Goals as goal

pub returns : goal.returns
unfolding positive_of
returns c = grind (arith, nat_tests)
