use Rattle.vb_policy.proofs.Fairness.{fair_parts}
use Rattle.vb_policy.proofs.laws.parts_are_fair.Goals as goal

pub returns : goal.returns
returns c = fair_parts
