use Rattle.vb_shared.proofs.Keeps.{stepped}
use Rattle.vb_shared.proofs.laws.each_kind_of_step_keeps_the_rule.Goals as goal

pub returns : goal.returns
returns c = stepped
