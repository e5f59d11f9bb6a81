use Rattle.vb_policy.proofs.Order.{little_more}
use Rattle.vb_policy.proofs.laws.no_more_than_asked.Goals as goal

pub returns : goal.returns
returns c = little_more
