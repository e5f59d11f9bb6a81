use Rattle.vb_policy.proofs.Order.{in_classes, in_tiers}
use Rattle.vb_policy.proofs.laws.tiers_are_in_order.Goals as goal

pub returns : goal.returns
returns c = record { tiers = in_tiers; classes = in_classes }
