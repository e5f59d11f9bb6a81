use Rattle.vb_policy.proofs.Enough.{possible, short_least, short_most}
use Rattle.vb_policy.proofs.laws.targets_are_possible.Goals as goal

pub returns : goal.returns
returns c = record { given = possible; most = short_most; least = short_least }
