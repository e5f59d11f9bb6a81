use Rattle.vb_policy.proofs.Later.{monotone}
use Rattle.vb_policy.proofs.laws.parts_are_monotone.Goals as goal

pub returns : goal.returns
returns c = monotone
