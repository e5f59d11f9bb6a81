use Rattle.vb_policy.proofs.Enough.{not_in_vain}
use Rattle.vb_policy.proofs.laws.nobody_waits_in_vain.Goals as goal

pub returns : goal.returns
returns c = not_in_vain
