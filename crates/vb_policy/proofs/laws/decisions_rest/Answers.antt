use Rattle.vb_policy.proofs.Rest.{at_rest}
use Rattle.vb_policy.proofs.laws.decisions_rest.Goals as goal

pub returns : goal.returns
returns c = at_rest
