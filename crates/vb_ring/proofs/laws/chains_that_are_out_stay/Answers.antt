use Rattle.vb_ring.proofs.AddLaws.{added_apart}
use Rattle.vb_ring.proofs.laws.chains_that_are_out_stay.Goals as goal

pub returns : goal.returns
returns c = added_apart
