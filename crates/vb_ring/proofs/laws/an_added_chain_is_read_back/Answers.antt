use Rattle.vb_ring.proofs.AddLaws.{added_chain}
use Rattle.vb_ring.proofs.laws.an_added_chain_is_read_back.Goals as goal

pub returns : goal.returns
returns c = added_chain
