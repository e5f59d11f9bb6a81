use Rattle.vb_ring.proofs.AddLaws.{next_low}
use Rattle.vb_ring.proofs.laws.single_heads_stay_low.Goals as goal

pub returns : goal.returns
returns c = next_low
