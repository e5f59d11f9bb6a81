use Rattle.vb_ring.proofs.MeaningLaws.{ring_apart}
use Rattle.vb_ring.proofs.laws.other_pages_leave_a_ring_alone.Goals as goal

pub returns : goal.returns
returns c = ring_apart
