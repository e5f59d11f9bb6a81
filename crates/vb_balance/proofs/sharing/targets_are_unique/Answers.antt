use Rattle.vb_virtio.proofs.Unique.{unique}
use Rattle.vb_balance.proofs.sharing.targets_are_unique.Goals as goal

pub returns : goal.returns
returns c = λ needs frames one other a b. unique needs frames one other a b
