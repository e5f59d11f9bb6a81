use Rattle.std.proofs.Common.{rules}
use Rattle.vb_ring.proofs.Powers.{size_of_power}
use Rattle.vb_ring.proofs.device.Queue.set_size.Goals as goal

pub at-self-inside-requires : goal.at-self-inside-requires
at-self-inside-requires c = size_of_power c.args.size (search rules) (search rules) (search rules)
