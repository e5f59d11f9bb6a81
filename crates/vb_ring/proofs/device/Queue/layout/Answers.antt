use Rattle.std.proofs.Common.{subst}
use Rattle.vb_ring.specs.Ends.{IsDeviceEnd}
use Rattle.vb_ring.proofs.device.Queue.layout.Goals as goal

pub returns-clause-is_end : goal.returns-clause-is_end
returns-clause-is_end c = subst IsDeviceEnd c.self.view_is c.self.invariant
