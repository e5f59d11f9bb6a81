use Rattle.std.proofs.Common.{subst}
use Rattle.vb_ring.specs.Ends.{IsDriverEnd}
use Rattle.vb_ring.proofs.driver.DriverRing.next_head.Goals as goal

pub returns-clause-is_end : goal.returns-clause-is_end
returns-clause-is_end c = subst IsDriverEnd c.self.view_is c.self.invariant
