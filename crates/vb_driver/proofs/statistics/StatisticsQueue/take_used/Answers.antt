use Rattle.{std.proofs.Common.arith, vb_driver.proofs.{OneBuffer.tells_of, Shapes.ring_inside}}
use Rattle.vb_driver.proofs.statistics.StatisticsQueue.take_used.Goals as goal

pub take_used-requires : goal.take_used-requires
take_used-requires g c = grind (arith, ring_inside)

pub returns-clause-next : goal.returns-clause-next
returns-clause-next g c = grind (arith, tells_of)
