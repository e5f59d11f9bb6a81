use Rattle.std.proofs.Common.{arith}
use Rattle.vb_driver.proofs.driver.Driver.init.Goals as goal

pub zero_rings-requires-clause-backed : goal.zero_rings-requires-clause-backed
zero_rings-requires-clause-backed g c = grind arith

pub start-requires-clause-backed : goal.start-requires-clause-backed
start-requires-clause-backed g c page start = grind arith
