use Rattle.std.proofs.Common.{arith}
use Rattle.vb_driver.proofs.driver.Driver.places.Goals as goal

pub returns-clause-counts : goal.returns-clause-counts
returns-clause-counts c = grind arith
