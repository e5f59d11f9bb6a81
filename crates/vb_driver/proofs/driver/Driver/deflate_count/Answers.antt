use Rattle.std.proofs.Common.{arith}
use Rattle.vb_driver.proofs.driver.Driver.deflate_count.Goals as goal

pub returns : goal.returns
returns c = grind arith
