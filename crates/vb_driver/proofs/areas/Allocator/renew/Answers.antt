use Rattle.std.proofs.Common.{arith}
use Rattle.vb_driver.proofs.areas.Allocator.renew.Goals as goal

pub returns : goal.returns
returns c = grind arith
