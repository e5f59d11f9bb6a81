use Rattle.std.proofs.Common.{arith}
use Rattle.vb_driver.proofs.places.PlaceTable.set_block.Goals as goal

pub returns : goal.returns
returns c = grind arith
