use Rattle.{std.proofs.Common.arith, vb_driver.proofs.Placing.{marked_none, placed_next}}
use Rattle.vb_driver.proofs.places.ranges.put_all.Goals as goal

pub loop-page-init : goal.loop-page-init
loop-page-init c = grind (arith, marked_none)

pub loop-page-preserved : goal.loop-page-preserved
loop-page-preserved c = grind (arith, placed_next)
