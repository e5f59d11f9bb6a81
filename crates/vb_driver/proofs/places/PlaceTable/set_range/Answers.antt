use Rattle.std.proofs.Common.{arith}
use Rattle.vb_driver.proofs.Placing.{marked_none, placed_further, length-marked}
use Rattle.vb_driver.proofs.places.PlaceTable.set_range.Goals as goal

pub loop-page-init : goal.loop-page-init
loop-page-init c = grind (arith, marked_none)

pub move_run-page-requires-clause-inside : goal.move_run-page-requires-clause-inside
move_run-page-requires-clause-inside c = grind (arith, length-marked)

pub loop-page-preserved : goal.loop-page-preserved
loop-page-preserved c = grind (arith, placed_further)
