use Rattle.{std.proofs.Common.arith, vb_driver.proofs.Marking.pages_of_set}
use Rattle.vb_driver.proofs.places.PlaceTable.lowest_lent.Goals as goal

pub returns : goal.returns
returns c = grind (arith, pages_of_set)
