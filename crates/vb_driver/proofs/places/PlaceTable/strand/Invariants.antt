use Rattle.{vb_model.specs.Life.place_after_reset, vb_driver.proofs.Placing.Changing}
use Rattle.vb_driver.proofs.places.PlaceTable.strand.Given as goal

abbrev pub invariant-loop-page : goal.invariant-loop-page
invariant-loop-page l = Changing l.initial.self l.self place_after_reset l.page
