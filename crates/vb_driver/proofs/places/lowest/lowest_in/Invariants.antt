use Rattle.vb_driver.proofs.Marking.{AreFirst}
use Rattle.vb_driver.proofs.places.lowest.lowest_in.Given as goal

abbrev pub invariant-loop-found : goal.invariant-loop-found
invariant-loop-found l = AreFirst l.lowest.items l.set l.from l._found
