use Rattle.{std.proofs.Common.arith, vb_driver.proofs.Marking.{first_more, first_all}}
use Rattle.vb_driver.proofs.places.lowest.lowest_in.Goals as goal

pub returns-in-None : goal.returns-in-None
returns-in-None c =
    first_all
    c.args.most c.loop-found.invariant c.in-None.ensures (omega (arith, c.loop-found-test.true))

pub loop-found-preserved : goal.loop-found-preserved
loop-found-preserved c = grind (arith, first_more)
