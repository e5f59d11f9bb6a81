use Rattle.{std.proofs.Common.refl, vb_guest.proofs.AllocStep.alloc_step}
use Rattle.vb_guest.proofs.{RogueDriver.alloc_rogue, Standing.alone_stands, Kept.as_it_was}
use Rattle.vb_guest.proofs.driver.alloc.Goals as goal

pub returns-clause-step : goal.returns-clause-step
returns-clause-step c = λ mem part keeps guest stands. let did = c.alloc.ensures in
    alone_stands stands (as_it_was refl) (alloc_step did) (alloc_rogue _ did)
