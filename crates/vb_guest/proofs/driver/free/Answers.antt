use Rattle.{std.proofs.Common.refl, vb_guest.proofs.FreeStep.free_step}
use Rattle.vb_guest.proofs.{RogueDriver.free_rogue, Standing.alone_stands, Kept.as_it_was}
use Rattle.vb_guest.proofs.driver.free.Goals as goal

pub returns-clause-step : goal.returns-clause-step
returns-clause-step c = λ mem part keeps guest stands. let did = c.free.ensures in
    alone_stands stands (as_it_was refl) (free_step did) (free_rogue _ did)
