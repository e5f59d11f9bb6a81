use Rattle.{std.proofs.Common.refl, vb_guest.proofs.Kept.owns_as}
use Rattle.vb_guest.proofs.{ResetStep.reset_step, RogueDriver.reset_rogue, Standing.alone_stands}
use Rattle.vb_guest.proofs.lives.reset.Goals as goal

pub returns-clause-step : goal.returns-clause-step
returns-clause-step g c = λ keeps guest stands. let did = c.reset.ensures in
    alone_stands stands (owns_as did.part refl refl) (reset_step did) (reset_rogue did)
