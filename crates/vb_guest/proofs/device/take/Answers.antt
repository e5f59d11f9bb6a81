use Rattle.vb_guest.{proofs.TakeStep.take_step, proofs.Kept.take_kept, proofs.Standing.alone_stands}
use Rattle.vb_guest.proofs.RogueQueues.{take_rogue}
use Rattle.vb_guest.proofs.device.take.Goals as goal

pub returns-clause-step : goal.returns-clause-step
returns-clause-step g c = λ d keeps guest stands. let did = c.take.ensures in
    alone_stands stands (take_kept did) (take_step did) (take_rogue did)
