use Rattle.vb_guest.{proofs.AskStep.ask_step, proofs.Asked.has_ring, proofs.Kept.ask_kept}
use Rattle.vb_guest.proofs.{RogueQueues.ask_rogue, Standing.alone_stands}
use Rattle.vb_guest.proofs.device.ask.Goals as goal

pub ask_stats-requires : goal.ask_stats-requires
ask_stats-requires g c = let (d, (keeps, guest, stands)) = c.requires in
    record { backed = has_ring 2 stands }

pub returns-clause-step : goal.returns-clause-step
returns-clause-step g c = λ d keeps guest stands. let did = c.ask_stats.ensures in
    alone_stands stands (ask_kept did) (ask_step did) (ask_rogue did)
