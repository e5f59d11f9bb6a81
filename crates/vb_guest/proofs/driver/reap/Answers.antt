use Rattle.vb_guest.{proofs.ReapStep.reap_step, proofs.Asked.is_large, proofs.Kept.reap_kept}
use Rattle.vb_guest.{proofs.RogueDriver.reap_rogue, proofs.Standing.alone_stands}
use Rattle.vb_guest.proofs.driver.reap.Goals as goal

pub reap-requires : goal.reap-requires
reap-requires g c = let (keeps, guest, stands) = c.requires in is_large stands

pub returns-clause-step : goal.returns-clause-step
returns-clause-step g c = λ keeps guest stands. let did = c.reap.ensures in
    alone_stands stands (reap_kept _ did) (reap_step did) (reap_rogue _ did)
