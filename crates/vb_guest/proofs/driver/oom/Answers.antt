use Rattle.vb_guest.proofs.{DeflateStep.oom_step, Asked.{is_large, is_backed}, Kept.oom_kept}
use Rattle.vb_guest.proofs.{RogueDriver.oom_rogue, Standing.alone_stands}
use Rattle.vb_guest.proofs.driver.oom.Goals as goal

pub oom-requires : goal.oom-requires
oom-requires g c = let (keeps, guest, stands) = c.requires in
    record { memory = is_large stands; backed = is_backed stands }

pub returns-clause-step : goal.returns-clause-step
returns-clause-step g c = λ keeps guest stands. let did = c.oom.ensures in
    alone_stands stands (oom_kept _ did) (oom_step did) (oom_rogue _ did)
