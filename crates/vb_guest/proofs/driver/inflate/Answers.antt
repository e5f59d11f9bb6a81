use Rattle.vb_guest.proofs.{InflateStep.inflate_step, Asked.{is_large, is_backed}}
use Rattle.vb_guest.proofs.{Kept.inflate_kept, RogueDriver.inflate_rogue, Standing.alone_stands}
use Rattle.vb_guest.proofs.driver.inflate.Goals as goal

pub inflate-requires : goal.inflate-requires
inflate-requires g c = let (keeps, guest, stands) = c.requires in
    record { memory = is_large stands; backed = is_backed stands }

pub returns-clause-step : goal.returns-clause-step
returns-clause-step g c = λ keeps guest stands. let did = c.inflate.ensures in
    alone_stands stands (inflate_kept _ did) (inflate_step did) (inflate_rogue _ did)
