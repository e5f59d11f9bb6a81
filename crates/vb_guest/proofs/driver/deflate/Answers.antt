use Rattle.vb_guest.proofs.{DeflateStep.deflate_step, Asked.{is_large, is_backed}}
use Rattle.vb_guest.proofs.{Kept.deflate_kept, RogueDriver.deflate_rogue, Standing.alone_stands}
use Rattle.vb_guest.proofs.driver.deflate.Goals as goal

pub deflate-requires : goal.deflate-requires
deflate-requires g c = let (keeps, guest, stands) = c.requires in
    record { memory = is_large stands; backed = is_backed stands }

pub returns-clause-step : goal.returns-clause-step
returns-clause-step g c = λ keeps guest stands. let did = c.deflate.ensures in
    alone_stands stands (deflate_kept _ did) (deflate_step did) (deflate_rogue _ did)
