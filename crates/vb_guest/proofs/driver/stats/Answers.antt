use Rattle.vb_guest.proofs.{StatsStep.stats_step, Asked.{is_large, is_backed}, Kept.stats_kept}
use Rattle.vb_guest.proofs.{RogueDriver.stats_rogue, Standing.alone_stands}
use Rattle.vb_guest.proofs.driver.stats.Goals as goal

pub stats-requires : goal.stats-requires
stats-requires g c = let (keeps, guest, stands) = c.requires in
    record { memory = is_large stands; backed = is_backed stands }

pub returns-clause-step : goal.returns-clause-step
returns-clause-step g c = λ keeps guest stands. let did = c.stats.ensures in
    alone_stands stands (stats_kept _ did) (stats_step did) (stats_rogue _ did)
