use Rattle.vb_ring.proofs.MeaningLaws.{fresh_shows, fresh_tracks}
use Rattle.vb_ring.proofs.laws.zeroed_pages_show_nothing.Goals as goal

pub returns : goal.returns
returns c = λ mem l q fits a u. (fresh_shows mem l q fits a u, fresh_tracks mem l q)
