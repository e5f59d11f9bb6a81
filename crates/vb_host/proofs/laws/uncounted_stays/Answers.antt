use Rattle.vb_host.proofs.Uncounted.{stays_uncounted, uncounted_has_all, uncounts_there}
use Rattle.vb_host.proofs.laws.uncounted_stays.Goals as goal

pub returns : goal.returns
returns c = record { uncounts = uncounts_there; stays = stays_uncounted; all = uncounted_has_all }
