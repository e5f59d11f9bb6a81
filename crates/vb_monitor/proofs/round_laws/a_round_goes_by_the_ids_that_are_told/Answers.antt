use Rattle.vb_monitor.proofs.RoundLemmas.{noticed_round, given_round}
use Rattle.vb_monitor.proofs.round_laws.a_round_goes_by_the_ids_that_are_told.Goals as goal

pub returns : goal.returns
returns c = record { noticed = noticed_round; given = given_round }
