use Rattle.vb_host.proofs.Receiving.{two_rounds_each}
use Rattle.vb_host.proofs.Serving.{one_round_each}
use Rattle.vb_host.proofs.laws.one_round_each_serves_all.Goals as goal

pub returns : goal.returns
returns c = record { serve = one_round_each; receive = two_rounds_each }
