use Rattle.vb_host.proofs.Settling.{rounds_settle, two_rounds_suffice}
use Rattle.vb_host.proofs.laws.one_round_settles.Goals as goal

pub returns : goal.returns
returns c = record { settles = rounds_settle; suffice = two_rounds_suffice }
