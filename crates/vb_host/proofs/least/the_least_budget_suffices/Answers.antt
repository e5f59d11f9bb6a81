use Rattle.vb_host.proofs.Proceeding.{suffices, does_not}
use Rattle.vb_host.proofs.least.the_least_budget_suffices.Goals as goal

pub returns : goal.returns
returns c = record { suffices = suffices; least = does_not }
