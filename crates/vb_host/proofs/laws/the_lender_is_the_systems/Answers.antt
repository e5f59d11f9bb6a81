use Rattle.vb_host.proofs.Events.{step_events}
use Rattle.vb_host.proofs.Same.{is_the_lender}
use Rattle.vb_host.proofs.laws.the_lender_is_the_systems.Goals as goal

pub returns : goal.returns
returns c = record { same = is_the_lender; steps = step_events }
