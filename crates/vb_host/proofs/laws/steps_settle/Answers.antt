use Rattle.vb_host.proofs.Outcome.{step_one}
use Rattle.vb_host.proofs.Passing.{step_settles}
use Rattle.vb_host.proofs.Possible.{all_are_possible}
use Rattle.vb_host.proofs.Staying.{settled_stays}
use Rattle.vb_host.proofs.laws.steps_settle.Goals as goal

pub returns : goal.returns
returns c = record { settle = step_settles; one = step_one; targets = all_are_possible; stays = settled_stays }
