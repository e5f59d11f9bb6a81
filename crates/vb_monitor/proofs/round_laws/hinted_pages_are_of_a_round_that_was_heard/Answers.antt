use Rattle.std.proofs.Common.{refl, []}
use Rattle.vb_core.specs.Hints.{no_round}
use Rattle.vb_monitor.proofs.RoundLemmas.{all_heard}
use Rattle.vb_monitor.proofs.round_laws.hinted_pages_are_of_a_round_that_was_heard.Goals as goal

pub returns : goal.returns
returns c = λ deeds h. all_heard [] no_round deeds refl h
