use Rattle.vb_host.proofs.Passing.{none_is_passed, events_lend}
use Rattle.vb_host.proofs.laws.none_is_passed.Goals as goal

pub returns : goal.returns
returns c = record { passed = none_is_passed; events = events_lend }
