use Rattle.vb_host.proofs.Relieving.{defers_for_another, first_is_noted, head_is_noted, overdraws_if_possible, prefers_the_first}
use Rattle.vb_host.proofs.relief.only_a_standstill_is_relieved.Goals as goal

pub returns-clause-first : goal.returns-clause-first
returns-clause-first c = first_is_noted

pub returns-clause-head : goal.returns-clause-head
returns-clause-head c = head_is_noted

pub returns-clause-alone : goal.returns-clause-alone
returns-clause-alone c = prefers_the_first

pub returns-clause-overdraft : goal.returns-clause-overdraft
returns-clause-overdraft c = overdraws_if_possible

pub returns-clause-passing : goal.returns-clause-passing
returns-clause-passing c = defers_for_another
