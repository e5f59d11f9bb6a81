use Rattle.vb_monitor.proofs.LargeLaws.{wholly_given, whole_pages, largest}
use Rattle.vb_monitor.proofs.laws.large_pages_go_once_they_are_given_up.Goals as goal

pub returns-clause-given : goal.returns-clause-given
returns-clause-given c = wholly_given

pub returns-clause-whole : goal.returns-clause-whole
returns-clause-whole c = whole_pages

pub returns-clause-largest : goal.returns-clause-largest
returns-clause-largest c = largest
