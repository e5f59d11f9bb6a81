use Rattle.vb_ram.proofs.Contents.{whole_but, whole_supplied, whole_discarded}
use Rattle.vb_ram.proofs.laws.memory_stays_whole.Goals as goal

pub returns-clause-written : goal.returns-clause-written
returns-clause-written c = whole_but

pub returns-clause-supplied : goal.returns-clause-supplied
returns-clause-supplied c = whole_supplied

pub returns-clause-discarded : goal.returns-clause-discarded
returns-clause-discarded c = whole_discarded
