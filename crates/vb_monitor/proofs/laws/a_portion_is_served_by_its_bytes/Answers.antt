use Rattle.vb_monitor.specs.{Still.AreThese, Machine.served}
use Rattle.vb_monitor.proofs.{StillParts.all_bytes, StillPortions.{in_portions, serves_begin, serves_first, serves_last}}
use Rattle.vb_monitor.proofs.laws.a_portion_is_served_by_its_bytes.Goals as goal

pub returns-clause-within : goal.returns-clause-within
returns-clause-within c = in_portions

pub returns-clause-bytes : goal.returns-clause-bytes
returns-clause-bytes c = all_bytes

pub returns-clause-begins : goal.returns-clause-begins
returns-clause-begins c = serves_begin

pub returns-clause-first : goal.returns-clause-first
returns-clause-first c rest byte w t0 t head d = serves_first (AreThese rest) byte w (served w t0 head) d t

pub returns-clause-last : goal.returns-clause-last
returns-clause-last c rest byte w t0 t head d = serves_last (AreThese rest) byte w (served w t0 head) d t
