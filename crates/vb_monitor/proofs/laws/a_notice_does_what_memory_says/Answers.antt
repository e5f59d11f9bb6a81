use Rattle.vb_monitor.specs.Still.{AreThese}
use Rattle.vb_monitor.proofs.StillLaws.{refused_as, serves_as}
use Rattle.vb_monitor.proofs.laws.a_notice_does_what_memory_says.Goals as goal

pub returns-clause-refuses : goal.returns-clause-refuses
returns-clause-refuses c rest = refused_as (AreThese rest)

pub returns-clause-does : goal.returns-clause-does
returns-clause-does c rest = serves_as (AreThese rest)
