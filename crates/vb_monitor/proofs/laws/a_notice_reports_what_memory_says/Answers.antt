use Rattle.vb_monitor.specs.Still.{AreThese}
use Rattle.vb_monitor.proofs.StillReports.{reports_as}
use Rattle.vb_monitor.proofs.laws.a_notice_reports_what_memory_says.Goals as goal

pub returns : goal.returns
returns c rest = reports_as (AreThese rest)
