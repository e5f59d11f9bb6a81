use Rattle.vb_host.proofs.Telling.{takes, tells}
use Rattle.vb_host.proofs.outside.a_report_tells_of_memory.Goals as goal

pub returns : goal.returns
returns c = record { tells = tells; takes = takes }
