use Rattle.vb_host.proofs.Lines.{first_is_at, first_idle}
use Rattle.vb_host.proofs.line.is_first.Goals as goal

pub returns-in-Some : goal.returns-in-Some
returns-in-Some c = first_is_at c.args.seats.now c.in-Some.first c.args.guest c.in-Some.ensures.1

pub returns-in-None : goal.returns-in-None
returns-in-None c = first_idle c.args.seats.now c.args.guest (c.in-None.ensures c.args.guest)
