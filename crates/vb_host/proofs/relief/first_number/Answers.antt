use Rattle.vb_host.proofs.Lined.{first_found, none_found}
use Rattle.vb_host.proofs.relief.first_number.Goals as goal

pub returns-in-Some : goal.returns-in-Some
returns-in-Some c = first_found c.args.line c.in-Some.place c.args.seats.now c.in-Some.ensures.0 c.in-Some.ensures.1

pub returns-in-None : goal.returns-in-None
returns-in-None c = none_found c.args.line c.args.seats.now c.in-None.ensures
