use Rattle.vb_host.specs.Seats.{newcomer, granted_waiting}
use Rattle.vb_host.proofs.Places.{at_set}
use Rattle.vb_host.proofs.lending.grant_waiting_at.Goals as goal

pub returns : goal.returns
returns c = at_set c.args.guest granted_waiting c.args.seats.now c.grant_waiting.new.self (newcomer 0) c.requires c.grant_waiting.ensures
