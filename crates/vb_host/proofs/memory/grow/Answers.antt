use Rattle.std.proofs.Common.{arith}
use Rattle.vb_host.specs.Seats.{newcomer, grown}
use Rattle.vb_host.proofs.Places.{at_set, value_is}
use Rattle.vb_host.proofs.memory.grow.Goals as goal

pub grow-requires : goal.grow-requires
grow-requires c = omega (arith, c.requires.few, value_is (λ s. s.pages) c.args.guest c.args.seats.now (newcomer 0) c.requires.place)

pub returns : goal.returns
returns c = at_set c.args.guest (grown c.args.pages) c.args.seats.now c.grow.new.self (newcomer 0) c.requires.place c.grow.ensures
