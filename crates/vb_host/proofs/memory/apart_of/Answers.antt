use Rattle.std.proofs.Common.{sym, ◌∙◌}
use Rattle.vb_host.specs.Seats.{apart, newcomer}
use Rattle.vb_host.proofs.Places.{value_is}
use Rattle.vb_host.proofs.memory.apart_of.Goals as goal

pub returns : goal.returns
returns c = c.apart.ensures ∙ sym (value_is apart c.args.guest c.args.seats.now (newcomer 0) c.requires)
