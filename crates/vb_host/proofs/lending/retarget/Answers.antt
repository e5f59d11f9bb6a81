use Rattle.std.proofs.Common.{sym, ◌∙◌}
use Rattle.vb_host.specs.Seats.{newcomer, retargeted, room_after}
use Rattle.vb_host.proofs.Places.{at_set, value_is}
use Rattle.vb_host.proofs.lending.retarget.Goals as goal

pub returns : goal.returns
returns c = record {
  seats = at_set c.args.guest (retargeted c.args.room) c.args.seats.now c.retarget.new.self (newcomer 0) c.requires c.retarget.ensures.state;
  left = c.retarget.ensures.left ∙ sym (value_is (room_after c.args.room) c.args.guest c.args.seats.now (newcomer 0) c.requires);
}
