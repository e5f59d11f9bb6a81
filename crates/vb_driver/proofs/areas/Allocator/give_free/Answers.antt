use Rattle.{std.proofs.Common.arith, vb_driver.proofs.Allocating.{given_room, given_state}}
use Rattle.vb_driver.proofs.areas.Allocator.give_free.Goals as goal

pub give_free-requires : goal.give_free-requires
give_free-requires c = grind (arith, given_room)

pub returns-clause-state : goal.returns-clause-state
returns-clause-state c = grind (arith, given_state)
