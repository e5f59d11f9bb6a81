use Rattle.{std.proofs.Common.arith, vb_driver.proofs.Allocating.{answered, free_state}}
use Rattle.vb_driver.proofs.{Allocating.areas_apart, areas.Allocator.free.Goals.{in-Ok, in-Err}}
use Rattle.vb_driver.proofs.areas.Allocator.free.Goals as goal

pub returns-clause-state : goal.returns-clause-state
returns-clause-state c = grind (arith, answered, in-Ok, in-Err, free_state)

pub returns-clause-apart : goal.returns-clause-apart
returns-clause-apart c = areas_apart c.pages_are_apart.ensures
