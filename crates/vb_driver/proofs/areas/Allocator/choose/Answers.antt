use Rattle.{std.proofs.Common.arith, vb_driver.proofs.Flags.free_flag}
use Rattle.vb_driver.proofs.ReportAreas.{chosen_places, chosen_blocks, chosen_state}
use Rattle.vb_driver.proofs.areas.Allocator.choose.Goals as goal

pub returns-clause-chosen : goal.returns-clause-chosen
returns-clause-chosen c = grind (arith, chosen_places)

pub returns-clause-blocks : goal.returns-clause-blocks
returns-clause-blocks c = chosen_blocks c.choose.ensures.room

pub returns-clause-free : goal.returns-clause-free
returns-clause-free c = grind (arith, free_flag)

pub returns-clause-state : goal.returns-clause-state
returns-clause-state c = let blocks = c.choose.result.items in rw (← c.self.view_is)
    (chosen_state blocks c.choose.ensures.taken c.choose.ensures.left)
