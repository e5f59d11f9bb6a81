use Rattle.{std.proofs.Common.arith, vb_pages.proofs.ListsLemmas.with_none}
use Rattle.vb_driver.proofs.{Placing.{marked_one, marked_none}, Flags.for_itself}
use Rattle.vb_driver.proofs.areas.Allocator.give_if_reported.Goals as goal

pub returns-then-is_reporting-clause-state : goal.returns-then-is_reporting-clause-state
returns-then-is_reporting-clause-state c = grind (arith, marked_one)

pub returns-else-is_reporting-clause-state : goal.returns-else-is_reporting-clause-state
returns-else-is_reporting-clause-state c = grind (arith, marked_none, for_itself)

pub returns-else-is_reporting-clause-areas : goal.returns-else-is_reporting-clause-areas
returns-else-is_reporting-clause-areas c = grind (arith, with_none)
