use Rattle.std.proofs.Common.{arith}
use Rattle.vb_pages.proofs.HeldLemmas.{held_of, covers_found, covers_not_found}
use Rattle.vb_pages.proofs.held.Held.covers.Goals as goal

pub returns-then-is_listed : goal.returns-then-is_listed
returns-then-is_listed c = grind (arith, held_of, covers_found)

pub returns : goal.returns
returns c = grind (arith, held_of, covers_not_found)
