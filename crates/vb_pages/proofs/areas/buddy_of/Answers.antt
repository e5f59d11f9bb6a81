use Rattle.{std.proofs.Common.arith, vb_pages.proofs.Aligned.{left_of, pow_twice}}
use Rattle.vb_pages.proofs.areas.buddy_of.Goals as goal

pub returns-else-start-size-eq0 : goal.returns-else-start-size-eq0
returns-else-start-size-eq0 c = grind (arith, pow_twice, left_of)
