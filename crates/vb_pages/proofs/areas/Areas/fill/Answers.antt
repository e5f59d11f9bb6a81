use Rattle.{std.proofs.Common.arith, vb_pages.proofs.{AreasLemmas.unreserved_is, Sets.block_bounds}}
use Rattle.vb_pages.proofs.Sets.{with_cases, with_old, with_new, length-with_pages, in_block}
use Rattle.vb_pages.proofs.areas.Areas.fill.Goals as goal

pub returns : goal.returns
returns c = grind (arith, unreserved_is)

pub loop-page-preserved : goal.loop-page-preserved
loop-page-preserved c =
    grind (arith, length-with_pages, with_cases, block_bounds, with_old, with_new, in_block)
