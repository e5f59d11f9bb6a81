use Rattle.{std.proofs.Common.arith, vb_driver.proofs.ReportTables.{order_of, length_more_blocks}}
use Rattle.vb_driver.proofs.places.ranges.count_pages.Goals as goal

pub size_of-pages-requires : goal.size_of-pages-requires
size_of-pages-requires c =
    order_of c.args.blocks.now c.loop-block.block-index c.requires.orders c.loop-block-test.true

pub loop-block-preserved : goal.loop-block-preserved
loop-block-preserved c = grind (arith, length_more_blocks)
