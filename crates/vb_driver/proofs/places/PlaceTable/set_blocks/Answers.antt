use Rattle.std.proofs.Common.{sym, ap, arith, List, length, take}
use Rattle.vb_model.specs.{Pages.pages_of_all, declared.places.Place.Place}
use Rattle.{vb_report.specs.Blocks.blocks_of, vb_driver.proofs.Placing.{length-marked, marked_none}}
use Rattle.vb_driver.proofs.{Placing.marked_append, ReportTables.{order_of, block_inside_all}}
use Rattle.vb_driver.proofs.ReportTables.{pages_more_blocks, block_in, no_free_block}
use Rattle.vb_driver.proofs.places.PlaceTable.set_blocks.Goals as goal

pub loop-block-init : goal.loop-block-init
loop-block-init c = sym (marked_none c.args.place)

pub set_block-requires-clause-order : goal.set_block-requires-clause-order
set_block-requires-clause-order c =
    order_of c.args.blocks.now c.loop-block.block-index c.requires.orders c.loop-block-test.true

pub set_block-requires-clause-inside : goal.set_block-requires-clause-inside
set_block-requires-clause-inside c = let blocks = c.args.blocks.now in
    let done = pages_of_all (blocks_of (take c.loop-block.block-index blocks)) in
    let there = block_inside_all blocks c.loop-block.block-index no_free_block (length c.args.self.now)
    c.loop-block-test.true c.requires.inside in omega (
      arith,
      there,
      ap (λ (l : List Place). length l) c.loop-block.invariant,
      length-marked done c.args.place c.args.self.now,
    )

pub loop-block-preserved : goal.loop-block-preserved
loop-block-preserved c = grind (arith, block_in, marked_append, pages_more_blocks)
