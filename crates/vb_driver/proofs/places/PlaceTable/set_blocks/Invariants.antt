use Rattle.std.proofs.Common.{◌≡◌, take}
use Rattle.{vb_model.specs.Pages.{placed, pages_of_all}, vb_report.specs.Blocks.blocks_of}
use Rattle.vb_driver.proofs.places.PlaceTable.set_blocks.Given as goal

abbrev pub invariant-loop-block : goal.invariant-loop-block
invariant-loop-block l =
    l.self ≡ placed (pages_of_all (blocks_of (take l.block-index l.blocks))) l.place l.initial.self
