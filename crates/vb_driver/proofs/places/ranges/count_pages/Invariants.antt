use Rattle.std.proofs.Common.{◌≡◌, ◌≤◌, ◌*◌, take, length}
use Rattle.{vb_model.specs.Pages.pages_of_all, vb_report.specs.Blocks.blocks_of}
use Rattle.vb_driver.proofs.places.ranges.count_pages.Given as goal

abbrev pub invariant-loop-block : goal.invariant-loop-block
invariant-loop-block l = (l.pages ≡ length (pages_of_all (blocks_of (take l.block-index l.blocks))))
    × (l.pages ≤ 512 * l.block-index)
