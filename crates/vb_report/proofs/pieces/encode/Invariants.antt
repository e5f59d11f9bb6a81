use Rattle.std.proofs.Common.{◌≡◌, take}
use Rattle.vb_report.specs.Blocks.{blocks_of, pieces_of}
use Rattle.vb_report.proofs.pieces.encode.Given as goal

abbrev pub invariant-loop-block : goal.invariant-loop-block
invariant-loop-block l = l.pieces.items ≡ pieces_of (blocks_of (take l.block-index l.blocks))
