use Rattle.std.proofs.Common.{◌≡◌, length, take}
use Rattle.vb_core.specs.Pieces.{pieces_in}
use Rattle.vb_core.proofs.report.chain_of.Given as goal

abbrev pub invariant-loop-buffer : goal.invariant-loop-buffer
invariant-loop-buffer l = record {
  items : l.chain.items ≡ pieces_in (take l.buffer-index l.buffers);
  count : length l.chain.items ≡ l.buffer-index;
}
