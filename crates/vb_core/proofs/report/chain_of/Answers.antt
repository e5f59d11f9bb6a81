use Rattle.std.proofs.Common.{◌∙◌, ap, ℕ, ◌+◌}
use Rattle.vb_core.proofs.PieceLemmas.{push_in}
use Rattle.vb_core.proofs.report.chain_of.Goals as goal

pub loop-buffer-preserved : goal.loop-buffer-preserved
loop-buffer-preserved c = record {
  items = push_in c.args.buffers.now c.loop-buffer.buffer-index _ c.loop-buffer.chain.items
      c.push.new.self.items c.piece_in.result c.loop-buffer-test.true c.loop-buffer.invariant.items
      c.piece_in.ensures c.push.ensures.items;
  count = c.push.ensures.len ∙ ap (λ (n : ℕ). n + 1) c.loop-buffer.invariant.count;
}
