use Rattle.std.{proofs.Common.{◌≡◌, ◌*◌, ◌≤◌, false, take}, specs.Prelude.{sum_by, not, ◌==◌}, specs.List.list_any}
use Rattle.vb_core.specs.declared.pieces.ChainPiece.{ChainPiece}
use Rattle.vb_monitor.proofs.pieces.readable_bytes.Given as goal

abbrev pub invariant-loop-buffer : goal.invariant-loop-buffer
invariant-loop-buffer l =
    (l.total ≡ sum_by (λ (b : ChainPiece). b.length) (take l.buffer-index l.buffers))
    × (l.total ≤ l.buffer-index * 4294967295)
    × (list_any (λ (b : ChainPiece). not (b.writable == 0)) (take l.buffer-index l.buffers) ≡ false)
