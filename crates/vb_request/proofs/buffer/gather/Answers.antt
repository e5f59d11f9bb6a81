use Rattle.std.proofs.Common.{ap, arith, ℕ, List, length}
use Rattle.vb_chain.specs.Written.{empty}
use Rattle.vb_request.{specs.Request.bytes_of, proofs.Bytes.{pieces_more, pieces_count}}
use Rattle.vb_request.proofs.buffer.gather.Goals as goal

pub loop-piece-init : goal.loop-piece-init
unfolding bytes_of
loop-piece-init g c =
    record { bytes = c.requires.empty; count = ap (λ (xs : List ℕ). length xs) c.requires.empty }

pub loop-piece-preserved : goal.loop-piece-preserved
loop-piece-preserved g c = record {
  bytes = pieces_more (g.G.GuestBytes.mem c.args.ram.now) c.args.pieces.now
      c.loop-piece.piece-index empty c.loop-piece.bytes c.append.new.self
      (omega (arith, c.loop-piece-test.true)) c.loop-piece.invariant.bytes c.append.ensures;
  count = pieces_count (g.G.GuestBytes.mem c.args.ram.now) c.args.pieces.now
      c.loop-piece.piece-index empty c.loop-piece.bytes c.append.new.self
      (omega (arith, c.loop-piece-test.true)) c.loop-piece.invariant.count c.append.ensures;
}
