use Rattle.std.proofs.Common.{◌≡◌, take, length}
use Rattle.vb_request.specs.Request.{bytes_of, total_length}
use Rattle.vb_request.proofs.buffer.gather.Given as goal

abbrev pub invariant-loop-piece : goal.invariant-loop-piece
invariant-loop-piece g l = record {
  bytes : l.bytes ≡ bytes_of (g.G.GuestBytes.mem l.ram) (take l.piece-index l.pieces);
  count : length l.bytes ≡ total_length (take l.piece-index l.pieces);
}
