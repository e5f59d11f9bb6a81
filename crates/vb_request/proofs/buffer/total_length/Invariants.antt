use Rattle.std.proofs.Common.{◌≡◌, ◌*◌, ◌≤◌, take}
use Rattle.vb_request.specs.Request.{total_length}
use Rattle.vb_request.proofs.buffer.total_length.Given as goal

abbrev pub invariant-loop-piece : goal.invariant-loop-piece
invariant-loop-piece l =
    (l.total ≡ total_length (take l.piece-index l.pieces)) × (l.total ≤ l.piece-index * 4294967295)
