use Rattle.std.proofs.Common.{◌≡◌, ◌+◌, take, length}
use Rattle.vb_request.specs.Report.{pages_of_pieces}
use Rattle.vb_request.proofs.report.run_at.Given as goal

abbrev pub invariant-loop-piece : goal.invariant-loop-piece
invariant-loop-piece l = l.k ≡ length (pages_of_pieces (take l.piece-index l.pieces)) + l.rest
