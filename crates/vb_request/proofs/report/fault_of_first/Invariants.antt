use Rattle.std.proofs.Common.{◌≡◌, None, take}
use Rattle.vb_request.specs.Report.{first_piece_fault}
use Rattle.vb_request.proofs.report.fault_of_first.Given as goal

abbrev pub invariant-loop-piece : goal.invariant-loop-piece
invariant-loop-piece l = first_piece_fault l.reserved (take l.piece-index l.pieces) ≡ None
