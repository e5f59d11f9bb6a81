use Rattle.std.proofs.Common.{◌≡◌, None, Some, sym, arith, rules, get_or}
use Rattle.vb_chain.specs.Written.{empty}
use Rattle.vb_request.{specs.Report.piece_fault, proofs.Reports.{fault_here, sound_more}}
use Rattle.vb_request.proofs.report.fault_of_first.Goals as goal

pub returns-in-Some : goal.returns-in-Some
returns-in-Some c =
    let wrong :
    piece_fault c.args.reserved (get_or c.args.pieces.now c.loop-piece.piece-index empty) ≡
    Some c.in-Some.fault = search rules in
    sym (fault_here c.args.reserved c.args.pieces.now c.loop-piece.piece-index empty c.in-Some.fault
    (omega (arith, c.loop-piece-test.true)) c.loop-piece.invariant wrong)

pub loop-piece-preserved : goal.loop-piece-preserved
loop-piece-preserved c =
    let right :
    piece_fault c.args.reserved (get_or c.args.pieces.now c.loop-piece.piece-index empty) ≡ None =
    search rules in sound_more c.args.reserved c.args.pieces.now c.loop-piece.piece-index empty
    (omega (arith, c.loop-piece-test.true)) c.loop-piece.invariant right
