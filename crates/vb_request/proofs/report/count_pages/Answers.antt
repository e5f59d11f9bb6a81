use Rattle.std.proofs.Common.{◌≡◌, ◌<◌, ◌≤◌, ◌+◌, ◌/◌, arith, rules, length, take, get_or}
use Rattle.vb_chain.specs.Written.{empty}
use Rattle.vb_request.{specs.Report.pages_of_pieces, proofs.Reports.count_more}
use Rattle.vb_request.proofs.report.count_pages.Goals as goal

pub loop-piece-preserved : goal.loop-piece-preserved
loop-piece-preserved c =
    let lt : c.loop-piece.piece-index < length c.args.pieces.now = omega (arith, c.loop-piece-test.true) in
    let more : length (pages_of_pieces (take (c.loop-piece.piece-index + 1) c.args.pieces.now)) ≡ length (pages_of_pieces (take c.loop-piece.piece-index c.args.pieces.now)) + (get_or c.args.pieces.now c.loop-piece.piece-index empty).len / 4096 = count_more c.args.pieces.now c.loop-piece.piece-index empty lt in
    let small : (get_or c.args.pieces.now c.loop-piece.piece-index empty).len ≤ 4294967295 =
    search rules in
    (omega (arith, more, c.loop-piece.invariant.0), omega (arith, small, c.loop-piece.invariant.1))
