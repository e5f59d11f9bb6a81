use Rattle.std.proofs.Common.{◌≡◌, ◌<◌, ◌+◌, ◌∙◌, List, Some, refl, ap, arith, length, take, get_or}
use Rattle.std.proofs.lemmas.List.{take_all}
use Rattle.vb_chain.{specs.declared.pieces.Piece.Piece, specs.Written.empty}
use Rattle.vb_request.{specs.Report.pages_of_pieces, proofs.Reports.{page_here, count_more}}
use Rattle.vb_request.proofs.report.run_at.Goals as goal

pub returns-then-rest-count : goal.returns-then-rest-count
returns-then-rest-count c =
    let piece : Piece = get_or c.args.pieces.now c.loop-piece.piece-index empty in
    let inside : c.loop-piece.piece-index < length c.args.pieces.now =
    omega (arith, c.loop-piece-test.true) in (
      refl,
      omega (arith, c.if-rest-count.true),
      record {
        at = λ i lt. page_here c.args.pieces.now c.loop-piece.piece-index (c.args.k + i)
            (c.loop-piece.rest + i) empty inside (omega (arith, c.loop-piece.invariant))
            (omega (arith, lt, c.if-rest-count.true)) ∙ ap Some (omega arith);
        below = omega (arith, c.requires c.loop-piece.piece-index empty inside, c.if-rest-count.true);
      },
    )

pub loop-piece-preserved : goal.loop-piece-preserved
loop-piece-preserved c = omega (
  arith,
  count_more c.args.pieces.now c.loop-piece.piece-index empty
      (omega (arith, c.loop-piece-test.true)),
  c.loop-piece.invariant,
  c.if-rest-count.false,
)

pub returns : goal.returns
returns c =
    let whole : take c.loop-piece.piece-index c.args.pieces.now ≡ c.args.pieces.now =
    take_all c.loop-piece.piece-index c.args.pieces.now (omega (arith, c.loop-piece-test.false)) in
    omega (
      arith,
      c.loop-piece.invariant,
      ap (λ (xs : List Piece). length (pages_of_pieces xs)) whole,
    )
