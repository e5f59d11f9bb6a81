use Rattle.std.proofs.Common.{◌∙◌, sym, subst, arith}
use Rattle.std.specs.Prelude.{All, ◌<◌, ◌*◌, ◌^◌}
use Rattle.vb_virtio.specs.Limits.{page_size}
use Rattle.vb_chain.specs.declared.pieces.Piece.{Piece}
use Rattle.vb_core.{specs.Pieces.pieces_in, proofs.PieceLemmas.{all_below, length_in}}
use Rattle.vb_core.proofs.report.name_pieces.Goals as goal

pub put_runs-requires-clause-inside : goal.put_runs-requires-clause-inside
put_runs-requires-clause-inside c =
    subst (All (λ (piece : Piece). piece.addr < page_size * 2 ^ 32))
    (sym c.chain_of-chain.ensures ∙ sym c.as_slice-in-Ok.ensures.value)
    (all_below (pieces_in c.args.pieces.now) c.requires.below)

pub returns-in-Ok-clause-answer : goal.returns-in-Ok-clause-answer
returns-in-Ok-clause-answer c = grind (
  arith,
  length_in,
  c.as_slice.ensures.value,
  c.as_slice-in-Ok-2.ensures.value,
  c.in-Ok.ensures.answer,
  c.count_pages.ensures.value,
)
