-- Lists of buffers, and of the pieces that they say.
use Rattle.vb_core.{proofs.PieceLemmas.{join_in}, specs.declared.pieces.ChainPiece.ChainPiece}
use Rattle.vb_core.specs.Pieces.{piece_in, pieces_in}
use Rattle.std.proofs.Common.{◌≡◌, ◌∙◌, ap, sym, refl, ℕ, ◌+◌, ◌<◌, false, true}
use Rattle.std.proofs.Common.{List, [], ◌∷◌, ◌++◌, length, map, take, slice_set}
use Rattle.std.{specs.Prelude.{sum_by, fold, MatchOption, not, ◌==◌}, proofs.lemmas.List.take_more_set}
use Rattle.std.{specs.List.list_any, proofs.Common.{Option, Some, None}}
use Rattle.vb_core.proofs.PieceLemmas.{any_in}
use Rattle.vb_chain.specs.declared.pieces.Piece.{Piece}
use Rattle.vb_request.specs.Request.{total_length}
pub use Rattle.vb_core.proofs.PieceLemmas.{none_in, length_in}

-- ---- all of them

total_from : (from : ℕ) (bs : List ChainPiece) →
    fold (λ (n : ℕ) (p : Piece). n + p.len) from (map piece_in bs) ≡
    fold (λ (n : ℕ) (b : ChainPiece). n + b.length) from bs
total_from from [] = refl
total_from from (b ∷ bs) = total_from (from + b.length) bs

pub total_in : (bs : List ChainPiece) →
    total_length (pieces_in bs) ≡ sum_by (λ (b : ChainPiece). b.length) bs
unfolding pieces_in
total_in bs = total_from 0 bs

-- how many bytes they have, where none of them is the device's to write
pub readable_in : (bs : List ChainPiece) (o : Option ℕ) →
    MatchOption o (list_any (λ (b : ChainPiece). not (b.writable == 0)) bs ≡ true)
    (λ n. (list_any (λ (b : ChainPiece). not (b.writable == 0)) bs ≡ false)
    × (n ≡ sum_by (λ (b : ChainPiece). b.length) bs)) →
    MatchOption o (list_any (λ (p : Piece). p.writable) (pieces_in bs) ≡ true)
    (λ n. (list_any (λ (p : Piece). p.writable) (pieces_in bs) ≡ false)
    × (n ≡ total_length (pieces_in bs)))
readable_in bs None e = any_in (λ (p : Piece). p.writable) bs ∙ e
readable_in bs (Some n) e =
    (any_in (λ (p : Piece). p.writable) bs ∙ e.0, e.1 ∙ sym (total_in bs))

-- ---- one more

pub join_at : (bs : List ChainPiece) (k : ℕ) (b : ChainPiece) (p : Piece) → k < length bs → piece_in b ≡ p →
    pieces_in (take (k + 1) (slice_set bs k b)) ≡ pieces_in (take k bs) ++ p ∷ []
join_at bs k b p lt e = ap (λ (l : List ChainPiece). pieces_in l) (take_more_set bs k b lt)
    ∙ (join_in (take k bs) b ∙ ap (λ (q : Piece). pieces_in (take k bs) ++ q ∷ []) e)
