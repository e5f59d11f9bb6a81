-- Buffers as plain data, and the pieces that they say.
use Rattle.std.proofs.Common.{◌≡◌, ap, refl, arith, ℕ, ◌+◌, ◌<◌, Bool, false, true}
use Rattle.std.proofs.Common.{List, [], ◌∷◌, ◌++◌, length, take, get_or, Err}
use Rattle.std.{specs.List.list_any}
use Rattle.std.{proofs.lemmas.Bool.Decides.nat_tests}
use Rattle.std.specs.Prelude.{◌||◌, ◌*◌, ◌^◌, not, All}
use Rattle.vb_virtio.specs.Limits.{page_size}
use Rattle.std.proofs.lemmas.List.{length-map, get_or-map, map-append, take_more}
use Rattle.std.proofs.lemmas.List.Folds.{list_any_at}
use Rattle.vb_chain.specs.declared.fault.ChainFault.TheVariants.{WrongDirection, BadLength}
use Rattle.vb_chain.{specs.declared.pieces.Piece.Piece}
use Rattle.vb_core.{specs.declared.pieces.ChainPiece.ChainPiece, specs.Pieces.{piece_in, pieces_in}}
use Rattle.vb_core.specs.Report.{is_beyond}
use Rattle.vb_request.{specs.Report.report_request}

pub none_in : pieces_in [] ≡ []
unfolding pieces_in
none_in = refl

pub length_in : (bs : List ChainPiece) → length (pieces_in bs) ≡ length bs
unfolding pieces_in
length_in bs = length-map bs piece_in

pub join_in : (bs : List ChainPiece) (b : ChainPiece) →
    pieces_in (bs ++ b ∷ []) ≡ pieces_in bs ++ piece_in b ∷ []
unfolding pieces_in
join_in bs b = map-append piece_in bs (b ∷ [])

pub any_in : (test : Piece → Bool) (bs : List ChainPiece) →
    list_any test (pieces_in bs) ≡ list_any (λ (b : ChainPiece). test (piece_in b)) bs
unfolding pieces_in
any_in test [] = refl
any_in test (b ∷ bs) = ap (λ (x : Bool). test (piece_in b) || x) (any_in test bs)

pub push_in : (bs : List ChainPiece) (k : ℕ) (d : ChainPiece) (items more : List Piece) (p : Piece) →
    k < length bs → items ≡ pieces_in (take k bs) → p ≡ piece_in (get_or bs k d) →
    more ≡ items ++ p ∷ [] → more ≡ pieces_in (take (k + 1) bs)
push_in bs k d items more p lt e f g = grind (arith, join_in, take_more bs k d lt)

pub get_in : (bs : List ChainPiece) (n : ℕ) (d : ChainPiece) → n < length bs →
    get_or (pieces_in bs) n (piece_in d) ≡ piece_in (get_or bs n d)
unfolding pieces_in
get_in bs n d lt = get_or-map piece_in bs n d (piece_in d) lt

-- ---- no piece begins past memory

below_at : (ps : List Piece) (k : ℕ) (d : Piece) → k < length ps → list_any is_beyond ps ≡ false →
    (get_or ps k d).addr < 17592186044416
below_at ps k d lt e = grind (arith, nat_tests, list_any_at)

pub all_below : (ps : List Piece) → list_any is_beyond ps ≡ false →
    All (λ (p : Piece). p.addr < page_size * 2 ^ 32) ps
all_below ps e k d lt = below_at ps k d lt e

-- ---- reports that are none

pub many_readable : (bs : List ChainPiece) (any : Bool) →
    any ≡ list_any (λ (b : ChainPiece). not (piece_in b).writable) bs → any ≡ true →
    (reserved : ℕ) → report_request (pieces_in bs) reserved ≡ Err WrongDirection
many_readable bs any e f reserved = grind (arith, any_in (λ (p : Piece). not p.writable) bs)

pub many_long : (bs : List ChainPiece) (any : Bool) →
    any ≡ list_any (λ (b : ChainPiece). not (piece_in b).writable) bs → any ≡ false → 32 < length bs →
    (reserved : ℕ) → report_request (pieces_in bs) reserved ≡ Err BadLength
many_long bs any e f lt reserved =
    grind (arith, nat_tests, any_in (λ (p : Piece). not p.writable) bs, length_in bs)
