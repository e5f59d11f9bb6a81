-- The pages of a report, piece by piece.
use Rattle.std.proofs.lemmas.List.{append-nil, take_more, take-append-drop, get_or_append_left}
use Rattle.std.specs.Prelude.{◌==◌, nat_lt, List, [], ◌∷◌, ◌++◌, length, if◌then◌else◌, Option}
use Rattle.std.specs.List.{range_with_len}
use Rattle.std.proofs.lemmas.List.FromFn.{length-range_with_len, get_or-range_with_len}
use Rattle.std.proofs.lemmas.{Grind.flat_map-append, Option.slice_get-get_or}
use Rattle.std.proofs.lemmas.{Bool.ltb-false, List.{Elements.All-append, get_or-append_right}}
use Rattle.std.specs.Prelude.{Some, None, Ok, Err, All, slice_get, slice_index_or, refl}
use Rattle.std.proofs.Common.{◌∙◌, ap, arith, get_or, take, drop, drop-cons, add-one, length-append}
use Rattle.vb_chain.specs.declared.fault.ChainFault.TheVariants.{BadPage, ReservedPage, BadLength}
use Rattle.vb_chain.specs.declared.pieces.Piece.{Piece}
use Rattle.vb_chain.specs.declared.fault.ChainFault.{ChainFault, TheVariants.WrongDirection}
use Rattle.vb_request.specs.Report.{pages_of_piece, pages_of_pieces, piece_fault, first_piece_fault}
use Rattle.vb_request.specs.{Report.report_request, Request.{first_of_both, unless_fault}}
use Rattle.std.specs.Prelude.{◌≡◌, ℕ, suc, ◌+◌, ◌*◌, ◌/◌, ◌%◌, ◌<◌, ◌≤◌, Bool, false, not}

pub piece_length : (piece : Piece) → length (pages_of_piece piece) ≡ piece.len / 4096
piece_length piece = length-range_with_len (piece.addr / 4096) (piece.len / 4096)

-- one more piece
pages_more : (pieces : List Piece) (i : ℕ) (d : Piece) → i < length pieces →
    pages_of_pieces (take (i + 1) pieces) ≡
    pages_of_pieces (take i pieces) ++ pages_of_piece (get_or pieces i d)
pages_more pieces i d lt = grind (
  arith,
  take_more pieces i d lt,
  flat_map-append pages_of_piece (take i pieces) (get_or pieces i d ∷ []),
  append-nil (pages_of_piece (get_or pieces i d)),
)

pub count_more : (pieces : List Piece) (i : ℕ) (d : Piece) → i < length pieces →
    length (pages_of_pieces (take (i + 1) pieces)) ≡
    length (pages_of_pieces (take i pieces)) + (get_or pieces i d).len / 4096
count_more pieces i d lt = grind (
  arith,
  pages_more pieces i d lt,
  length-append (pages_of_pieces (take i pieces)) (pages_of_piece (get_or pieces i d)),
  piece_length (get_or pieces i d),
)

split_at : (pieces : List Piece) (i : ℕ) (d : Piece) → i < length pieces →
    pieces ≡ take i pieces ++ (get_or pieces i d ∷ drop (i + 1) pieces)
split_at pieces i d lt =
    grind (arith, take-append-drop i pieces, drop-cons pieces i d lt, add-one i)

-- a page of this piece
pub page_here : (pieces : List Piece) (i k rest : ℕ) (d : Piece) → i < length pieces →
    k ≡ length (pages_of_pieces (take i pieces)) + rest → rest < (get_or pieces i d).len / 4096 →
    slice_get (pages_of_pieces pieces) k ≡ Some ((get_or pieces i d).addr / 4096 + rest)
page_here pieces i k rest d lt at inside = let before : List ℕ = pages_of_pieces (take i pieces) in
    let here : List ℕ = pages_of_piece (get_or pieces i d) in
    let after : List ℕ = pages_of_pieces (drop (i + 1) pieces) in
    let all : pages_of_pieces pieces ≡ before ++ (here ++ after) =
    ap pages_of_pieces (split_at pieces i d lt) ∙
    flat_map-append pages_of_piece (take i pieces) (get_or pieces i d ∷ drop (i + 1) pieces) in
    let len : length here ≡ (get_or pieces i d).len / 4096 = piece_length (get_or pieces i d) in
    let whole : k < length (pages_of_pieces pieces) = omega (
      arith,
      ap (λ (xs : List ℕ). length xs) all,
      length-append before (here ++ after),
      length-append here after,
      len,
      at,
      inside,
    ) in slice_get-get_or (pages_of_pieces pieces) k 0 whole
    ∙ ap Some (ap (λ (xs : List ℕ). get_or xs k 0) all
    ∙ (get_or-append_right before (here ++ after) (length before) k 0 refl (omega (arith, at))
    ∙ (ap (λ (j : ℕ). get_or (here ++ after) j 0) (omega (arith, at))
    ∙ (get_or_append_left here after 0 rest (omega (arith, len, inside))
    ∙ get_or-range_with_len ((get_or pieces i d).addr / 4096) ((get_or pieces i d).len / 4096) rest 0
    inside))))

-- ---- faults

pub first_fault-append : (reserved : ℕ) (xs ys : List Piece) → first_piece_fault reserved (xs ++ ys)
    ≡ first_of_both (first_piece_fault reserved xs) (first_piece_fault reserved ys)
first_fault-append reserved [] ys = refl
first_fault-append reserved (x ∷ xs) ys = grind (arith, first_fault-append reserved xs ys)

-- the first wrong piece
pub fault_here : (reserved : ℕ) (pieces : List Piece) (i : ℕ) (d : Piece) (fault : ChainFault)
    → i < length pieces → first_piece_fault reserved (take i pieces) ≡ None
    → piece_fault reserved (get_or pieces i d) ≡ Some fault
    → first_piece_fault reserved pieces ≡ Some fault
fault_here reserved pieces i d fault lt before here = let rest : List Piece = drop (i + 1) pieces in
    ap (first_piece_fault reserved) (split_at pieces i d lt)
    ∙ (first_fault-append reserved (take i pieces) (get_or pieces i d ∷ rest)
    ∙ (ap (λ o. first_of_both o (first_piece_fault reserved (get_or pieces i d ∷ rest))) before
    ∙ ap (λ o. first_of_both o (first_piece_fault reserved rest)) here))

-- one more piece that is right
pub sound_more : (reserved : ℕ) (pieces : List Piece) (i : ℕ) (d : Piece) → i < length pieces
    → first_piece_fault reserved (take i pieces) ≡ None → piece_fault reserved (get_or pieces i d)
    ≡ None → first_piece_fault reserved (take (i + 1) pieces) ≡ None
sound_more reserved pieces i d lt before here = grind (
  arith,
  take_more pieces i d lt,
  first_fault-append reserved (take i pieces) (get_or pieces i d ∷ []),
)

-- ---- reserved pages

none_of_both : (a b : Option ChainFault) → first_of_both a b ≡ None → (a ≡ None) × (b ≡ None)
none_of_both None b e = (refl, e)
none_of_both (Some f) b e = absurd cc

second_no : (a b : Bool) →
    (if a then Some BadPage else (if b then Some ReservedPage else None)) ≡ None → b ≡ false
second_no a b e = search (arith)

from_on : (reserved first n : ℕ) → reserved ≤ first → (k d : ℕ)
    → k < length (range_with_len first n) → reserved ≤ slice_index_or (range_with_len first n) k d
from_on reserved first n le k d lt = grind (arith, get_or-range_with_len, length-range_with_len)

pub above_reserved : (reserved : ℕ) (pieces : List Piece) → first_piece_fault reserved pieces ≡ None
    → All (λ page. reserved ≤ page) (pages_of_pieces pieces)
above_reserved reserved [] e = λ k d lt. absurd (omega (arith, lt))
above_reserved reserved (x ∷ xs) e =
    let both = none_of_both (piece_fault reserved x) (first_piece_fault reserved xs) e in
    let le : reserved ≤ x.addr / 4096 = ltb-false (x.addr / 4096) reserved
    (second_no (not (x.addr % 4096 == 0)) (nat_lt (x.addr / 4096) reserved) both.0) in
    All-append (λ page. reserved ≤ page) (pages_of_piece x) (pages_of_pieces xs)
    (from_on reserved (x.addr / 4096) (x.len / 4096) le) (above_reserved reserved xs both.1)

-- ---- pages of the guest

up_to : (first n count : ℕ) → first + n ≤ count → (k d : ℕ) → k < length (range_with_len first n) →
    slice_index_or (range_with_len first n) k d < count
up_to first n count le k d lt = grind (arith, length-range_with_len, get_or-range_with_len)

pages_below : (count : ℕ) (pieces : List Piece) →
    All (λ piece. piece.addr + piece.len ≤ 4096 * count) pieces →
    All (λ page. page < count) (pages_of_pieces pieces)
pages_below count [] inside = λ k d lt. absurd (omega (arith, lt))
pages_below count (x ∷ xs) inside =
    let here : x.addr + x.len ≤ 4096 * count = inside 0 x (omega arith) in
    All-append (λ page. page < count) (pages_of_piece x) (pages_of_pieces xs)
    (up_to (x.addr / 4096) (x.len / 4096) count (omega (arith, here)))
    (pages_below count xs (λ k d lt. inside (suc k) d (omega (arith, lt))))

ok_of : (o : Option ChainFault) (ns pages : List ℕ) → unless_fault o ns ≡ Ok pages →
    (o ≡ None) × (ns ≡ pages)
ok_of None ns pages e = (refl, cc)
ok_of (Some f) ns pages e = absurd cc

by_causes : (reserved : ℕ) (pieces : List Piece) (a b : Bool) (pages : List ℕ)
    → (if a then Err WrongDirection else (if b then Err BadLength
    else unless_fault (first_piece_fault reserved pieces) (pages_of_pieces pieces))) ≡ Ok pages
    → (first_piece_fault reserved pieces ≡ None) × (pages_of_pieces pieces ≡ pages)
by_causes reserved pieces a b pages e = grind (arith, ok_of)

-- What a report names.
pub report_pages : (count : ℕ) (pieces : List Piece) (reserved : ℕ) (pages : List ℕ)
    → All (λ piece. piece.addr + piece.len ≤ 4096 * count) pieces → report_request pieces reserved
    ≡ Ok pages → All (λ page. reserved ≤ page) pages × All (λ page. page < count) pages
report_pages count pieces reserved pages inside e =
    grind (arith, by_causes, above_reserved, pages_below)
