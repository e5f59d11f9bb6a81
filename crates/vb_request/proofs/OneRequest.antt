-- The request that a driver writes as one readable piece, for the crates above.
use Rattle.std.specs.Prelude.{◌≡◌, ℕ, suc, ◌+◌, ◌*◌, ◌/◌, ◌<◌, ◌≤◌, Bool, true, false, not, ◌&&◌}
use Rattle.std.specs.Prelude.{◌||◌, ◌==◌, nat_le, nat_lt, IsTrue, List, [], ◌∷◌, All, length}
use Rattle.std.specs.Prelude.{filter, if◌then◌else◌, Option, Some, None, Ok, slice_index, refl}
use Rattle.std.{specs.Prelude.cond, proofs.Common.{sym, ◌∙◌, ap, arith, take, drop, eq-eqb, rules}}
use Rattle.std.proofs.lemmas.{Bool.{lt-ltb, le-leb, lt-leb, le-ltb}, List.{ext_get_or, get_or-take}}
use Rattle.std.proofs.lemmas.List.{get_or-drop, append-nil, FromFn.get_or-map-range_with_len}
use Rattle.vb_virtio.specs.Tests.{is_in, AllDistinct}
use Rattle.vb_ram.{specs.Pages.{Pages, byte_at}, proofs.FieldLaws.field_4}
use Rattle.vb_chain.{specs.declared.pieces.Piece.Piece, specs.declared.fault.ChainFault.ChainFault}
use Rattle.vb_chain.specs.declared.fault.ChainFault.TheVariants.{BadPage, ReservedPage}
use Rattle.vb_request.specs.Request.{byte_of_address, bytes_from, bytes_of, total_length}
use Rattle.vb_request.specs.Request.{is_request_length, number_at, numbers_of, number_fault}
use Rattle.vb_request.specs.Request.{first_of_both, first_number_fault, unless_fault, each_once}
use Rattle.vb_request.specs.Request.{pages_of_numbers, page_request, ArePages, IsRequestPiece}
use Rattle.vb_request.proofs.Once.{numbers_of-length, numbers_of-at}
use Rattle.vb_request.proofs.Bytes.{bytes_from-length, by_numbers}

-- a byte of the piece
byte_in : (mem : Pages) (piece : Piece) (p o i : ℕ) → piece.addr ≡ 4096 * p + o → o + i < 4096 →
    byte_of_address mem (piece.addr + i) ≡ byte_at mem p (o + i)
byte_in mem piece p o i e lt = search (arith)

bytes_are : (mem : Pages) (piece : Piece) →
    bytes_of mem (piece ∷ []) ≡ bytes_from mem piece.addr piece.len
unfolding bytes_of
bytes_are mem piece = append-nil (bytes_from mem piece.addr piece.len)

byte_at_index : (mem : Pages) (piece : Piece) (p o i : ℕ) (pages : List ℕ) →
    IsRequestPiece mem piece p o pages → i < 4 * length pages →
    slice_index (bytes_from mem piece.addr piece.len) i ≡ byte_at mem p (o + i)
byte_at_index mem piece p o i pages r lt = grind (arith, get_or-map-range_with_len, byte_in)

number_is : (mem : Pages) (piece : Piece) (p o k : ℕ) (pages : List ℕ) →
    IsRequestPiece mem piece p o pages → k < length pages →
    number_at (bytes_from mem piece.addr piece.len) k ≡ slice_index pages k
number_is mem piece p o k pages r lt =
    sym (field_4 mem p (o + 4 * k) (take 4 (drop (4 * k) (bytes_from mem piece.addr piece.len)))
    (λ j l. get_or-take 4 (drop (4 * k) (bytes_from mem piece.addr piece.len)) j 0 l ∙
    (get_or-drop (4 * k) (bytes_from mem piece.addr piece.len) j 0
    ∙ (byte_at_index mem piece p o (4 * k + j) pages r (omega (arith, l, lt)) ∙ place j))))
    ∙ r.numbers k lt
  where
    place : (j : ℕ) → byte_at mem p (o + (4 * k + j)) ≡ byte_at mem p (o + 4 * k + j)
    place j = let e : o + (4 * k + j) ≡ o + 4 * k + j = omega arith in ap (byte_at mem p) e

numbers_are : (mem : Pages) (piece : Piece) (p o : ℕ) (pages : List ℕ) →
    IsRequestPiece mem piece p o pages → numbers_of (bytes_of mem (piece ∷ [])) ≡ pages
numbers_are mem piece p o pages r = let bytes : List ℕ = bytes_from mem piece.addr piece.len in
    let count : length bytes / 4 ≡ length pages =
    omega (arith, bytes_from-length mem piece.addr piece.len, r.len) in
    let len : length (numbers_of bytes) ≡ length pages = numbers_of-length bytes ∙ count in
    ap numbers_of (bytes_are mem piece) ∙ ext_get_or 0 (numbers_of bytes) pages len
    (λ k l. numbers_of-at bytes k (omega (arith, l, len, count)) ∙
    number_is mem piece p o k pages r (omega (arith, l, len)))

no_fault : (b c : Bool) → b ≡ false → c ≡ false →
    (if b then Some BadPage else (if c then Some ReservedPage else None)) ≡ None
no_fault b c e f = search (arith)

right : (reserved count n : ℕ) → n < count → reserved ≤ n → number_fault reserved count n ≡ None
right reserved count n lt above =
    no_fault (nat_le count n) (nat_lt n reserved) (lt-leb count n lt) (le-ltb n reserved above)

all_right : (reserved count : ℕ) (ns : List ℕ) → All (λ n. n < count) ns
    → All (λ n. reserved ≤ n) ns → first_number_fault reserved count ns ≡ None
all_right reserved count [] below above = refl
all_right reserved count (n ∷ ns) below above =
    ap (λ o. first_of_both o (first_number_fault reserved count ns)) (right reserved count n
    (below 0 n (omega arith)) (above 0 n (omega arith))) ∙ all_right reserved count ns
    (λ k d l. below (suc k) d (omega arith)) (λ k d l. above (suc k) d (omega arith))

true_false : true ≡ false → ⊥
true_false e = cc

not_true : (b : Bool) → IsTrue (not b) → b ≡ false
not_true true h = absurd (search rules)
not_true false h = refl

-- a filter that leaves out a number that isn't there leaves the list
apart_step : (x n : ℕ) (xs : List ℕ) (b : Bool) → (x == n) ≡ b → ((x == n) || is_in n xs) ≡ false →
    (is_in n xs ≡ false → filter (λ m. not (m == n)) xs ≡ xs) →
    cond (not (x == n)) (x ∷ filter (λ m. not (m == n)) xs) (filter (λ m. not (m == n)) xs) ≡ x ∷ xs
apart_step x n xs b e h ih = grind (arith, true_false)

without_apart : (n : ℕ) (xs : List ℕ) → is_in n xs ≡ false → filter (λ m. not (m == n)) xs ≡ xs
without_apart n [] e = refl
without_apart n (x ∷ xs) e = apart_step x n xs (x == n) refl e (without_apart n xs)

pub once_distinct : (ns : List ℕ) → AllDistinct ns → each_once ns ≡ ns
once_distinct [] d = refl
once_distinct (n ∷ ns) d = grind (
  arith,
  once_distinct ns d.1,
  without_apart n ns (not_true (is_in n ns) d.0),
  not_true (is_in n ns) d.0,
)

both_true : (a b c : Bool) → a ≡ true → b ≡ true → c ≡ true → (a && (b && c)) ≡ true
both_true a b c e f g = ap (λ v. v && (b && c)) e ∙ (ap (λ v. v && c) f ∙ g)

length_right : (n : ℕ) → 0 < n → n ≤ 256 → is_request_length (4 * n) ≡ true
length_right n some few = grind (arith, both_true, lt-ltb, le-leb, eq-eqb)

-- A readable piece whose numbers are distinct unreserved pages of the guest is a request for these
-- pages.
pub one_request : (mem : Pages) (piece : Piece) (p o reserved : ℕ) (pages : List ℕ) →
    IsRequestPiece mem piece p o pages → ArePages reserved (length mem) pages →
    page_request mem (piece ∷ []) reserved ≡ Ok pages
one_request mem piece p o reserved pages r fine =
    let total : total_length (piece ∷ []) ≡ 4 * length pages =
    omega (arith, r.len, total_is piece) in
    by_numbers mem (piece ∷ []) reserved (ap (λ b. b || false) r.readable)
    (ap is_request_length total ∙ length_right (length pages) r.some r.few)
    ∙ (ap (pages_of_numbers reserved (length mem)) (numbers_are mem piece p o pages r)
    ∙ (ap (λ (f : Option ChainFault). unless_fault f (each_once pages))
    (all_right reserved (length mem) pages fine.below fine.above)
    ∙ ap (λ (ns : List ℕ). Ok ns) (once_distinct pages fine.distinct)))
  where
    total_is : (piece : Piece) → total_length (piece ∷ []) ≡ piece.len
    total_is piece = omega arith
