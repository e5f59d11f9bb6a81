-- What follows for callers that add and take chains.
use Rattle.std.specs.Prelude.{◌≡◌, ℕ, ◌<◌, ◌≤◌, Bool, true, false, List, [], ◌∷◌, Some, None}
use Rattle.std.specs.Prelude.{Result, Ok, Err, if◌then◌else◌, length, slice_get, slice_index}
use Rattle.{std.specs.Prelude.{slice_index_or, refl, nat_lt}, vb_ring.proofs.OwnerLaws.nowhere_in}
use Rattle.{std.proofs.lemmas.{Bool.cases_eq, List.length-take}, vb_chain.specs.Table.descriptor_at}
use Rattle.std.proofs.{Common.{sym, ◌∙◌, ap, arith, inl, inr}, lemmas.Option.slice_get-get_or}
use Rattle.{vb_ram.specs.Pages.Pages, vb_chain.specs.Chain.ChainGives, vb_ring.specs.Calls.AddsBy}
use Rattle.{vb_chain.specs.declared.pieces.Piece.Piece, vb_ring.specs.Ends.{outstanding, AreSingle}}
use Rattle.vb_chain.{specs.Written.{IsRoute, AreSound}, proofs.ChainLaws.written_chain}
use Rattle.vb_ring.proofs.Numbers.{numbers_pass, numbers_rise, numbers_has, length_all}
use Rattle.vb_ring.specs.Ends.{DriverEnd, is_unused, free_descriptors, next_head, next_path}
use Rattle.vb_ring.specs.{declared.driver.Full.{TheVariants.TooFewFree, Full}, Entries.is_head}
use Rattle.vb_ring.proofs.{Numbers.length-numbers, MeaningLaws.{next_path-free, next_path-rise}}

-- ---- what was added is a chain of these pieces

pub next_route : (r : DriverEnd) (n : ℕ) → IsRoute r.size (next_path r n)
next_route r n = grind (arith, next_path-free, next_path-rise)

answer_ok : (a n h x : ℕ) (r : Result ℕ Full) → r ≡ Ok h
    → r ≡ (if nat_lt a n then Err TooFewFree else Ok x) → (n ≤ a) × (h ≡ x)
answer_ok a n h x r is e = grind arith

-- The chain that an add has written is a chain from its head, and its pieces are those that were
-- added.
pub added_chain : (old new : Pages) (r1 r2 : DriverEnd) (pieces : List Piece) (h end : ℕ)
    → AddsBy old new r1 r2 pieces (Ok h) → AreSound end pieces
    → ChainGives (descriptor_at new r1.layout.table) r1.size end h pieces
added_chain old new r1 r2 pieces h end adds sound =
    grind (arith, answer_ok, length-take, length-numbers, written_chain, next_route)

-- A descriptor that belongs to a chain stays as it is.
pub added_apart : (old new : Pages) (r1 r2 : DriverEnd) (pieces : List Piece) (h i j : ℕ)
    → AddsBy old new r1 r2 pieces (Ok h) → i < r1.size → slice_index_or r1.owner i None ≡ Some j
    → descriptor_at new r1.layout.table i ≡ descriptor_at old r1.layout.table i
added_apart old new r1 r2 pieces h i j adds lt own = grind (arith, nowhere_in, next_path-free)

-- ---- chains of one descriptor

-- Where the chains that are out have one descriptor each, the next head is at most their number.
pub next_low : (r : DriverEnd) (h : ℕ) → AreSingle r → next_head r ≡ Some h → h ≤ outstanding r
next_low r h single next =
    let some : 0 < length (free_descriptors r) = get_some (free_descriptors r) h next in
    let first : slice_index (free_descriptors r) 0 ≡ h = some_same (slice_index
    (free_descriptors r) 0) h (sym (slice_get-get_or (free_descriptors r) 0 0 some) ∙ next) in
    let inside = numbers_pass (is_unused r.owner) r.size 0 some in
    length_all (is_head r.owner) r.size h (omega (arith, first, inside.0)) (λ i l.
    single i (omega (arith, first, inside.0)) (taken r h some first i l (is_unused r.owner i) refl))
  where
    some_same : (a b : ℕ) → Some a ≡ Some b → a ≡ b
    some_same a b e = cc

    get_some : (xs : List ℕ) (h : ℕ) → slice_get xs 0 ≡ Some h → 0 < length xs
    get_some [] h e = cc
    get_some (x ∷ xs) h e = omega arith

    taken : (r : DriverEnd) (h : ℕ) → 0 < length (free_descriptors r)
        → slice_index (free_descriptors r) 0 ≡ h → (i : ℕ) → i < h → (b : Bool)
        → is_unused r.owner i ≡ b → is_unused r.owner i ≡ false
    taken r h some first i l false e = e
    taken r h some first i l true e = let inside = numbers_pass (is_unused r.owner) r.size 0 some in
        let found = numbers_has (is_unused r.owner) r.size i (omega (arith, first, inside.0)) e in
        elim (cases_eq found.0 0) [
          | inl z ↦ absurd (omega (arith, first, ap (slice_index (free_descriptors r)) z, found.2))
          | inr ne ↦ absurd (omega (
            arith,
            numbers_rise (is_unused r.owner) r.size 0 found.0 (omega (arith, ne)) found.1,
          ))
        ]
