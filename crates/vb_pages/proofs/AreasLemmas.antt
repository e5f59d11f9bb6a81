-- The areas as a set: counts, the lowest maximal block, and all pages but the reserved ones.
use Rattle.std.proofs.Common.{◌≡◌, ℕ, suc, ◌+◌, ◌^◌, ◌<◌, ◌≤◌, Bool, true, false, List, [], ◌∷◌}
use Rattle.std.proofs.Common.{length, Option, Some, None, replicate, refl, ◌∙◌, ap, arith}
use Rattle.std.{specs.Prelude.{count_by, nat_le}, proofs.lemmas.List.length-replicate}
use Rattle.std.proofs.lemmas.List.FromFn.{get_or-map-range_with_len, length-map-range_with_len}
use Rattle.{std.proofs.Math.Pow.pow_mono, vb_pages.specs.Tiles.{set_of, IsTiled, IsLowestListed}}
use Rattle.vb_virtio.specs.Tests.{one_if}
use Rattle.vb_virtio.proofs.Tables.{count_by-cons}
use Rattle.vb_model.specs.Pages.{pages_of}
use Rattle.vb_pages.specs.Areas.{has, with_pages, without_pages, unreserved, block_at, LiesIn}
use Rattle.vb_pages.specs.Areas.{LiesOutside, IsMaximal, IsChosen, IsLowestFrom}
use Rattle.vb_pages.specs.declared.{table.TheConstants.MAX_PAGES, block.FreeBlock.FreeBlock}
use Rattle.vb_pages.proofs.{Sets.same_sets, TilesLemmas.{listed_maximal, maximal_listed, none_set}}
use Rattle.vb_pages.proofs.{Sets.{is_inside, count_range, count_without}, TilesLemmas.length-set_of}

pub count_with_block : (s k : ℕ) (set : List Bool) → s + 2 ^ k ≤ length set
    → LiesOutside set (block_at s k)
    → count_by (λ f. f) (with_pages (pages_of (block_at s k)) set) ≡ count_by (λ f. f) set + 2 ^ k
count_with_block s k set fits outside = count_range (2 ^ k) s set fits outside

pub count_without_block : (s k : ℕ) (set : List Bool) → LiesIn set (block_at s k)
    → count_by (λ f. f) set
    ≡ count_by (λ f. f) (without_pages (pages_of (block_at s k)) set) + 2 ^ k
count_without_block s k set inside = count_without s k set inside

-- the pages that a request of the order gets are in the set
pub taken_inside : (set : List Bool) (s j k : ℕ) → IsChosen set j (block_at s k)
    → LiesIn set (block_at s j)
taken_inside set s j k chosen p l h = grind (arith, pow_mono)

pub count_zero : (set : List Bool) → ((p : ℕ) → has set p ≡ false) → count_by (λ f. f) set ≡ 0
count_zero [] h = refl
count_zero (x ∷ xs) h = count_by-cons (λ f. f) x xs
    ∙ (let e : one_if x ≡ 0 = ap one_if (h 0) in omega (arith, e, count_zero xs (λ p. h (suc p))))

pub count_none : (n : ℕ) → n ≤ MAX_PAGES → count_by (λ f. f) (set_of (replicate n None)) ≡ 0
count_none n h = count_zero (set_of (replicate n None)) (λ p. none_set n p h)

pub length-none_set : (n : ℕ) → length (set_of (replicate n None)) ≡ n
length-none_set n = length-set_of (replicate n None) ∙ length-replicate {A = Option ℕ} n None

-- ---- the lowest maximal block

pub lowest_is : (t : List (Option ℕ)) (order from : ℕ) (b : FreeBlock) → IsTiled t
    → IsLowestListed t order from (Some b)
    → IsLowestFrom (set_of t) order from (block_at b.start b.order)
lowest_is t order from b tiled h =
    grind (arith, listed_maximal t tiled.placed tiled.merged b.start b.order h.0, maximal_listed)

pub lowest_none : (t : List (Option ℕ)) (order from : ℕ) → IsTiled t
    → IsLowestListed t order from None → (start larger : ℕ) → order ≤ larger → from ≤ start
    → IsMaximal (set_of t) (block_at start larger) → ⊥
lowest_none t order from tiled h s k o f m =
    h s k o m.is_block.0 f (maximal_listed t tiled.placed tiled.merged (block_at s k) m)

-- ---- all pages but the reserved ones

pub length-unreserved : (n r : ℕ) → length (unreserved n r) ≡ n
unfolding unreserved
length-unreserved n r = length-map-range_with_len (λ page. nat_le r page) 0 n

pub has-unreserved : (n r p : ℕ) → p < n → has (unreserved n r) p ≡ nat_le r p
unfolding unreserved
has-unreserved n r p h =
    get_or-map-range_with_len (λ page. nat_le r page) 0 n p p false h (omega arith)

pub unreserved_is : (set : List Bool) (n r : ℕ) → length set ≡ n → ((p : ℕ) → has set p ≡ true
    → r ≤ p) → ((p : ℕ) → r ≤ p → p < n → has set p ≡ true) → set ≡ unreserved n r
unreserved_is set n r l to from =
    grind (arith, same_sets, length-unreserved, has-unreserved, is_inside)
