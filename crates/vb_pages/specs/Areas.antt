-- Sets of pages and the blocks that lie in them. Blocks of a power of two, their halving and
-- merging: Gorman, "Understanding the Linux Virtual Memory Manager", chapter 6. Which block a
-- request gets is the profile's.
use Rattle.std.specs.Prelude.{◌≡◌, ℕ, ◌+◌, ◌*◌, ◌/◌, ◌^◌, ◌<◌, ◌≤◌, ◌↔◌, Bool, true, false, not}
use Rattle.std.specs.Prelude.{◌&&◌, ◌||◌, nat_le, max, List, length, map, slice_index, Option, Some}
use Rattle.std.specs.Prelude.{None, IsTrue}
use Rattle.std.specs.Int.{div_ceil}
use Rattle.std.specs.List.{range_with_len}
use Rattle.vb_virtio.specs.Tests.{is_in, each_page, has_bit}
use Rattle.vb_virtio.specs.Limits.{max_order}
pub use Rattle.vb_model.specs.Pages.{block_at}
-- a set of pages is a flag a page; a page that isn't there isn't in it
pub use Rattle.vb_bits.specs.Sets.{has}
use Rattle.vb_bits.specs.declared.word.TheConstants.{WORD_BITS}
use Rattle.vb_model.specs.Pages.{Block, size, pages_of, is_aligned}

-- these pages come to the set
unfoldable pub with_pages : List ℕ → List Bool → List Bool
with_pages pages set = each_page (λ page old. old || is_in page pages) set

-- these pages leave the set
unfoldable pub without_pages : List ℕ → List Bool → List Bool
without_pages pages set = each_page (λ page old. old && not (is_in page pages)) set

-- all of n pages but the reserved ones, which are the first ones
unfoldable pub unreserved : ℕ → ℕ → List Bool
unreserved n reserved = map (λ page. nat_le reserved page) (range_with_len 0 n)

-- an aligned block of order 0 to 9
abbrev pub IsBlock : Block → Type 0
IsBlock b = (b.order ≤ max_order) × IsTrue (is_aligned b)

-- each of its pages is in the set
abbrev pub LiesIn : List Bool → Block → Type 0
LiesIn set b = (page : ℕ) → b.start ≤ page → page < b.start + size b → IsTrue (has set page)

-- none of its pages is in the set
abbrev pub LiesOutside : List Bool → Block → Type 0
LiesOutside set b = (page : ℕ) → b.start ≤ page → page < b.start + size b → has set page ≡ false

-- its pages are among those of the other
abbrev pub LiesWithin : Block → Block → Type 0
LiesWithin b c = (c.start ≤ b.start) × (b.start + size b ≤ c.start + size c)

-- a block of the set that lies in no larger one
pub record IsMaximal (set : List Bool) (b : Block) : Type 0 where
  pub is_block : IsBlock b
  pub inside : LiesIn set b
  pub alone : (c : Block) → IsBlock c → LiesIn set c → LiesWithin b c → c.order ≤ b.order

-- of the maximal blocks of the smallest sufficient order, the one with the lowest start
pub record IsChosen (set : List Bool) (order : ℕ) (b : Block) : Type 0 where
  pub maximal : IsMaximal set b
  pub sufficient : order ≤ b.order
  pub smallest : (c : Block) → IsMaximal set c → order ≤ c.order → b.order ≤ c.order
  pub lowest : (c : Block) → IsMaximal set c → c.order ≡ b.order → b.start ≤ c.start

-- no block of this order lies in the set
abbrev pub HasNoBlock : List Bool → ℕ → Type 0
HasNoBlock set order = (start : ℕ) → IsBlock (block_at start order) →
    LiesIn set (block_at start order) → ⊥

-- what a request of this order takes from the set: the lowest part of the chosen block; the rest
-- stays
abbrev pub TakesBlock : List Bool → ℕ → Option ℕ → List Bool → Type 0
TakesBlock set order None new = HasNoBlock set order × (new ≡ set)
TakesBlock set order (Some start) new =
    ((larger : ℕ) × IsChosen set order (block_at start larger)) ×
    (new ≡ without_pages (pages_of (block_at start order)) set)

-- the lowest maximal block of at least this order that starts at or after a page
pub record IsLowestFrom (set : List Bool) (order from : ℕ) (b : Block) : Type 0 where
  pub maximal : IsMaximal set b
  pub sufficient : order ≤ b.order
  pub after : from ≤ b.start
  pub lowest : (c : Block) → IsMaximal set c → order ≤ c.order → from ≤ c.start → b.start ≤ c.start

-- the set's maximal blocks of this order as bits: bit b of word w is 1 exactly if one starts at
-- page (64 w + b) * 2^order; the words are the fewest that n pages need, at least one
pub record AreBlockBits (set : List Bool) (order : ℕ) (words : List ℕ) : Type 0 where
  pub fewest : length words ≡ max 1 (div_ceil (length set / 2 ^ order) WORD_BITS)
  pub tells : (w b : ℕ) → b < WORD_BITS → (has_bit (slice_index words w) b ≡ true) ↔
      IsMaximal set (block_at ((WORD_BITS * w + b) * 2 ^ order) order)
