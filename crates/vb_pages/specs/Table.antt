-- A table by page of the blocks that start there: an order a page, where a block does. It is kept
-- as a set of numbers for each order: block b of an order starts at page b * 2^order.
use Rattle.std.specs.Prelude.{◌≡◌, ℕ, zero, suc, ◌+◌, ◌*◌, ◌/◌, ◌%◌, ◌^◌, ◌≤◌, Bool, false, ◌==◌}
use Rattle.std.specs.Prelude.{◌&&◌, List, [], length, map, max, Option, Some, None}
use Rattle.std.specs.Prelude.{if◌then◌else◌, slice_index_or}
use Rattle.std.specs.List.{range_with_len}
use Rattle.vb_virtio.specs.Limits.{max_order}
use Rattle.vb_pages.specs.declared.table.TheConstants.{MAX_PAGES}
use Rattle.vb_bits.specs.Sets.{has}

-- the order of the block that starts at the page, if one does
abbrev pub order_at : List (Option ℕ) → ℕ → Option ℕ
order_at table page = slice_index_or table page None

abbrev pub is_order : ℕ → Option ℕ → Bool
is_order order None = false
is_order order (Some k) = k == order

-- the blocks of a table: of order 0 to 9, aligned and within it
pub record AreBlocks (table : List (Option ℕ)) : Type 0 where
  pub bounded : (start order : ℕ) → order_at table start ≡ Some order → order ≤ max_order
  pub aligned : (start order : ℕ) → order_at table start ≡ Some order → start % 2 ^ order ≡ 0
  pub fits : (start order : ℕ) → order_at table start ≡ Some order →
      start + 2 ^ order ≤ length table

-- n blocks of the order m pages have room for; a set has one number at least
abbrev pub room_of : ℕ → ℕ → ℕ
room_of order pages = max 1 (pages / 2 ^ order)

-- which blocks of the order are in the table
unfoldable pub set_of_order : ℕ → List (Option ℕ) → List Bool
set_of_order order table =
    map (λ b. is_order order (order_at table (b * 2 ^ order)))
    (range_with_len 0 (room_of order (length table)))

-- the sets of the orders 0 to 9
unfoldable pub sets_of : List (Option ℕ) → List (List Bool)
sets_of table = map (λ order. set_of_order order table) (range_with_len 0 (max_order + 1))

-- whether the sets have a block of the order that starts at the page
abbrev pub is_in_sets : List (List Bool) → ℕ → ℕ → Bool
is_in_sets sets page order =
    page % 2 ^ order == 0 && has (slice_index_or sets order []) (page / 2 ^ order)

-- of n numbers, from one on, the first that passes a test
abbrev pub first_of : (ℕ → Bool) → ℕ → ℕ → Option ℕ
first_of test first zero = None
first_of test first (suc more) =
    if test first then Some first else first_of test (suc first) more

-- the table of n pages that sets represent
unfoldable pub table_of : ℕ → List (List Bool) → List (Option ℕ)
table_of pages sets =
    map (λ page. first_of (is_in_sets sets page) 0 (max_order + 1)) (range_with_len 0 pages)

-- the sets are just those of the table that they represent
pub record AreSetsOf (pages : ℕ) (sets : List (List Bool)) : Type 0 where
  pub small : pages ≤ MAX_PAGES
  pub same : sets ≡ sets_of (table_of pages sets)
  pub blocks : AreBlocks (table_of pages sets)

-- the lowest start, from a page on, of a block of this order
abbrev pub IsLowestStart : List (Option ℕ) → ℕ → ℕ → Option ℕ → Type 0
IsLowestStart table order from None =
    (page : ℕ) → from ≤ page → order_at table page ≡ Some order → ⊥
IsLowestStart table order from (Some start) =
    (order_at table start ≡ Some order) × (from ≤ start) ×
    ((page : ℕ) → from ≤ page → order_at table page ≡ Some order → start ≤ page)
