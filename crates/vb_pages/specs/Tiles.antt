-- Blocks that a table lists, and the set of pages that they make up.
use Rattle.std.specs.Prelude.{◌≡◌, ℕ, suc, ◌+◌, ◌-◌, ◌%◌, ◌^◌, ◌<◌, ◌≤◌, Bool, List, length, map}
use Rattle.std.specs.Prelude.{Option, Some, None, ◌⊎◌}
use Rattle.std.specs.List.{list_any, range_with_len}
use Rattle.vb_virtio.specs.Limits.{max_order}
use Rattle.vb_pages.specs.declared.table.TheConstants.{MAX_PAGES}
use Rattle.vb_pages.specs.Table.{order_at, is_order, AreBlocks}
use Rattle.vb_pages.specs.declared.block.FreeBlock.{FreeBlock}
use Rattle.vb_pages.specs.Areas.{LiesOutside, block_at}

-- some block of the table covers the page
unfoldable pub is_covered : List (Option ℕ) → ℕ → Bool
is_covered table page =
    list_any (λ order. is_order order (order_at table (page - page % 2 ^ order)))
    (range_with_len 0 (max_order + 1))

-- the pages that the blocks of the table make up
unfoldable pub set_of : List (Option ℕ) → List Bool
set_of table = map (is_covered table) (range_with_len 0 (length table))

-- its blocks are aligned, lie in the table and share no page
pub record IsPlaced (table : List (Option ℕ)) : Type 0 where
  pub blocks : AreBlocks table
  pub apart : (start order other k : ℕ) → order_at table start ≡ Some order → start < other →
      other < start + 2 ^ order → order_at table other ≡ Some k → ⊥

-- no two of its blocks are the halves of a block
abbrev pub IsMerged : List (Option ℕ) → Type 0
IsMerged table = (start order : ℕ) → order_at table start ≡ Some order →
    order_at table (start + 2 ^ order) ≡ Some order → start % 2 ^ suc order ≡ 0 →
    order < max_order → ⊥

-- the other half of the next larger block
abbrev pub IsBuddy : ℕ → ℕ → ℕ → Type 0
IsBuddy start order buddy =
    ((start % 2 ^ suc order ≡ 0) × (buddy ≡ start + 2 ^ order)) ⊎
    ((start % 2 ^ suc order ≡ 0 → ⊥) × (start ≡ buddy + 2 ^ order) ×
    (buddy % 2 ^ suc order ≡ 0))

-- the pages from a start on are those of a block that the table has room for
pub record HasRoom (table : List (Option ℕ)) (start order : ℕ) : Type 0 where
  pub bounded : order ≤ max_order
  pub aligned : start % 2 ^ order ≡ 0
  pub fits : start + 2 ^ order ≤ length table
  pub outside : LiesOutside (set_of table) (block_at start order)

-- a table of blocks that are merged
pub record IsTiled (table : List (Option ℕ)) : Type 0 where
  pub placed : IsPlaced table
  pub merged : IsMerged table
  pub small : length table ≤ MAX_PAGES

-- of the listed blocks of at least this order that start at or after a page, the lowest
abbrev pub IsLowestListed : List (Option ℕ) → ℕ → ℕ → Option FreeBlock → Type 0
IsLowestListed table order from None = (start larger : ℕ) → order ≤ larger → larger ≤ max_order →
    from ≤ start → order_at table start ≡ Some larger → ⊥
IsLowestListed table order from (Some b) =
    (order_at table b.start ≡ Some b.order) × (order ≤ b.order) × (b.order ≤ max_order) ×
    (from ≤ b.start)
    × ((start larger : ℕ) → order ≤ larger → larger ≤ max_order → from ≤ start →
    order_at table start ≡ Some larger → b.start ≤ start)
