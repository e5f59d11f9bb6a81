-- What the page allocator is, and what each call does (Gorman, chapter 6, for the blocks; the rest
-- is the profile's).
use Rattle.std.specs.Prelude.{◌≡◌, ℕ, ◌+◌, ◌<◌, ◌≤◌, Bool, false, ◌&&◌, nat_lt, nat_le, List, []}
use Rattle.std.specs.Prelude.{length, replicate, Option, Some, None, Result, Ok, Err, count_by}
use Rattle.std.specs.Prelude.{IsTrue}
use Rattle.std.specs.List.{list_any}
use Rattle.vb_virtio.specs.Tests.{one_if}
use Rattle.vb_virtio.specs.declared.limits.TheConstants.{MAX_PROCESSORS}
use Rattle.vb_model.specs.Pages.{Block, pages_of, size, covers, is_same_block}
use Rattle.vb_model.specs.Driver.{with_block, without_block}
use Rattle.vb_pages.specs.declared.table.TheConstants.{MAX_PAGES}
use Rattle.vb_pages.specs.declared.block.FreeBlock.{FreeBlock}
use Rattle.vb_pages.specs.declared.fault.PageFault.{PageFault}
use Rattle.vb_pages.specs.declared.fault.PageFault.TheVariants.{NoPages}
use Rattle.vb_pages.specs.Areas.{with_pages, without_pages, unreserved, block_at, IsBlock}
use Rattle.vb_pages.specs.Areas.{IsMaximal, IsLowestFrom}
use Rattle.vb_pages.specs.Held.{HeldBlocks}
use Rattle.vb_pages.specs.FreePages.{FreePages, is_free_in, times_free, drained, TakesPages, Serves}
use Rattle.vb_pages.specs.FreePages.{given_back}

-- the free pages, and the held blocks by rising start
pub record PageState : Type 0 where
  pub free : FreePages
  pub held : List Block

-- how many pages there are
abbrev pub page_count : PageState → ℕ
page_count s = length s.free.areas

-- how many processors there are
abbrev pub cpu_count : PageState → ℕ
cpu_count s = length s.free.lists

-- how many pages are reserved, which are the first ones
abbrev pub reserved_count : PageState → ℕ
reserved_count s = s.free.reserved

-- in the areas or in a processor's list
abbrev pub is_free_page : PageState → ℕ → Bool
is_free_page s page = is_free_in s.free page

-- in a held block
abbrev pub is_held_page : PageState → ℕ → Bool
is_held_page s page = list_any (covers page) s.held

-- just this block is held
abbrev pub is_held_block : PageState → Block → Bool
is_held_block s b = list_any (λ h. is_same_block h b) s.held

-- a page that isn't reserved
abbrev pub is_unreserved : PageState → ℕ → Bool
is_unreserved s page = nat_le (reserved_count s) page && nat_lt page (page_count s)

-- all of n pages but the reserved ones are free, in the areas
abbrev pub new_page_state : ℕ → ℕ → ℕ → PageState
new_page_state pages cpus reserved =
    record {
      free = record {
        areas = unreserved pages reserved;
        lists = replicate cpus [];
        reserved = reserved;
      };
      held = [];
    }

-- each page of the block is free
abbrev pub IsWhollyFree : PageState → Block → Type 0
IsWhollyFree s b = (page : ℕ) → IsTrue (covers page b) → IsTrue (is_free_page s page)

-- a request for a block of this order
abbrev pub AllocatesBlock : PageState → ℕ → ℕ → Result ℕ PageFault → PageState → Type 0
AllocatesBlock s cpu order (Ok start) new =
    (free : FreePages) × Serves s.free cpu order (Some start) free ×
    (new ≡ record { free = free; held = with_block (block_at start order) s.held })
AllocatesBlock s cpu order (Err fault) new =
    (fault ≡ NoPages) × Serves s.free cpu order None new.free × (new.held ≡ s.held)

-- a block comes back
abbrev pub freed : ℕ → Block → PageState → PageState
freed cpu b s =
    record { free = given_back cpu b.start b.order s.free; held = without_block b s.held }

-- n single pages leave the areas, one after the other, after all lists were drained
abbrev pub TakesFree : PageState → List ℕ → PageState → Type 0
TakesFree s pages new =
    TakesPages (drained s.free).areas pages new.free.areas ×
    (new.free.lists ≡ (drained s.free).lists) × (new.held ≡ s.held) ×
    (reserved_count new ≡ reserved_count s)

-- the block goes into the areas
abbrev pub with_free_block : Block → PageState → PageState
with_free_block b s =
    record s { free = record s.free { areas = with_pages (pages_of b) s.free.areas } }

-- the lowest maximal free block of at least this order from a page on leaves the areas, after all
-- lists were drained
abbrev pub Isolates : PageState → ℕ → ℕ → Option FreeBlock → PageState → Type 0
Isolates s order from None new =
    ((b : Block) → IsMaximal (drained s.free).areas b → order ≤ b.order → from ≤ b.start → ⊥) ×
    (new ≡ record s { free = drained s.free })
Isolates s order from (Some b) new =
    IsLowestFrom (drained s.free).areas order from (block_at b.start b.order)
    × (new ≡ record s {
      free = record (drained s.free) {
        areas = without_pages (pages_of (block_at b.start b.order)) (drained s.free).areas;
      };
    })

-- no page is free and held, free twice or held twice, and no reserved page is either
abbrev pub IsApart : PageState → Type 0
IsApart s = (page : ℕ) → times_free s.free page + count_by (covers page) s.held ≤
    one_if (is_unreserved s page)

-- what the allocator keeps of its two parts
pub record IsKept (free : FreePages) (held : HeldBlocks) : Type 0 where
  pub apart : IsApart (record { free = free; held = held.blocks })
  pub pages : held.pages ≡ length free.areas

-- how many pages and processors there may be
abbrev pub IsGuestSize : ℕ → ℕ → Type 0
IsGuestSize pages cpus = (pages ≤ MAX_PAGES) × (cpus ≤ MAX_PROCESSORS)

-- the block is there, and each of its pages was taken: it is neither reserved nor free nor held
abbrev pub HasRoomIn : PageState → Block → Type 0
HasRoomIn s b =
    IsBlock b × (reserved_count s ≤ b.start) × (b.start + size b ≤ page_count s)
    × ((page : ℕ) → b.start ≤ page → page < b.start + size b →
    (is_free_page s page ≡ false) × (is_held_page s page ≡ false))
