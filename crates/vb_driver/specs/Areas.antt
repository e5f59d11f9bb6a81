-- What the driver uses of the page areas.
use Rattle.std.specs.Prelude.{◌≡◌, ℕ, Bool, true, false, ◌&&◌, List, [], ◌∷◌, length, map}
use Rattle.std.specs.Prelude.{slice_index_or, Result, Ok, Err}
use Rattle.std.specs.List.{list_any, list_all, range_with_len}
use Rattle.vb_model.specs.Pages.{Block, covers, is_aligned, pages_of}
use Rattle.vb_virtio.specs.declared.refusals.Refusal.{Refusal}
use Rattle.vb_virtio.specs.declared.refusals.Refusal.TheVariants.{BadOrder, BadCpu, NoPages}
use Rattle.vb_virtio.specs.declared.refusals.Refusal.TheVariants.{NotHeld}
use Rattle.vb_pages.specs.declared.fault.PageFault.{PageFault}
use Rattle.vb_pages.specs.declared.fault.PageFault.TheVariants.{BadOrder as OrderTooLarge}
use Rattle.vb_pages.specs.declared.fault.PageFault.TheVariants.{BadCpu as NoSuchCpu}
use Rattle.vb_pages.specs.declared.fault.PageFault.TheVariants.{NoPages as NoFreeBlock}
use Rattle.vb_pages.specs.declared.fault.PageFault.TheVariants.{NotHeld as NoSuchBlock}
use Rattle.vb_pages.specs.FreePages.{FreePages, drained, is_free_in as is_free_page}
use Rattle.vb_pages.specs.PageState.{PageState, AllocatesBlock, with_free_block}
use Rattle.vb_pages.specs.Areas.{block_at, with_pages, without_pages}

-- whether each page is free
unfoldable pub flags_of : FreePages → List Bool
flags_of f = map (is_free_page f) (range_with_len 0 (length f.areas))

-- how the driver refuses what the allocator refuses
abbrev pub refusal_of : PageFault → Refusal
refusal_of OrderTooLarge = BadOrder
refusal_of NoSuchCpu = BadCpu
refusal_of NoFreeBlock = NoPages
refusal_of NoSuchBlock = NotHeld

abbrev pub is_free_at : List Bool → ℕ → Bool
is_free_at free page = slice_index_or free page false

-- aligned, and each of its pages is free
abbrev pub is_free_block : List Bool → Block → Bool
is_free_block free b = is_aligned b && list_all (is_free_at free) (pages_of b)

abbrev pub is_covered : ℕ → List Block → Bool
is_covered page held = list_any (covers page) held

-- some block of the order is wholly free
abbrev pub has_block : PageState → ℕ → Bool
has_block s order =
    let flags = flags_of s.free in
    list_any (λ start. is_free_block flags (block_at start order)) (range_with_len 0 (length flags))

-- The areas are for as many processors, and have as many reserved pages.
pub record AreFor (old new : FreePages) : Type 0 where
  pub processors : length new.lists ≡ length old.lists
  pub reserved : new.reserved ≡ old.reserved

-- From now on these pages are free and these blocks held, in the areas of the same guest.
pub record Becomes (old new : PageState) (flags : List Bool) (blocks : List Block) : Type 0 where
  pub free : flags_of new.free ≡ flags
  pub held : new.held ≡ blocks
  pub same : AreFor old.free new.free

-- What an allocation does to the areas and the lists: it takes its block from them, or finds none,
-- with all lists drained. An order or a processor that is refused leaves them as they are.
abbrev pub Allots : PageState → ℕ → ℕ → Result ℕ Refusal → PageState → Type 0
Allots s cpu order (Ok start) new = AllocatesBlock s cpu order (Ok start) new
Allots s cpu order (Err NoPages) new = AllocatesBlock s cpu order (Err NoFreeBlock) new
Allots s cpu order (Err refusal) new = new ≡ s

-- these single pages go back into the areas, one after the other
abbrev pub all_given : List ℕ → PageState → PageState
all_given [] s = s
all_given (page ∷ pages) s = all_given pages (with_free_block (block_at page 0) s)

-- these pages come to the areas
abbrev pub areas_with : List ℕ → FreePages → FreePages
areas_with pages f = record f { areas = with_pages pages f.areas }

-- all lists are drained, and then these pages leave the areas
abbrev pub areas_without : List ℕ → FreePages → FreePages
areas_without pages f =
    record (drained f) { areas = without_pages pages (drained f).areas }

-- No page is both free and in a held block.
pub record AreApart (s : PageState) : Type 0 where
  pub apart : (page : ℕ) → is_covered page s.held ≡ true → is_free_at (flags_of s.free) page ≡ false
