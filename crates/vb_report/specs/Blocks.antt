-- What page reporting does (profile).
use Rattle.std.specs.Prelude.{ℕ, ◌*◌, ◌≤◌, Bool, true, List, map, All}
use Rattle.std.specs.List.{list_any}
use Rattle.vb_virtio.specs.Limits.{page_size, max_order}
use Rattle.vb_virtio.specs.Tests.{AllDistinct}
use Rattle.vb_model.specs.Pages.{Block, block_at, size, covers, pages_of_all, reported}
use Rattle.vb_model.specs.Pages.{maximal_blocks}
use Rattle.vb_chain.specs.declared.pieces.Piece.{Piece}
use Rattle.vb_pages.specs.declared.block.FreeBlock.{FreeBlock}
use Rattle.vb_pages.specs.Areas.{with_pages, without_pages}
use Rattle.vb_pages.specs.FreePages.{drained}
use Rattle.vb_pages.specs.PageState.{PageState, page_count, is_free_page, HasRoomIn}

-- a block of the areas as the rules have it
abbrev pub block_of : FreeBlock → Block
block_of b = block_at b.start b.order

abbrev pub blocks_of : List FreeBlock → List Block
blocks_of blocks = map block_of blocks

-- one of the blocks covers the page
abbrev pub is_covered : ℕ → List FreeBlock → Bool
is_covered page blocks = list_any (covers page) (blocks_of blocks)

-- the first maximal free blocks of order 4 or more from a page on, as many as there is room for, by
-- rising start
abbrev pub blocks_to_report : PageState → ℕ → ℕ → List Block
blocks_to_report s from room = reported room from (maximal_blocks (page_count s) (is_free_page s))

-- all lists are drained, and then these blocks leave the areas
abbrev pub without_blocks : List FreeBlock → PageState → PageState
without_blocks blocks s =
    record s {
      free = record (drained s.free) {
        areas = without_pages (pages_of_all (blocks_of blocks)) (drained s.free).areas;
      };
    }

-- these blocks come to the areas
abbrev pub with_blocks : List FreeBlock → PageState → PageState
with_blocks blocks s =
    record s {
      free = record s.free { areas = with_pages (pages_of_all (blocks_of blocks)) s.free.areas };
    }

-- each block was taken, and no two of them share a page
pub record HaveRoom (s : PageState) (blocks : List FreeBlock) : Type 0 where
  pub each : All (λ b. HasRoomIn s (block_of b)) blocks
  pub apart : AllDistinct (pages_of_all (blocks_of blocks))

-- its order is one that blocks have
abbrev pub HasOrder : FreeBlock → Type 0
HasOrder b = b.order ≤ max_order

-- the bytes of a block, for the device to write
abbrev pub piece_of : Block → Piece
piece_of b = record { addr = b.start * page_size; len = page_size * size b; writable = true }

abbrev pub pieces_of : List Block → List Piece
pieces_of blocks = map piece_of blocks
