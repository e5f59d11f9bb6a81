-- The pages of a queue's ring, whatever its size.
use Rattle.std.{proofs.Common.arith, specs.Prelude.{◌≡◌, ℕ, ◌<◌}}
use Rattle.vb_virtio.specs.Layout.{reserved_pages, ring_page}
use Rattle.vb_virtio.proofs.Shapes.{InRing, in_ring_page, ring_reserved}
use Rattle.vb_ram.specs.Pages.{Pages, frame_at}
use Rattle.vb_ring.{specs.Layout.{IsSize, IsBacked, layout_of}, proofs.Shapes.parts_in_ring}

pub ring_below : (size q page : ℕ) → InRing size q page → page < reserved_pages size
ring_below size q page at = ring_reserved size page (in_ring_page size q page at)

-- and has it still where the reserved pages have theirs
pub backed_still : (m1 m2 : Pages) (size q : ℕ) → IsSize size
    → ((page : ℕ) → page < reserved_pages size → frame_at m2 page ≡ frame_at m1 page)
    → IsBacked m1 (layout_of (ring_page size q) size)
    → IsBacked m2 (layout_of (ring_page size q) size)
backed_still m1 m2 size q is same backed = grind (arith, parts_in_ring, ring_below)
