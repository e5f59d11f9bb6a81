-- Where the parts of a ring lie, whatever its size: for the crates above too.
use Rattle.vb_virtio.proofs.Shapes.{InRing}
use Rattle.vb_virtio.specs.Layout.{ring_page}
use Rattle.std.proofs.Common.{ℕ, arith}
use Rattle.vb_ring.proofs.Powers.{size_cases}
use Rattle.vb_ring.specs.{Layout.{IsSize, Fits, layout_of}, declared.layout.Layout.Layout}

-- the parts of a ring lie inside its pages, apart from each other
pub fits_at : (page q : ℕ) → IsSize q → Fits (layout_of page q) q
fits_at page q size = grind (arith, size_cases q size)

-- each part of a queue's ring lies in the queue's pages
pub record AreInRing (size q : ℕ) (l : Layout) : Type 0 where
  pub table : InRing size q l.table
  pub avail : InRing size q l.avail.page
  pub used : InRing size q l.used.page

pub parts_in_ring : (size q : ℕ) → IsSize size
    → AreInRing size q (layout_of (ring_page size q) size)
parts_in_ring size q is = grind arith
