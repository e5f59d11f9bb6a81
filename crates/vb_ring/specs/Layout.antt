-- Where the parts of a split virtqueue lie (VIRTIO 1.1, 2.6).
use Rattle.std.specs.Prelude.{◌≡◌, ℕ, ◌+◌, ◌*◌, ◌/◌, ◌%◌, ◌<◌, ◌≤◌, IsSome, length}
use Rattle.std.specs.Int.{next_multiple_of}
use Rattle.vb_virtio.specs.declared.limits.TheConstants.{PAGE_SIZE, MIN_QUEUE_SIZE, MAX_QUEUE_SIZE}
use Rattle.vb_ram.specs.Pages.{Pages, frame_at}
use Rattle.vb_chain.specs.declared.descriptor.TheConstants.{DESCRIPTOR_SIZE}
use Rattle.vb_ring.specs.declared.layout.RingArea.{RingArea}
use Rattle.vb_ring.specs.declared.layout.Layout.{Layout}

-- A number of descriptors that a queue may have. It divides 65,536, so that an index that wraps
-- goes on at the next place.
pub record IsSize (q : ℕ) : Type 0 where
  pub least : MIN_QUEUE_SIZE ≤ q
  pub most : q ≤ MAX_QUEUE_SIZE
  pub divides : 65536 % q ≡ 0

-- Where byte n of a ring is that begins with this page.
abbrev pub area_at : ℕ → ℕ → RingArea
area_at page n = record { page = page + n / PAGE_SIZE; offset = n % PAGE_SIZE }

-- A ring of q descriptors whose first page is this one: the table of 16 bytes a descriptor, then
-- the available ring of 6 + 2q bytes, then, at the next multiple of 4, the used ring.
abbrev pub layout_of : ℕ → ℕ → Layout
layout_of page q =
    record {
      table = page;
      avail = area_at page (DESCRIPTOR_SIZE * q);
      used = area_at page (next_multiple_of (DESCRIPTOR_SIZE * q + (6 + 2 * q)) 4);
    }

-- The parts of a ring of q descriptors lie inside their pages, and no byte lies in two of them.
pub record Fits (l : Layout) (q : ℕ) : Type 0 where
  pub size : IsSize q
  pub avail : l.avail.offset + (6 + 2 * q) ≤ PAGE_SIZE
  pub used : l.used.offset + (6 + 8 * q) ≤ PAGE_SIZE
  pub table_avail : l.avail.page ≡ l.table → DESCRIPTOR_SIZE * q ≤ l.avail.offset
  pub table_used : l.used.page ≡ l.table → DESCRIPTOR_SIZE * q ≤ l.used.offset
  pub avail_used : l.used.page ≡ l.avail.page → l.avail.offset + (6 + 2 * q) ≤ l.used.offset

-- The pages of a ring lie in memory.
pub record IsInside (mem : Pages) (l : Layout) : Type 0 where
  pub table : l.table < length mem
  pub avail : l.avail.page < length mem
  pub used : l.used.page < length mem

-- The pages of a ring have frames.
pub record IsBacked (mem : Pages) (l : Layout) : Type 0 where
  pub table : IsSome (frame_at mem l.table)
  pub avail : IsSome (frame_at mem l.avail.page)
  pub used : IsSome (frame_at mem l.used.page)
