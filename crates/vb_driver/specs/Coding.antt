-- How a request is in guest memory: VIRTIO 1.1, 5.5.6; where the buffers are is the profile's.
use Rattle.std.specs.Prelude.{◌≡◌, ◌≢◌, ℕ, ◌+◌, ◌*◌, ◌<◌, Bool, true, false, List, length}
use Rattle.std.specs.Prelude.{slice_index}
use Rattle.std.specs.List.{range_with_len}
use Rattle.vb_virtio.specs.Limits.{page_size, max_outstanding}
use Rattle.vb_virtio.specs.Layout.{buffer_page, buffer_offset}
use Rattle.vb_virtio.specs.declared.layout.TheConstants.{REQUEST_BUFFER_SIZE, STATISTICS_PAGE}
use Rattle.vb_virtio.specs.declared.layout.TheConstants.{STATISTIC_SIZE, FREE_MEMORY_TAG}
use Rattle.vb_virtio.specs.declared.layout.TheConstants.{TOTAL_MEMORY_TAG}
use Rattle.vb_model.specs.Pages.{Block}
use Rattle.vb_model.specs.Requests.{Figures}
use Rattle.vb_ram.specs.Pages.{Pages, field, byte_at, page_at, frame_at, contents_at, SameIn}
use Rattle.vb_chain.specs.declared.descriptor.Descriptor.{Descriptor}
use Rattle.vb_chain.specs.Table.{descriptor_at}
use Rattle.vb_chain.specs.Written.{linked}
use Rattle.vb_ring.specs.declared.layout.Layout.{Layout}
use Rattle.vb_report.specs.Blocks.{pieces_of}

-- the readable descriptor of n page numbers in buffer h, where the buffers begin at a page
abbrev pub buffer_of : ℕ → ℕ → ℕ → Descriptor
buffer_of base h n =
    record {
      addr = page_size * buffer_page base h + buffer_offset h;
      len = 4 * n;
      flags = 0;
      next = 0;
    }

-- these page numbers are at the offset of the page
pub record Names (mem : Pages) (p o : ℕ) (pages : List ℕ) : Type 0 where
  pub each : (k : ℕ) → k < length pages → field 4 mem p (o + 4 * k) ≡ slice_index pages k

-- the table has the descriptor of buffer h, and the buffer these page numbers
pub record IsCoded (mem : Pages) (table base h : ℕ) (pages : List ℕ) : Type 0 where
  pub descriptor : descriptor_at mem table h ≡ buffer_of base h (length pages)
  pub names : Names mem (buffer_page base h) (buffer_offset h) pages

-- a statistic is at an offset of the buffer's page: its tag, and then its value (VIRTIO 1.1,
-- 5.5.6.3)
pub record IsStatistic (mem : Pages) (offset tag value : ℕ) : Type 0 where
  pub tagged : field 2 mem STATISTICS_PAGE offset ≡ tag
  pub valued : field 8 mem STATISTICS_PAGE (offset + 2) ≡ value

-- the readable descriptor of the statistics buffer, which has two statistics
abbrev pub statistics_buffer : Descriptor
statistics_buffer =
    record { addr = page_size * STATISTICS_PAGE; len = 2 * STATISTIC_SIZE; flags = 0; next = 0 }

-- the table has the descriptor of the statistics buffer first, and the buffer these figures: the
-- memory that is free, and all memory (VIRTIO 1.1, 5.5.6.4)
pub record AreFigures (mem : Pages) (table : ℕ) (figures : Figures) : Type 0 where
  pub descriptor : descriptor_at mem table 0 ≡ statistics_buffer
  pub free : IsStatistic mem 0 FREE_MEMORY_TAG figures.free
  pub total : IsStatistic mem STATISTIC_SIZE TOTAL_MEMORY_TAG figures.total

-- the table has the chain of a report of these blocks: a descriptor for each, from the first on
pub record AreReported (mem : Pages) (table : ℕ) (blocks : List Block) : Type 0 where
  pub chain : (k : ℕ) → k < length blocks → descriptor_at mem table k
      ≡ linked (range_with_len 0 (length blocks)) (pieces_of blocks) k

-- nothing but the page of the buffer and those of the ring's table and available ring has changed
pub record SameButPages (old new : Pages) (ring : Layout) (buffer : ℕ) : Type 0 where
  pub others : (p : ℕ) → p ≢ ring.table → p ≢ ring.avail.page → p ≢ buffer
      → page_at new p ≡ page_at old p
  pub backing : (p : ℕ) → frame_at new p ≡ frame_at old p
  pub count : length new ≡ length old

-- nothing but buffer h and the pages of the ring's table and available ring has changed
pub record SameButBuffer (old new : Pages) (ring : Layout) (base h : ℕ) : Type 0 where
  pub others : (p : ℕ) → p ≢ ring.table → p ≢ ring.avail.page → p ≢ buffer_page base h
      → page_at new p ≡ page_at old p
  pub buffers : (k : ℕ) → k < max_outstanding → k ≢ h
      → SameIn old new (buffer_page base k)
      (buffer_offset k) (buffer_offset k + REQUEST_BUFFER_SIZE)
  pub backing : (p : ℕ) → frame_at new p ≡ frame_at old p
  pub count : length new ≡ length old

-- the pages that pass are zeros, all others as before
pub record AreZeroed (old new : Pages) (passes : ℕ → Bool) : Type 0 where
  pub zero : (page offset : ℕ) → passes page ≡ true → offset < page_size
      → byte_at new page offset ≡ 0
  pub others : (page : ℕ) → passes page ≡ false → page_at new page ≡ page_at old page
  pub backing : (page : ℕ) → frame_at new page ≡ frame_at old page
  pub sizes : (page : ℕ) → length (contents_at new page) ≡ length (contents_at old page)
  pub count : length new ≡ length old
