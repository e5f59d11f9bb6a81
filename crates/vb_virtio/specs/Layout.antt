-- Where queues and buffers are in guest memory, by how many descriptors each queue has (profile);
-- queues 0 to 2 are those of VIRTIO 1.1, 5.5.2. The headline needs `reserved_pages` and
-- `start_pages` with what they name; where in these pages rings and buffers lie is the rings'
-- matter.
use Rattle.std.specs.Prelude.{ℕ, ◌+◌, ◌*◌, ◌/◌, ◌%◌, Bool, ◌==◌, ◌||◌, nat_lt, if◌then◌else◌, List}
use Rattle.std.specs.Prelude.{filter}
use Rattle.std.specs.List.{range_with_len}
use Rattle.vb_virtio.specs.declared.layout.TheConstants.{INFLATE_QUEUE, DEFLATE_QUEUE}
use Rattle.vb_virtio.specs.declared.layout.TheConstants.{STATISTICS_QUEUE, REQUEST_BUFFER_SIZE}
use Rattle.vb_virtio.specs.declared.layout.TheConstants.{MAX_QUEUE_SIZE_OF_A_PAGE, FIRST_RING_PAGE}
use Rattle.vb_virtio.specs.declared.layout.TheConstants.{FIRST_RING_PAGE_OF_TWO, RESERVED_PAGES}
use Rattle.vb_virtio.specs.declared.layout.TheConstants.{RESERVED_PAGES_OF_TWO}
use Rattle.vb_virtio.specs.declared.layout.TheConstants.{INFLATE_BUFFERS_PAGE, DEFLATE_BUFFERS_PAGE}
use Rattle.vb_virtio.specs.declared.layout.TheConstants.{STATISTICS_PAGE}
use Rattle.vb_virtio.specs.Limits.{is_between}

-- ---- by the size of the queues

-- whether a ring takes two pages: its descriptors fill the first
abbrev pub takes_two_pages : ℕ → Bool
takes_two_pages size = nat_lt MAX_QUEUE_SIZE_OF_A_PAGE size

-- how many pages are reserved, the first ones
abbrev pub reserved_pages : ℕ → ℕ
reserved_pages size = if takes_two_pages size then RESERVED_PAGES_OF_TWO else RESERVED_PAGES

-- the rings are one after the other, in this order
abbrev pub ring_number : ℕ → ℕ
ring_number q =
    if q == INFLATE_QUEUE then 0
    else (if q == DEFLATE_QUEUE then 1 else (if q == STATISTICS_QUEUE then 2 else 3))

-- the page of a queue's ring, or the first of its two
abbrev pub ring_page : ℕ → ℕ → ℕ
ring_page size q =
    if takes_two_pages size
    then FIRST_RING_PAGE_OF_TWO + 2 * ring_number q
    else FIRST_RING_PAGE + ring_number q

-- whether a page belongs to one of the four rings, and whether it holds rings or buffers
abbrev pub is_ring_page : ℕ → ℕ → Bool
is_ring_page size page =
    if takes_two_pages size
    then is_between FIRST_RING_PAGE_OF_TWO (FIRST_RING_PAGE_OF_TWO + 7) page
    else is_between FIRST_RING_PAGE (FIRST_RING_PAGE + 3) page

abbrev pub is_start_page : ℕ → ℕ → Bool
is_start_page size page =
    is_ring_page size page || is_between INFLATE_BUFFERS_PAGE STATISTICS_PAGE page

-- the pages that a driver needs before it can start, in rising order
abbrev pub start_pages : ℕ → List ℕ
start_pages size = filter (is_start_page size) (range_with_len 0 (reserved_pages size))

-- ---- buffers

-- the first page of the buffers of inflate requests, and of deflate requests
abbrev pub buffers_page : ℕ → ℕ
buffers_page q = if q == INFLATE_QUEUE then INFLATE_BUFFERS_PAGE else DEFLATE_BUFFERS_PAGE

-- the page of buffer h, where the buffers begin at a page, and its offset there
abbrev pub buffer_page : ℕ → ℕ → ℕ
buffer_page first h = first + h / 4

abbrev pub buffer_offset : ℕ → ℕ
buffer_offset h = REQUEST_BUFFER_SIZE * (h % 4)
