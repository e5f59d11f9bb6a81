-- What a balloon driver keeps.
use Rattle.std.specs.Prelude.{map, ◌≡◌, ℕ, ◌+◌, ◌*◌, ◌<◌, ◌≤◌, nat_lt, Bool, true, false, List, []}
use Rattle.std.specs.Prelude.{All, IsTrue}
use Rattle.std.specs.Prelude.{length, sum_by, count_by, replicate, slice_index_or, Some, None}
use Rattle.std.specs.Prelude.{if◌then◌else◌}
use Rattle.vb_model.specs.declared.places.Place.{Place}
use Rattle.vb_model.specs.declared.places.Place.TheVariants.{Reserved, Used}
use Rattle.vb_virtio.specs.declared.layout.TheConstants.{STATISTICS_QUEUE, REPORT_QUEUE}
use Rattle.vb_virtio.specs.Limits.{max_outstanding, max_request_pages, max_order, page_size}
use Rattle.vb_virtio.specs.declared.limits.TheConstants.{MIN_GUEST_PAGES, MAX_GUEST_PAGES}
use Rattle.vb_virtio.specs.Features.{must_tell_host}
use Rattle.vb_virtio.specs.Layout.{reserved_pages, ring_page}
use Rattle.vb_virtio.specs.Tests.{one_if, times}
use Rattle.vb_model.specs.Pages.{Block, place_of, all_free, is_free, is_giving, is_lent, is_taking}
use Rattle.vb_model.specs.Pages.{is_stranded, is_reporting, is_aligned, pages_of_all}
use Rattle.vb_model.specs.Requests.{Figures}
use Rattle.vb_model.specs.Tables.{most_requests}
use Rattle.vb_ring.specs.Layout.{IsSize, layout_of}
use Rattle.vb_ring.specs.Entries.{is_head}
use Rattle.vb_ring.specs.Ends.{DriverEnd, fresh_end, is_unused}
pub use Rattle.vb_pages.specs.FreePages.{FreePages}
use Rattle.vb_pages.specs.PageState.{PageState, new_page_state}
use Rattle.vb_driver.specs.Areas.{flags_of, is_covered}

-- Of a queue of requests: its number, the driver's end of its ring, and by head the pages of each
-- request that is out, none where no request has the head.
pub record RequestSide : Type 0 where
  pub number : ℕ
  pub ring : DriverEnd
  pub sent : List (List ℕ)

-- Of the queue of reports: the driver's end of its ring, and the blocks of the report that is out,
-- by rising start, none where no report is.
pub record ReportSide : Type 0 where
  pub ring : DriverEnd
  pub blocks : List Block

-- A driver: how large its guest is, where each page is, the blocks that allocations hold, by rising
-- start, the page areas with each processor's list, its two queues of requests, its end of the
-- queue of statistics, its queue of reports, the features that were accepted last, and how many
-- pages it told the device last that it has given away.
pub record DriverState : Type 0 where
  pub pages : ℕ
  pub queue_size : ℕ
  pub processors : ℕ
  pub places : List Place
  pub held : List Block
  pub areas : FreePages
  pub inflate : RequestSide
  pub deflate : RequestSide
  pub statistics : DriverEnd
  pub report : ReportSide
  pub features : ℕ
  pub actual : ℕ

-- ---- what is read off a driver

-- its page allocator
abbrev pub page_state : DriverState → PageState
page_state d = record { free = d.areas; held = d.held }

abbrev pub free_count : DriverState → ℕ
free_count d = count_by is_free d.places

abbrev pub giving_count : DriverState → ℕ
giving_count d = count_by is_giving d.places

abbrev pub lent_count : DriverState → ℕ
lent_count d = count_by is_lent d.places

-- it has agreed to tell the host before it uses a page again (VIRTIO 1.1, 5.5.3)
abbrev pub tells_host : DriverState → Bool
tells_host d = must_tell_host d.features

abbrev pub stranded_count : DriverState → ℕ
stranded_count d = count_by is_stranded d.places

-- how many requests of a queue there may be
abbrev pub room : DriverState → ℕ
room d = most_requests d.queue_size

-- the pages of the request with this head
abbrev pub sent_by : RequestSide → ℕ → List ℕ
sent_by side head = slice_index_or side.sent head []

-- how many pages the requests name
abbrev pub pages_named : RequestSide → ℕ
pages_named side = sum_by (λ pages. length pages) side.sent

-- how many pages count as given to the host: those lent, and those that are requested back
abbrev pub given_away : DriverState → ℕ
given_away d = lent_count d + pages_named d.deflate

-- the figures of a statistics buffer, in bytes (VIRTIO 1.1, 5.5.6.3)
abbrev pub figures_of : DriverState → Figures
figures_of d = record { free = free_count d * page_size; total = d.pages * page_size }

-- how often the requests name a page
abbrev pub naming : ℕ → List (List ℕ) → ℕ
naming page sent = sum_by (times page) sent

-- how many values an index of a ring has: VIRTIO 1.1, 2.6
abbrev pub index_values : ℕ
index_values = 65536

-- ---- a queue of which nothing is out

abbrev pub fresh_ring : ℕ → ℕ → DriverEnd
fresh_ring queue size = fresh_end (layout_of (ring_page size queue) size) size

abbrev pub fresh_side : ℕ → ℕ → RequestSide
fresh_side queue size =
    record { number = queue; ring = fresh_ring queue size; sent = replicate max_outstanding [] }

abbrev pub fresh_statistics : ℕ → DriverEnd
fresh_statistics size = fresh_ring STATISTICS_QUEUE size

abbrev pub fresh_report : ℕ → ReportSide
fresh_report size = record { ring = fresh_ring REPORT_QUEUE size; blocks = [] }

-- a driver as it is made
abbrev pub fresh_driver : ℕ → ℕ → ℕ → DriverState
fresh_driver pages queue_size processors =
    record {
      pages = pages;
      queue_size = queue_size;
      processors = processors;
      places = all_free (reserved_pages queue_size) pages;
      held = [];
      areas = (new_page_state pages processors (reserved_pages queue_size)).free;
      inflate = fresh_side 0 queue_size;
      deflate = fresh_side 1 queue_size;
      statistics = fresh_statistics queue_size;
      report = fresh_report queue_size;
      features = 0;
      actual = 0;
    }

-- ---- what holds of each driver

-- The ring lies in its queue's pages. Each descriptor that is in use is a request of its own, and
-- one of the first `max_outstanding`.
pub record AreRequests (side : RequestSide) : Type 0 where
  pub layout : side.ring.layout ≡ layout_of (ring_page side.ring.size side.number) side.ring.size
  pub single : (i : ℕ) → is_unused side.ring.owner i ≡ false → is_head side.ring.owner i ≡ true
  pub few : (i : ℕ) → is_head side.ring.owner i ≡ true → i < max_outstanding
  pub buffers : length side.sent ≡ max_outstanding
  -- what isn't out names nothing, and no request names too many
  pub unsent : (i : ℕ) → is_head side.ring.owner i ≡ false → sent_by side i ≡ []
  pub short : (i : ℕ) → length (sent_by side i) ≤ max_request_pages

-- The queue of this number, with n descriptors.
pub record IsQueue (side : RequestSide) (queue descriptors : ℕ) : Type 0 where
  pub requests : AreRequests side
  pub number : side.number ≡ queue
  pub size : side.ring.size ≡ descriptors

-- The one statistics buffer is at descriptor 0, and the ring in its pages.
pub record IsStatisticsQueue (ring : DriverEnd) (descriptors : ℕ) : Type 0 where
  pub single : (i : ℕ) → is_unused ring.owner i ≡ false → is_head ring.owner i ≡ true
  pub first : (i : ℕ) → is_head ring.owner i ≡ true → i ≡ 0
  pub layout : ring.layout ≡ layout_of (ring_page descriptors STATISTICS_QUEUE) descriptors
  pub size : ring.size ≡ descriptors

-- A block that can be given back to the page areas.
pub record IsAreaBlock (b : Block) : Type 0 where
  pub order : b.order ≤ max_order
  pub aligned : IsTrue (is_aligned b)

-- The one report has the first descriptors, one for each of its blocks, and head 0; the ring lies
-- in its pages.
pub record IsReportQueue (side : ReportSide) (descriptors : ℕ) : Type 0 where
  pub owned : (i : ℕ) → slice_index_or side.ring.owner i None
      ≡ (if nat_lt i (length side.blocks) then Some 0 else None)
  pub few : length side.blocks ≤ max_outstanding
  pub blocks : All IsAreaBlock side.blocks
  pub layout : side.ring.layout ≡ layout_of (ring_page descriptors REPORT_QUEUE) descriptors
  pub size : side.ring.size ≡ descriptors

-- A page that an inflate or a report names is giving or reporting, and no other names it.
pub record IsDriver (d : DriverState) : Type 0 where
  pub table : length d.places ≡ d.pages
  pub least : MIN_GUEST_PAGES ≤ d.pages
  pub most : d.pages ≤ MAX_GUEST_PAGES
  pub size : IsSize d.queue_size
  pub inflate : IsQueue d.inflate 0 d.queue_size
  pub deflate : IsQueue d.deflate 1 d.queue_size
  pub statistics : IsStatisticsQueue d.statistics d.queue_size
  pub report : IsReportQueue d.report d.queue_size
  pub giving : (page : ℕ) → naming page d.inflate.sent ≤ one_if (is_giving (place_of d.places page))
  -- where the host is told first; else pages that are requested back are free at once
  pub taking : tells_host d ≡ true → (page : ℕ) → naming page d.deflate.sent ≤ one_if
      (is_taking (place_of d.places page))
  pub reporting : (page : ℕ)
      → times page (pages_of_all d.report.blocks) ≤ one_if (is_reporting (place_of d.places page))
  -- the areas and the lists have just the free pages, for as many processors, and never have a
  -- reserved one
  pub free : flags_of d.areas ≡ map is_free d.places
  pub processors : length d.areas.lists ≡ d.processors
  pub set_aside : d.areas.reserved ≡ reserved_pages d.queue_size
  -- allocations hold used pages alone
  pub used : (page : ℕ) → is_covered page d.held ≡ true → place_of d.places page ≡ Used
  pub reserved : (page : ℕ) → page < reserved_pages d.queue_size
      → place_of d.places page ≡ Reserved
