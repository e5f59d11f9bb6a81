-- What a driver does when it posts a request or a report (VIRTIO 1.1, 5.5.6).
use Rattle.std.specs.Prelude.{◌≡◌, ◌≢◌, ℕ, ◌+◌, ◌%◌, ◌<◌, ◌≤◌, List, [], ◌∷◌, ◌++◌, length, take}
use Rattle.std.specs.Prelude.{if◌then◌else◌, Some, Result, Ok, IfOk, IfErr, OnErr, IsTrue, ◌*◌}
use Rattle.std.specs.Prelude.{slice_set}
use Rattle.std.specs.List.{list_all}
use Rattle.vb_model.specs.declared.places.Place.TheVariants.{Giving, Reporting}
use Rattle.vb_virtio.specs.declared.layout.TheConstants.{STATISTICS_PAGE, STATISTIC_SIZE}
use Rattle.vb_virtio.specs.declared.refusals.Refusal.{Refusal}
use Rattle.vb_virtio.specs.declared.refusals.Refusal.TheVariants.{Nothing}
use Rattle.vb_virtio.specs.Tests.{pages_where, AllDistinct}
use Rattle.vb_virtio.specs.Queues.{Deflating}
use Rattle.vb_virtio.specs.Limits.{max_outstanding}
use Rattle.vb_virtio.specs.Layout.{buffers_page, buffer_page, buffer_offset}
use Rattle.vb_virtio.specs.FirstRefusal.{first_refusal}
use Rattle.vb_model.specs.Pages.{Block, is_free, is_lent, is_stranded, place_of, placed}
use Rattle.vb_model.specs.Pages.{pages_of_all}
use Rattle.vb_model.specs.Requests.{place_posted}
use Rattle.vb_ram.specs.Pages.{Pages, field}
use Rattle.vb_ram.specs.Part.{Part}
use Rattle.vb_pages.specs.FreePages.{FreePages, drained}
use Rattle.vb_pages.specs.PageState.{TakesFree}
use Rattle.vb_chain.specs.Table.{descriptor_at}
use Rattle.vb_ring.specs.Ends.{DriverEnd, after_add, next_head}
use Rattle.vb_ring.specs.Entries.{avail_index, avail_place}
use Rattle.vb_ring.specs.Meaning.{UsedElem, ShowsEntries, Shows, Tracks}
use Rattle.vb_ring.specs.Calls.{table_extent, avail_entry, avail_counter}
use Rattle.vb_ring.specs.Frame.{Extent, SameOutside}
use Rattle.vb_driver.specs.declared.answers.Posted.{Posted}
use Rattle.vb_driver.specs.Coding.{IsCoded, SameButBuffer, AreReported, SameButPages}
use Rattle.vb_driver.specs.State.{RequestSide, ReportSide, DriverState, AreRequests, IsDriver}
use Rattle.vb_driver.specs.State.{page_state, tells_host, index_values}
use Rattle.vb_driver.specs.Areas.{all_given, areas_without}
use Rattle.vb_driver.specs.Answers.{refusal_in, inflate_count, deflate_count, oom_count}
use Rattle.vb_driver.specs.Answers.{inflate_causes, deflate_causes, oom_causes, report_causes}
use Rattle.vb_driver.specs.Answers.{blocks_to_report}
use Rattle.vb_driver.specs.Unchanged.{Unchanged}

-- One more head is published: whatever bytes were there, it is the available entry of the driver's
-- own count, and the available index is one more than that count. On a ring that shows lists, it is
-- last in what the ring shows.
pub record Announces (m1 m2 : Pages) (r1 r2 : DriverEnd) (head : ℕ) : Type 0 where
  pub entry : field 2 m2 r1.layout.avail.page (avail_place r1.layout r1.size r1.published) ≡ head
  pub index : field 2 m2 r1.layout.avail.page (avail_index r1.layout)
      ≡ (r1.published + 1) % index_values
  pub entries : (heads : List ℕ) (elems : List UsedElem)
      → length heads % index_values ≡ r1.published
      → ShowsEntries m1 r1.layout r1.size heads elems
      → ShowsEntries m2 r1.layout r1.size (heads ++ head ∷ []) elems
  pub shown : (heads : List ℕ) (elems : List UsedElem) (s : ℕ) → Tracks m1 r1 heads elems s
      → Shows m1 r1.layout r1.size heads elems
      → Shows m2 r1.layout r1.size (heads ++ head ∷ []) elems
      × Tracks m2 r2 (heads ++ head ∷ []) elems s

-- What an add writes to its ring: the descriptors, the available entry and the available index.
-- Both flags, both event words, the used ring and what lies between are not among them.
abbrev pub written_of : DriverEnd → List Extent
written_of ring =
    table_extent ring.layout ring.size ∷ avail_entry ring.layout ring.size ring.published
    ∷ avail_counter ring.layout ∷ []

-- The page numbers of a request in its buffer.
abbrev pub numbers_extent : ℕ → ℕ → ℕ → Extent
numbers_extent base head count =
    record {
      page = buffer_page base head;
      from = buffer_offset head;
      to = buffer_offset head + 4 * count;
    }

-- The figures in the statistics buffer.
abbrev pub figures_extent : Extent
figures_extent = record { page = STATISTICS_PAGE; from = 0; to = 2 * STATISTIC_SIZE }

-- A request for these pages goes out on a queue whose buffers begin at page `base`: it has the
-- lowest head that none of the queue's requests has, is coded in its buffer, and is published last.
-- Nothing else of memory has changed.
pub record Posts (m1 m2 : Pages) (s1 s2 : RequestSide) (base : ℕ) (pages : List ℕ)
    (head : ℕ) : Type 0 where
  pub lowest : next_head s1.ring ≡ Some head
  pub small : head < max_outstanding
  pub state : s2
      ≡ record s1 { ring = after_add s1.ring 1 (Ok head); sent = slice_set s1.sent head pages }
  pub coded : IsCoded m2 s1.ring.layout.table base head pages
  pub descriptors : (i : ℕ) → i < s1.ring.size → i ≢ head
      → descriptor_at m2 s1.ring.layout.table i ≡ descriptor_at m1 s1.ring.layout.table i
  pub announces : Announces m1 m2 s1.ring s2.ring head
  pub rest : SameButBuffer m1 m2 s1.ring.layout base head
  pub outside : SameOutside m1 m2 (numbers_extent base head (length pages) ∷ written_of s1.ring)
  pub requests : AreRequests s2

-- The stranded pages that an inflate request offers first.
abbrev pub stranded_first : DriverState → ℕ → List ℕ
stranded_first d count = take count (pages_where is_stranded d.places)

-- Stranded pages, lowest first, then any free ones are offered to the host.
pub record Offers (m1 m2 : Pages) (p1 p2 : Part) (d1 d2 : DriverState) (count : ℕ)
    (posted : Posted) : Type 0 where
  pub others : List ℕ
  pub free : IsTrue (list_all (λ page. is_free (place_of d1.places page)) others)
  pub distinct : AllDistinct others
  pub enough : length (stranded_first d1 count) + length others ≡ count
  pub posts : Posts m1 m2 d1.inflate d2.inflate (buffers_page 0)
      (stranded_first d1 count ++ others) posted.head
  pub pages : posted.pages ≡ count
  pub part : p2 ≡ p1
  pub state : d2 ≡ record d1 {
    places = placed (stranded_first d1 count ++ others) Giving d1.places;
    areas = d2.areas;
    inflate = d2.inflate;
  }
  pub areas : TakesFree (page_state d1) others (page_state d2)

pub record InflatesBy (m1 m2 : Pages) (p1 p2 : Part) (d1 d2 : DriverState) (n : ℕ)
    (result : Result Posted Refusal) : Type 0 where
  pub driver : IsDriver d1
  pub refusal : refusal_in result ≡ first_refusal (inflate_causes d1 p1 n)
  pub refused : OnErr result (Unchanged m1 m2 p1 p2 d1 d2)
  pub offers : IfOk result (Offers m1 m2 p1 p2 d1 d2 (inflate_count d1 p1.target n))

-- The lowest lent pages.
abbrev pub lowest_lent : DriverState → ℕ → List ℕ
lowest_lent d count = take count (pages_where is_lent d.places)

-- The page areas, once these pages are requested back: where the host isn't told first they have
-- them at once, one by one.
abbrev pub areas_asked : List ℕ → DriverState → FreePages
areas_asked pages d = if tells_host d then d.areas else (all_given pages (page_state d)).free

-- The lowest lent pages are requested back from the host.
pub record AsksBack (m1 m2 : Pages) (p1 p2 : Part) (d1 d2 : DriverState) (count : ℕ)
    (posted : Posted) : Type 0 where
  pub posts : Posts m1 m2 d1.deflate d2.deflate (buffers_page 1) (lowest_lent d1 count) posted.head
  pub pages : posted.pages ≡ count
  pub part : p2 ≡ p1
  pub state : d2 ≡ record d1 {
    places = placed (lowest_lent d1 count) (place_posted (tells_host d1) Deflating) d1.places;
    areas = areas_asked (lowest_lent d1 count) d1;
    deflate = d2.deflate;
  }

pub record DeflatesBy (m1 m2 : Pages) (p1 p2 : Part) (d1 d2 : DriverState) (n : ℕ)
    (result : Result Posted Refusal) : Type 0 where
  pub driver : IsDriver d1
  pub refusal : refusal_in result ≡ first_refusal (deflate_causes d1 p1 n)
  pub refused : OnErr result (Unchanged m1 m2 p1 p2 d1 d2)
  pub asks : IfOk result (AsksBack m1 m2 p1 p2 d1 d2 (deflate_count d1 p1.target n))

pub record DeflatesOnOomBy (m1 m2 : Pages) (p1 p2 : Part) (d1 d2 : DriverState) (n : ℕ)
    (result : Result Posted Refusal) : Type 0 where
  pub driver : IsDriver d1
  pub refusal : refusal_in result ≡ first_refusal (oom_causes d1 p1 n)
  pub refused : OnErr result (Unchanged m1 m2 p1 p2 d1 d2)
  pub asks : IfOk result (AsksBack m1 m2 p1 p2 d1 d2 (oom_count d1 n))

-- A report of these blocks goes out: its chain has the first descriptors, one a block, and its
-- head, 0, is published. Nothing else of memory has changed.
pub record PostsReport (m1 m2 : Pages) (s1 s2 : ReportSide) (blocks : List Block) : Type 0 where
  pub state : s2 ≡ record { ring = after_add s1.ring (length blocks) (Ok 0); blocks = blocks }
  pub coded : AreReported m2 s1.ring.layout.table blocks
  pub descriptors : (i : ℕ) → i < s1.ring.size → length blocks ≤ i
      → descriptor_at m2 s1.ring.layout.table i ≡ descriptor_at m1 s1.ring.layout.table i
  pub announces : Announces m1 m2 s1.ring s2.ring 0
  pub rest : SameButPages m1 m2 s1.ring.layout s1.ring.layout.table
  pub outside : SameOutside m1 m2 (written_of s1.ring)

-- Free blocks are reported to the host; all processors' lists are drained before.
pub record Reports (m1 m2 : Pages) (p1 p2 : Part) (d1 d2 : DriverState) (blocks : List Block)
    (posted : Posted) : Type 0 where
  pub posts : PostsReport m1 m2 d1.report d2.report blocks
  pub head : posted.head ≡ 0
  pub pages : posted.pages ≡ length (pages_of_all blocks)
  pub part : p2 ≡ p1
  pub state : d2 ≡ record d1 {
    places = placed (pages_of_all blocks) Reporting d1.places;
    areas = areas_without (pages_of_all blocks) d1.areas;
    report = d2.report;
  }

-- Where there is nothing to report, all lists are drained all the same.
abbrev pub unreported : Refusal → DriverState → DriverState
unreported Nothing d = record d { areas = drained d.areas }
unreported _ d = d

pub record ReportsBy (m1 m2 : Pages) (p1 p2 : Part) (d1 d2 : DriverState) (from : ℕ)
    (result : Result Posted Refusal) : Type 0 where
  pub driver : IsDriver d1
  pub refusal : refusal_in result ≡ first_refusal (report_causes d1 p1 from)
  pub refused : IfErr result (λ refusal. Unchanged m1 m2 p1 p2 (unreported refusal d1) d2)
  pub reports : IfOk result (Reports m1 m2 p1 p2 d1 d2 (blocks_to_report d1 from))
