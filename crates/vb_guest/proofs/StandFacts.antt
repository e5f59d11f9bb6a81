-- What ties a driver, a device's part and memory to a guest, field by field: what follows from each
-- record at one guest, and that no more is asked.
use Rattle.std.proofs.Common.{◌≡◌, ◌↔◌, ◌⊎◌, ℕ, ◌<◌, ◌≤◌, true, false, List, [], ◌∷◌, refl}
use Rattle.std.specs.Prelude.{Option, Some, None, Bool, IsSome, length, replicate}
use Rattle.std.specs.Prelude.{slice_index_or}
use Rattle.vb_virtio.specs.declared.statistics.LastStatistics.{LastStatistics}
use Rattle.vb_virtio.specs.Queues.{Request}
use Rattle.vb_virtio.specs.Layout.{is_start_page}
use Rattle.vb_model.specs.declared.places.Place.{Place}
use Rattle.vb_model.specs.declared.places.Place.TheVariants.{Free, Lent}
use Rattle.vb_model.specs.Guest.{Guest, Config, fresh}
use Rattle.vb_model.specs.Requests.{Requests, no_requests, NoBuffer, BufferTaken}
use Rattle.vb_model.specs.Pages.{block_at}
use Rattle.vb_model.specs.{Consistent.IsConsistent, Orderly.IsOrderly}
use Rattle.vb_ram.specs.{Pages.{Pages, frame_at, contents_at}, Part.{Part, QueuePart, no_part}}
use Rattle.vb_driver.specs.State.{DriverState, fresh_driver}
use Rattle.vb_driver.specs.State.{RequestSide, ReportSide, FreePages}
use Rattle.vb_ring.specs.Ends.{DriverEnd}
use Rattle.vb_guest.specs.{Line.Line, Reported.ReportLine, Buffer.BufferLine}
use Rattle.vb_guest.specs.Stands.{IsPlainGuest, DriverKeeps, DeviceKeeps, HasParts, beside_queues}
use Rattle.vb_guest.specs.Stands.{beside_sides, beside_requests, HasPages, IsIdle, IsRunning, Ties}
use Rattle.vb_guest.specs.Stands.{Honest}

-- ---- a guest with another value in each field

abbrev pub small : Config
small = record { pages = 64; queue_size = 8; processors = 2; paced = true }

abbrev pub request : ℕ → List ℕ → Request
request head pages = record { head = head; pages = pages; visited = 0 }

abbrev requests : ℕ → Requests
requests head = record { posted = request head (20 ∷ []) ∷ []; taken = []; done = [] }

abbrev pub places : List Place
places = Free ∷ Lent ∷ []

abbrev pub figures : LastStatistics
figures = record { free = Some 8; total = None }

abbrev pub frames : List (Option ℕ)
frames = Some 7 ∷ None ∷ []

abbrev pub guest : Guest
guest = record (fresh small 4) {
  places = places;
  held = block_at 17 0 ∷ [];
  inflate = requests 1;
  deflate = requests 2;
  report = requests 3;
  buffer = BufferTaken (record { free = 1; total = 2 });
  ballooned = true ∷ [];
  status = 15;
  features = 3;
  actual = 5;
  last = figures;
  frames = frames;
}

-- ---- beside the queues

plain : IsPlainGuest false small × (IsPlainGuest true small → true ≡ false)
    × (IsPlainGuest false (record small { pages = 63 }) → false ≡ true)
    × (IsPlainGuest false (record small { queue_size = 12 }) → false ≡ true)
    × (IsPlainGuest false (record small { processors = 0 }) → false ≡ true)
plain = (
  record { honest = refl; config = refl },
  λ is. is.honest,
  λ is. is.config,
  λ is. is.config,
  λ is. is.config,
)

driver_keeps : (d : DriverState) → DriverKeeps d small places (block_at 17 0 ∷ []) 3 5
    ↔ ((d.pages ≡ 64) × (d.queue_size ≡ 8) × (d.processors ≡ 2) × (d.places ≡ places)
    × (d.held ≡ block_at 17 0 ∷ []) × (d.features ≡ 3) × (d.actual ≡ 5))
driver_keeps d = (
  λ is. (is.pages, is.queue_size, is.processors, is.places, is.held, is.accepted, is.told),
  λ all. record {
    pages = all.0;
    queue_size = all.1;
    processors = all.2;
    places = all.3;
    held = all.4;
    accepted = all.5;
    told = all.6;
  },
)

device_keeps : (part : Part) → DeviceKeeps part small 15 3 4 5 (true ∷ []) figures
    ↔ ((part.queue_size ≡ 8) × (part.paced ≡ true) × (part.status ≡ 15) × (part.features ≡ 3)
    × (part.target ≡ 4) × (part.actual ≡ 5) × (part.ballooned ≡ true ∷ [])
    × (part.last ≡ figures) × (part.loose ≡ []))
device_keeps part = (
  λ is. (
    is.size,
    is.paced,
    is.status,
    is.features,
    is.target,
    is.actual,
    is.ballooned,
    is.last,
    is.loose,
  ),
  λ all. record {
    size = all.0;
    paced = all.1;
    status = all.2;
    features = all.3;
    target = all.4;
    actual = all.5;
    ballooned = all.6;
    last = all.7;
    loose = all.8;
  },
)

has_parts : (part : Part) (d : DriverState) → HasParts part d guest
    ↔ (IsPlainGuest false small × DriverKeeps d small places (block_at 17 0 ∷ []) 3 5
    × DeviceKeeps part small 15 3 4 5 (true ∷ []) figures)
has_parts part d = (
  λ has. (has.guest, has.driver, has.device),
  λ all. record { guest = all.0; driver = all.1; device = all.2 },
)

-- what isn't beside them is made alike, and all the rest is left
beside : (p : Part) (a b c e : QueuePart) (keeps : Bool) (own : List ℕ)
    → beside_queues (record p {
      inflate = a;
      deflate = b;
      statistics = c;
      report = e;
      keeps = keeps;
      own = own;
    }) ≡ record no_part {
      status = p.status;
      features = p.features;
      target = p.target;
      actual = p.actual;
      ballooned = p.ballooned;
      queue_size = p.queue_size;
      last = p.last;
      paced = p.paced;
      loose = p.loose;
    }
beside p a b c e keeps own = refl

beside_a_driver : (d : DriverState) (a b : RequestSide) (c : DriverEnd) (e : ReportSide)
    (areas : FreePages)
    → beside_sides (record d { inflate = a; deflate = b; statistics = c; report = e; areas = areas })
    ≡ record (beside_sides (fresh_driver 64 8 1)) {
      pages = d.pages;
      queue_size = d.queue_size;
      processors = d.processors;
      places = d.places;
      held = d.held;
      features = d.features;
      actual = d.actual;
    }
beside_a_driver d a b c e areas = refl

beside_memory : beside_requests guest ≡ record guest {
  inflate = no_requests;
  deflate = no_requests;
  report = no_requests;
  buffer = NoBuffer;
  frames = [];
  contents = [];
}
beside_memory = refl

-- ---- memory: the frames of all pages, and whole contents from page 16 on

has_pages : (m : Pages) (frames : List (Option ℕ)) (contents : List (List ℕ))
    → HasPages m 8 64 frames contents
    ↔ ((length m ≡ 64) × (length frames ≡ 64) × (length contents ≡ 64)
    × ((page : ℕ) → frame_at m page ≡ slice_index_or frames page None)
    × ((page : ℕ) → 16 ≤ page → page < 64 → contents_at m page ≡ slice_index_or contents page [])
    × ((page : ℕ) → 16 ≤ page → page < 64 → length (slice_index_or contents page []) ≡ 4096))
has_pages m frames contents = (
  λ has. (has.length_is, has.framed, has.filled, has.behind, has.holds, has.sizes),
  λ all. record {
    length_is = all.0;
    framed = all.1;
    filled = all.2;
    behind = all.3;
    holds = all.4;
    sizes = all.5;
  },
)

-- with two pages a ring the first 32 are left out
has_larger_pages : (m : Pages) (frames : List (Option ℕ)) (contents : List (List ℕ))
    → HasPages m 256 64 frames contents
    → (page : ℕ) → 32 ≤ page → page < 64 → contents_at m page ≡ slice_index_or contents page []
has_larger_pages m frames contents has = has.holds

-- ---- a guest that isn't initialised, and one that is

idle : (g : Guest) → IsIdle g
    ↔ (((g.status ≡ 0) ⊎ (g.status ≡ 131)) × (g.inflate ≡ no_requests)
    × (g.deflate ≡ no_requests) × (g.report ≡ no_requests) × (g.buffer ≡ NoBuffer)
    × (g.ballooned ≡ replicate g.config.pages false) × (g.actual ≡ 0)
    × (g.last ≡ record { free = None; total = None }))
idle g = (
  λ is. (
    is.state,
    is.inflate,
    is.deflate,
    is.report,
    is.buffer,
    is.ballooned,
    is.actual,
    is.last,
  ),
  λ all. record {
    state = all.0;
    inflate = all.1;
    deflate = all.2;
    report = all.3;
    buffer = all.4;
    ballooned = all.5;
    actual = all.6;
    last = all.7;
  },
)

running : (m : Pages) (part : Part) (d : DriverState) → IsRunning m part d guest
    ↔ ((guest.status ≡ 15) × ((page : ℕ) → is_start_page 8 page ≡ true → IsSome (frame_at m page))
    × (d.inflate.ring.size ≡ 8) × (d.deflate.ring.size ≡ 8) × (d.statistics.size ≡ 8)
    × (d.report.ring.size ≡ 8) × Line m 0 64 d.inflate part.inflate (requests 1)
    × Line m 1 64 d.deflate part.deflate (requests 2)
    × BufferLine m d.statistics part.statistics (BufferTaken (record { free = 1; total = 2 }))
    × ReportLine m 64 d.report part.report (requests 3))
running m part d = (
  λ is. (
    is.state,
    is.backed,
    is.inflate_size,
    is.deflate_size,
    is.statistics_size,
    is.report_size,
    is.inflate,
    is.deflate,
    is.statistics,
    is.report,
  ),
  λ all. record {
    state = all.0;
    backed = all.1;
    inflate_size = all.2;
    deflate_size = all.3;
    statistics_size = all.4;
    report_size = all.5;
    inflate = all.6;
    deflate = all.7;
    statistics = all.8;
    report = all.9;
  },
)

running_at : (m : Pages) (part : Part) (d : DriverState) (status : ℕ)
    → IsRunning m part d (record guest { status = status }) → status ≡ 15
running_at m part d status is = is.state

-- with two pages a ring other pages need frames
running_larger : (m : Pages) (part : Part) (d : DriverState)
    → IsRunning m part d (record guest { config = record small { queue_size = 256 } })
    → (page : ℕ) → is_start_page 256 page ≡ true → IsSome (frame_at m page)
running_larger m part d is = is.backed

ties : (m : Pages) (part : Part) (d : DriverState) (g : Guest) → Ties m part d g
    ↔ (HasParts (beside_queues part) (beside_sides d) (beside_requests g)
    × HasPages m g.config.queue_size g.config.pages g.frames g.contents
    × (IsIdle g ⊎ IsRunning m part d g))
ties m part d g = (
  λ are. (are.parts, are.pages, are.queues),
  λ all. record { parts = all.0; pages = all.1; queues = all.2 },
)

honest : (m : Pages) (part : Part) (d : DriverState) (g : Guest)
    → Honest m part d g ↔ (Ties m part d g × IsConsistent g × IsOrderly g)
honest m part d g = (
  λ is. (is.ties, is.consistent, is.orderly),
  λ all. record { ties = all.0; consistent = all.1; orderly = all.2 },
)
