-- What ties a driver, a device's part and guest memory to a guest of the model.
use Rattle.std.specs.Prelude.{◌≡◌, ℕ, ◌<◌, ◌≤◌, Bool, false, true, List, Option, [], length}
use Rattle.std.specs.Prelude.{replicate, slice_index_or, IsSome, ◌⊎◌, All}
use Rattle.vb_virtio.specs.declared.negotiation.TheConstants.{FAILED_STATUS, READY_STATUS}
use Rattle.vb_virtio.specs.Limits.{is_config, page_size}
use Rattle.vb_virtio.specs.Layout.{reserved_pages, is_start_page}
use Rattle.vb_virtio.specs.Tests.{one_if}
use Rattle.vb_virtio.specs.Status.{contains, driver_ok}
use Rattle.vb_virtio.specs.Queues.{Request}
use Rattle.vb_virtio.specs.declared.statistics.LastStatistics.{LastStatistics}
use Rattle.vb_virtio.specs.Statistics.{no_statistics}
use Rattle.vb_model.specs.declared.places.Place.{Place}
use Rattle.vb_model.specs.Pages.{Block}
use Rattle.vb_model.specs.Requests.{no_requests, NoBuffer}
use Rattle.vb_model.specs.Guest.{Guest, Config, frame_of}
use Rattle.vb_model.specs.Guest.{is_ballooned}
use Rattle.vb_model.specs.Consistent.{IsConsistent}
use Rattle.vb_model.specs.Orderly.{IsOrderly}
use Rattle.vb_ram.specs.Pages.{Pages, frame_at, contents_at}
use Rattle.vb_ram.specs.Part.{Part, no_queue}
use Rattle.vb_driver.specs.State.{DriverState, fresh_side, fresh_statistics, fresh_report}
use Rattle.vb_device.specs.Own.{has}
use Rattle.vb_guest.specs.Line.{Line}
use Rattle.vb_guest.specs.Reported.{ReportLine}
use Rattle.vb_guest.specs.Buffer.{BufferLine}
use Rattle.vb_guest.specs.Steps.{backing_count}

-- ---- beside the queues: each record takes the guest's values one by one, so that it stays as it
-- is where none of these is changed

-- The guest never scribbled, and is as large as a guest may be.
pub record IsPlainGuest (rogue : Bool) (c : Config) : Type 0 where
  pub honest : rogue ≡ false
  pub config : is_config c.pages c.queue_size c.processors ≡ true

-- What the driver keeps is the guest's.
pub record DriverKeeps (d : DriverState) (c : Config) (at : List Place) (blocks : List Block)
    (bits given : ℕ) : Type 0 where
  pub pages : d.pages ≡ c.pages
  pub queue_size : d.queue_size ≡ c.queue_size
  pub processors : d.processors ≡ c.processors
  pub places : d.places ≡ at
  pub held : d.held ≡ blocks
  pub accepted : d.features ≡ bits
  pub told : d.actual ≡ given

-- What the device keeps is the guest's, and no frame is loose.
pub record DeviceKeeps (part : Part) (c : Config) (state bits wanted given : ℕ) (flags : List Bool)
    (figures : LastStatistics) : Type 0 where
  pub size : part.queue_size ≡ c.queue_size
  pub paced : part.paced ≡ c.paced
  pub status : part.status ≡ state
  pub features : part.features ≡ bits
  pub target : part.target ≡ wanted
  pub actual : part.actual ≡ given
  pub ballooned : part.ballooned ≡ flags
  pub last : part.last ≡ figures
  pub loose : part.loose ≡ []

pub record HasParts (part : Part) (d : DriverState) (g : Guest) : Type 0 where
  pub guest : IsPlainGuest g.rogue g.config
  pub driver : DriverKeeps d g.config g.places g.held g.features g.actual
  pub device : DeviceKeeps part g.config g.status g.features g.target g.actual g.ballooned g.last

-- Of a device, what isn't in its queues and not among its own frames.
abbrev pub beside_queues : Part → Part
beside_queues part =
    record part {
      inflate = no_queue;
      deflate = no_queue;
      statistics = no_queue;
      report = no_queue;
      keeps = false;
      own = [];
    }

-- Of a driver, what isn't in its page areas and in its queues.
abbrev pub beside_sides : DriverState → DriverState
beside_sides d = record d {
  areas = record { areas = []; lists = []; reserved = 0 };
  inflate = fresh_side 0 2;
  deflate = fresh_side 0 2;
  statistics = fresh_statistics 2;
  report = fresh_report 2;
}

-- Of a guest, what isn't in its requests and in its memory.
abbrev pub beside_requests : Guest → Guest
beside_requests g =
    record g {
      inflate = no_requests;
      deflate = no_requests;
      report = no_requests;
      buffer = NoBuffer;
      frames = [];
      contents = [];
    }

-- The pages of memory have these frames, and the unreserved ones these contents.
pub record HasPages (mem : Pages) (size count : ℕ) (frames : List (Option ℕ))
    (contents : List (List ℕ)) : Type 0 where
  pub length_is : length mem ≡ count
  pub framed : length frames ≡ count
  pub filled : length contents ≡ count
  pub behind : (page : ℕ) → frame_at mem page ≡ frame_of frames page
  pub holds : (page : ℕ) → reserved_pages size ≤ page → page < count
      → contents_at mem page ≡ slice_index_or contents page []
  pub sizes : (page : ℕ) → reserved_pages size ≤ page → page < count
      → length (slice_index_or contents page []) ≡ page_size

-- Before an initialisation, or after one whose features were refused: nothing was asked of the
-- device.
pub record IsIdle (g : Guest) : Type 0 where
  pub state : (g.status ≡ 0) ⊎ (g.status ≡ FAILED_STATUS)
  pub inflate : g.inflate ≡ no_requests
  pub deflate : g.deflate ≡ no_requests
  pub report : g.report ≡ no_requests
  pub buffer : g.buffer ≡ NoBuffer
  pub ballooned : g.ballooned ≡ replicate g.config.pages false
  pub actual : g.actual ≡ 0
  pub last : g.last ≡ no_statistics

-- The device is initialised: the pages of rings and buffers have frames, and the four queues are
-- there.
pub record IsRunning (mem : Pages) (part : Part) (d : DriverState) (g : Guest) : Type 0 where
  pub state : g.status ≡ READY_STATUS
  pub backed : (page : ℕ) → is_start_page g.config.queue_size page ≡ true
      → IsSome (frame_at mem page)
  pub inflate_size : d.inflate.ring.size ≡ g.config.queue_size
  pub deflate_size : d.deflate.ring.size ≡ g.config.queue_size
  pub statistics_size : d.statistics.size ≡ g.config.queue_size
  pub report_size : d.report.ring.size ≡ g.config.queue_size
  pub inflate : Line mem 0 g.config.pages d.inflate part.inflate g.inflate
  pub deflate : Line mem 1 g.config.pages d.deflate part.deflate g.deflate
  pub statistics : BufferLine mem d.statistics part.statistics g.buffer
  pub report : ReportLine mem g.config.pages d.report part.report g.report

-- What the calls keep, the model's own laws aside.
pub record Ties (mem : Pages) (part : Part) (d : DriverState) (g : Guest) : Type 0 where
  pub parts : HasParts (beside_queues part) (beside_sides d) (beside_requests g)
  pub pages : HasPages mem g.config.queue_size g.config.pages g.frames g.contents
  pub queues : IsIdle g ⊎ IsRunning mem part d g

-- The driver, the device and its memory are those of this honest guest.
pub record Honest (mem : Pages) (part : Part) (d : DriverState) (g : Guest) : Type 0 where
  pub ties : Ties mem part d g
  pub consistent : IsConsistent g
  pub orderly : IsOrderly g

-- The device says whether it keeps frames of its own. Where it does, those of them that are out are
-- just those that back the guest's pages, each one page; else it has none.
pub record OwnFrames (keeps : Bool) (part : Part) (g : Guest) : Type 0 where
  pub flag : part.keeps ≡ keeps
  pub none : keeps ≡ false → part.own ≡ []
  pub each : keeps ≡ true → (n : ℕ) → backing_count n g ≡ one_if (has part.own n)

-- ---- a guest that wrote past its driver

-- The request names pages of a guest of n pages, whose queues have this size: none of them is
-- reserved.
pub record IsOwnRequest (size count : ℕ) (r : Request) : Type 0 where
  pub above : All (λ page. reserved_pages size ≤ page) r.pages
  pub below : All (λ page. page < count) r.pages

-- Whatever its rings say, the pages of rings and buffers have frames, by the size of its queues,
-- and what the device took names pages that it may take frames from.
pub record IsRogueUp (size : ℕ) (mem : Pages) (part : Part) : Type 0 where
  pub backed : (page : ℕ) → is_start_page size page ≡ true → IsSome (frame_at mem page)
  pub inflates : All (IsOwnRequest size (length mem)) part.inflate.taken
  pub reports : All (IsOwnRequest size (length mem)) part.report.taken

-- How large the guest is, what its driver and its device keep and are asked for, and the frames
-- that back its pages: nothing of its rings, of its requests, and of what its pages hold.
pub record Rogue (mem : Pages) (part : Part) (d : DriverState) (g : Guest) : Type 0 where
  pub rogue : g.rogue ≡ true
  pub config : is_config g.config.pages g.config.queue_size g.config.processors ≡ true
  -- the driver
  pub pages : d.pages ≡ g.config.pages
  pub queue_size : d.queue_size ≡ g.config.queue_size
  pub processors : d.processors ≡ g.config.processors
  pub places : d.places ≡ g.places
  pub placed : length g.places ≡ g.config.pages
  pub actual : d.actual ≡ g.actual
  -- the device
  pub size : part.queue_size ≡ g.config.queue_size
  pub paced : part.paced ≡ g.config.paced
  pub status : part.status ≡ g.status
  pub features : part.features ≡ g.features
  pub target : part.target ≡ g.target
  pub last : part.last ≡ g.last
  pub ballooned : part.ballooned ≡ g.ballooned
  pub flagged : length g.ballooned ≡ g.config.pages
  pub unreserved : (page : ℕ) → page < reserved_pages g.config.queue_size
      → is_ballooned g.ballooned page ≡ false
  pub loose : part.loose ≡ []
  -- memory
  pub length_is : length mem ≡ g.config.pages
  pub framed : length g.frames ≡ g.config.pages
  pub filled : length g.contents ≡ g.config.pages
  pub behind : (page : ℕ) → frame_at mem page ≡ frame_of g.frames page
  pub up : contains part.status driver_ok ≡ true → IsRogueUp g.config.queue_size mem part

-- By whether the guest wrote past its driver.
abbrev pub StandsBy : Bool → Pages → Part → DriverState → Guest → Type 0
StandsBy false mem part d g = Honest mem part d g
StandsBy true mem part d g = Rogue mem part d g

-- The driver, the device and its memory are those of this guest, and the device does, or doesn't,
-- keep frames of its own.
pub record Stands (keeps : Bool) (mem : Pages) (part : Part) (d : DriverState) (g : Guest) :
    Type 0 where
  pub guest : StandsBy g.rogue mem part d g
  pub own : OwnFrames keeps part g
