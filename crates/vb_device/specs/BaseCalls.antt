-- What the parts of a device's calls do.
use Rattle.std.specs.Prelude.{◌≡◌, ℕ, ◌+◌, ◌%◌, ◌<◌, ◌==◌, true, not, List, [], ◌∷◌, ◌++◌}
use Rattle.std.specs.Prelude.{remove, if◌then◌else◌, Option, Some, None, IsSome, is_some, Bool}
use Rattle.std.specs.Prelude.{Result, Ok, Err}
use Rattle.vb_virtio.specs.declared.layout.TheConstants.{INFLATE_QUEUE, STATISTICS_QUEUE}
use Rattle.vb_virtio.specs.declared.layout.TheConstants.{REPORT_QUEUE}
use Rattle.vb_virtio.specs.declared.refusals.Refusal.{Refusal}
use Rattle.vb_virtio.specs.declared.refusals.Refusal.TheVariants.{NoQueue}
use Rattle.vb_virtio.specs.Status.{contains, driver_ok, work_causes}
use Rattle.vb_virtio.specs.Queues.{Request, has_chains, is_queue_of_requests}
use Rattle.vb_virtio.specs.FirstRefusal.{◌⇒◌, first_refusal}
use Rattle.vb_model.specs.Device.{visiting, next_page}
use Rattle.vb_device.specs.declared.worked.Worked.{Worked}
pub use Rattle.vb_virtio.specs.FirstRefusal.{refusal_in}
use Rattle.vb_ram.specs.Pages.{Pages, frame_at}
use Rattle.vb_ram.specs.Part.{Part}
use Rattle.vb_ring.specs.Layout.{IsBacked}
use Rattle.vb_ring.specs.Calls.{AddsUsedBy}
use Rattle.vb_device.specs.Queues.{queue_part, with_queue, queue_layout, queue_end}
use Rattle.vb_device.specs.Conditions.{use_refusal, ask_refusal, taken_at}
use Rattle.vb_device.specs.Discards.{discarded, frames_behind, flagged}
use Rattle.vb_device.specs.Calls.{without_frames, lost_frames, settled}

-- Why a queue's number and the status refuse a finish, where they do.
abbrev pub queue_refusal : ℕ → ℕ → Option Refusal
queue_refusal q status =
    first_refusal ((not (is_queue_of_requests q) ⇒ NoQueue) ∷ work_causes status)

-- ---- work

-- The queue that the next page to be visited is in: that of reports where each page of the taken
-- inflates is visited.
abbrev pub visited_queue : Part → ℕ
visited_queue part = if is_some (next_page part.inflate.taken) then INFLATE_QUEUE else REPORT_QUEUE

-- The next page of the taken inflates and reports, if there is one.
abbrev pub page_to_visit : Part → Option ℕ
page_to_visit part = next_page (queue_part (visited_queue part) part).taken

-- One more page of a queue's taken requests is counted as visited.
abbrev pub with_visit : ℕ → Part → Part
with_visit q part =
    with_queue q
    (record (queue_part q part) { taken = visiting (queue_part q part).taken }) part

-- The oldest page that isn't visited yet, if there is one, is visited: it loses its frame, if it
-- has one, which is the last loose one.
abbrev pub VisitsNext : Pages → Pages → Part → Part → Option Worked → Type 0
VisitsNext m1 m2 p1 p2 None = (page_to_visit p1 ≡ None) × (p2 ≡ p1) × (m2 ≡ m1)
VisitsNext m1 m2 p1 p2 (Some worked) =
    (page_to_visit p1 ≡ Some worked.page)
    × (worked.freed ≡ is_some (frame_at m1 worked.page))
    × (m2 ≡ discarded (worked.page ∷ []) m1)
    × (p2 ≡ record (with_visit (visited_queue p1) p1) {
      loose = p1.loose ++ frames_behind m1 (worked.page ∷ []);
    })

-- ---- finish, in its two parts

-- The loose frames, with those that a request's pages lose.
abbrev pub with_lost : ℕ → Pages → List ℕ → List ℕ → List ℕ
with_lost q mem pages loose = loose ++ lost_frames q pages mem

-- The ballooned pages after a finish: an inflate's are ballooned, a deflate's are ballooned no
-- more, and a report changes none.
abbrev pub flags_after : ℕ → List ℕ → List Bool → List Bool
flags_after q pages flags =
    if q == REPORT_QUEUE then flags else flagged pages (q == INFLATE_QUEUE) flags

-- The taken request of this number, for these pages, is taken out: those after it close up, and
-- what its pages lose is loose.
abbrev pub taken_out : ℕ → ℕ → List ℕ → Pages → Part → Part
taken_out q index pages mem part =
    with_queue q
    (record (queue_part q part) { taken = remove (queue_part q part).taken index })
    (record part { loose = with_lost q mem pages part.loose })

-- All of a finish but for the used element: the request is taken out, its pages are flagged, and
-- nothing is written. Its pages are to be visited first, or aren't.
pub record SettlesBy (visits : Bool) (q index : ℕ) (m1 m2 : Pages) (p1 p2 : Part)
    (result : Result ℕ Refusal) : Type 0 where
  pub refused : (why : Refusal) → use_refusal visits q index p1 ≡ Some why →
      (result ≡ Err why) × (p2 ≡ p1) × (m2 ≡ m1)
  pub settled : (r : Request) → use_refusal visits q index p1 ≡ None →
      taken_at q index p1 ≡ Some r →
      (result ≡ Ok r.head) × (m2 ≡ without_frames q r.pages m1) ×
      (p2 ≡ settled q r.pages (taken_out q index r.pages m1 p1))

-- A chain from this head of the queue can be told as used: the driver is ready, and the ring's
-- pages have frames.
pub record CanUse (q h : ℕ) (mem : Pages) (part : Part) : Type 0 where
  pub known : has_chains q ≡ true
  pub ready : contains part.status driver_ok ≡ true
  pub head : h < part.queue_size
  pub backed : IsBacked mem (queue_layout q part)

-- One more used element of the queue is written: this head, with length 0.
pub record UsesChain (q h : ℕ) (m1 m2 : Pages) (p1 p2 : Part) : Type 0 where
  pub part : p2 ≡
      with_queue q
      (record (queue_part q p1) { next_used = ((queue_part q p1).next_used + 1) % 65536 }) p1
  pub memory : AddsUsedBy m1 m2 (queue_end q p1) (queue_end q p2) h 0

-- ---- statistics

-- The statistics buffer is taken out, and nothing is written.
pub record TakesBuffer (m1 m2 : Pages) (p1 p2 : Part) (result : Result ℕ Refusal) : Type 0 where
  pub refused : (why : Refusal) → ask_refusal p1 ≡ Some why →
      (result ≡ Err why) × (p2 ≡ p1) × (m2 ≡ m1)
  pub out : (r : Request) → ask_refusal p1 ≡ None → taken_at STATISTICS_QUEUE 0 p1 ≡ Some r →
      (result ≡ Ok r.head) × (m2 ≡ m1) ×
      (p2 ≡ with_queue STATISTICS_QUEUE
      (record (queue_part STATISTICS_QUEUE p1) {
        taken = remove (queue_part STATISTICS_QUEUE p1).taken 0;
      }) p1)
  pub answers : ask_refusal p1 ≡ None → IsSome (taken_at STATISTICS_QUEUE 0 p1)
