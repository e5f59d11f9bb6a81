-- The lines of the three kinds of requests as one.
use Rattle.std.{proofs.Common.{sym, subst, inr}, specs.Prelude.{◌≡◌, ℕ, ⊤, ◌<◌, ◌≤◌, true, All}}
use Rattle.{std.specs.Prelude.{length, refl}, vb_model.specs.Guest.{Guest, requests, with_requests}}
use Rattle.vb_virtio.specs.Queues.{is_queue_of_requests, Request, Kind, Inflating, Deflating}
use Rattle.vb_virtio.specs.Queues.{Reporting_free, queue_of}
use Rattle.vb_virtio.specs.Limits.{max_outstanding}
use Rattle.vb_virtio.specs.Layout.{reserved_pages, ring_page, buffers_page}
use Rattle.vb_model.specs.Orderly.{IsOrderly, AllRequestsSound}
use Rattle.vb_model.specs.Requests.{Requests}
use Rattle.vb_ram.specs.Pages.{Pages}
use Rattle.{vb_ram.specs.Part.{Part, QueuePart}, vb_device.specs.Queues.{queue_part, with_queue}}
use Rattle.vb_driver.specs.{Calls.ring_of, State.DriverState, Coding.{IsCoded, AreReported}}
use Rattle.vb_guest.specs.{Line.{QueueLine, IsRequest}, Stands.{Ties, IsRunning, IsOwnRequest}}
use Rattle.vb_guest.{specs.Reported.IsReport, proofs.{OwnBlocks.own_pages, Heads.IgnoresVisits}}

abbrev pub Keeps : Kind → DriverState → Type 0
Keeps Inflating d = length d.inflate.sent ≡ max_outstanding
Keeps Deflating d = length d.deflate.sent ≡ max_outstanding
Keeps Reporting_free d = ⊤

abbrev pub Knows : Kind → DriverState → ℕ → Request → Type 0
Knows Inflating d n = IsRequest d.inflate.ring.size n d.inflate.sent
Knows Deflating d n = IsRequest d.deflate.ring.size n d.deflate.sent
Knows Reporting_free d n = IsReport d.report.ring.size n d.report.blocks

abbrev pub Codes : Kind → Pages → DriverState → Request → Type 0
Codes Inflating m d =
    λ r. IsCoded m (ring_page d.inflate.ring.size 0) (buffers_page 0) r.head r.pages
Codes Deflating m d =
    λ r. IsCoded m (ring_page d.deflate.ring.size 1) (buffers_page 1) r.head r.pages
Codes Reporting_free m d = λ r. AreReported m (ring_page d.report.ring.size 4) d.report.blocks

-- with another part of the queue, and other requests
abbrev pub LineWith : Kind → Pages → DriverState → ℕ → QueuePart → Requests → Type 0
LineWith kind m d n part rs = QueueLine m (queue_of kind)
    (ring_of (queue_of kind) d) part rs (Keeps kind d) (Knows kind d n) (Codes kind m d)

abbrev pub LineOf : Kind → Pages → Part → DriverState → Guest → Type 0
LineOf kind m p d g =
    LineWith kind m d g.config.pages (queue_part (queue_of kind) p) (requests kind g)

pub line_of : (kind : Kind) {m : Pages} {p : Part} {d : DriverState} {g : Guest}
    → IsRunning m p d g → LineOf kind m p d g
line_of Inflating run = run.inflate
line_of Deflating run = run.deflate
line_of Reporting_free run = run.report

pub size_of : (kind : Kind) {m : Pages} {p : Part} {d : DriverState} {g : Guest}
    → IsRunning m p d g → (ring_of (queue_of kind) d).size ≡ g.config.queue_size
size_of Inflating run = run.inflate_size
size_of Deflating run = run.deflate_size
size_of Reporting_free run = run.report_size

pub ignores : (kind : Kind) (d : DriverState) (n : ℕ) → IgnoresVisits (Knows kind d n)
ignores Inflating d n r k is = assumption
ignores Deflating d n r k is = assumption
ignores Reporting_free d n r k is = assumption

-- the pages of a request are the guest's, and none of them is reserved
pub own_pages_of : (kind : Kind) (d : DriverState) {n : ℕ} {r : Request}
    → Knows kind d n r → IsOwnRequest (ring_of (queue_of kind) d).size n r
own_pages_of Inflating d is = record { above = is.pages.above; below = is.pages.below }
own_pages_of Deflating d is = record { above = is.pages.above; below = is.pages.below }
own_pages_of Reporting_free d {n} is = let size = d.report.ring.size in
    let own = own_pages size n d.report.blocks is.blocks_are in record {
      above = subst (All (λ page. reserved_pages size ≤ page)) (sym is.names) own.0;
      below = subst (All (λ page. page < n)) (sym is.names) own.1;
    }

pub sound_of : (kind : Kind) (g : Guest) → IsOrderly g → AllRequestsSound (requests kind g).taken
sound_of Inflating g orderly = orderly.inflating.taken
sound_of Deflating g orderly = orderly.deflating.taken
sound_of Reporting_free g orderly = orderly.reporting.taken

pub has_queue : (kind : Kind) → is_queue_of_requests (queue_of kind) ≡ true
has_queue Inflating = refl
has_queue Deflating = refl
has_queue Reporting_free = refl

pub same_frames : (kind : Kind) (rs : Requests) (g : Guest)
    → (with_requests kind rs g).frames ≡ g.frames
same_frames Inflating rs g = refl
same_frames Deflating rs g = refl
same_frames Reporting_free rs g = refl

-- the queue of this kind has other requests now
pub ties_with : (kind : Kind)
    {m : Pages} {p : Part} {d : DriverState} {g : Guest} (part : QueuePart) (rs : Requests)
    → Ties m p d g → IsRunning m p d g → LineWith kind m d g.config.pages part rs
    → Ties m (with_queue (queue_of kind) part p) d (with_requests kind rs g)
ties_with Inflating part rs ties run line =
    record { parts = ties.parts; pages = ties.pages; queues = inr assumption }
ties_with kind part rs ties run line =
    record { parts = ties.parts; pages = ties.pages; queues = inr assumption }
