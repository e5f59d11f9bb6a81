-- What the driver, the device and guest memory say together of a queue of requests.
use Rattle.std.specs.Prelude.{◌≡◌, ℕ, ◌<◌, ◌≤◌, List, All, length, map, slice_index_or, []}
use Rattle.vb_virtio.specs.Limits.{max_outstanding, max_request_pages}
use Rattle.vb_virtio.specs.Layout.{reserved_pages, ring_page, buffers_page}
use Rattle.vb_virtio.specs.Queues.{Request}
use Rattle.vb_virtio.specs.Tests.{AllDistinct}
use Rattle.vb_model.specs.Requests.{Requests}
use Rattle.vb_ram.specs.Pages.{Pages}
use Rattle.vb_ram.specs.Part.{QueuePart}
use Rattle.vb_ring.specs.Ends.{DriverEnd}
use Rattle.vb_driver.specs.Coding.{IsCoded}
use Rattle.vb_driver.specs.State.{RequestSide}
use Rattle.vb_guest.specs.Ring.{RingStands}

abbrev pub heads_of : List Request → List ℕ
heads_of rs = map (λ r. r.head) rs

-- The ring of a queue has the heads of these requests.
abbrev pub RingOf : Pages → ℕ → DriverEnd → QueuePart → Requests → Type 0
RingOf mem queue ring part rs =
    RingStands mem queue ring part.next_avail part.next_used
    (heads_of rs.posted) (heads_of rs.taken) (heads_of rs.done)

-- Pages that a guest of n pages, whose queues have this size, asks the device for.
pub record AreRequested (size count : ℕ) (pages : List ℕ) : Type 0 where
  pub some : 0 < length pages
  pub few : length pages ≤ max_request_pages
  pub above : All (λ page. reserved_pages size ≤ page) pages
  pub below : All (λ page. page < count) pages
  pub distinct : AllDistinct pages

-- The driver remembers the pages of the request, and a device takes it from a guest of n pages.
pub record IsRequest (size count : ℕ) (sent : List (List ℕ)) (r : Request) : Type 0 where
  pub inside : r.head < size
  pub few : r.head < max_outstanding
  pub remembered : slice_index_or sent r.head [] ≡ r.pages
  pub pages : AreRequested size count r.pages

-- What the driver, the device and guest memory say together of any queue of requests: its ring has
-- their heads; the driver knows each of them, and keeps what it needs beside the ring; memory has
-- the posted ones coded, and the device remembers the taken ones.
pub record QueueLine (mem : Pages) (queue : ℕ) (driver : DriverEnd) (part : QueuePart)
    (rs : Requests) (Keeps : Type 0) (Knows Codes : Request → Type 0) : Type 0 where
  pub ring : RingOf mem queue driver part rs
  pub keeps : Keeps
  pub posted : All Knows rs.posted
  pub taken : All Knows rs.taken
  pub done : All Knows rs.done
  pub coded : All Codes rs.posted
  pub remembers : part.taken ≡ rs.taken

-- Queues 0 and 1: the driver remembers the pages of each request, and a posted one's buffer has
-- their numbers.
abbrev pub Line : Pages → ℕ → ℕ → RequestSide → QueuePart → Requests → Type 0
Line mem queue count side part rs =
    QueueLine mem queue side.ring part rs (length side.sent ≡ max_outstanding)
    (IsRequest side.ring.size count side.sent)
    (λ r. IsCoded mem (ring_page side.ring.size queue) (buffers_page queue) r.head r.pages)
