-- What the driver, the device and guest memory say together of the one statistics buffer (VIRTIO
-- 1.1, 5.5.6.3).
use Rattle.std.specs.Prelude.{◌≡◌, ℕ, List, [], ◌∷◌, ⊤}
use Rattle.vb_virtio.specs.declared.layout.TheConstants.{STATISTICS_QUEUE}
use Rattle.vb_virtio.specs.Layout.{ring_page}
use Rattle.vb_virtio.specs.Queues.{Request}
use Rattle.vb_model.specs.Requests.{StatisticsBuffer, BufferPosted, BufferTaken}
use Rattle.vb_model.specs.Requests.{BufferDone}
use Rattle.vb_ram.specs.Pages.{Pages}
use Rattle.vb_ram.specs.Part.{QueuePart}
use Rattle.vb_ring.specs.Ends.{DriverEnd}
use Rattle.vb_driver.specs.Coding.{AreFigures}
use Rattle.vb_guest.specs.Ring.{RingStands}

-- The buffer's head, 0, where it is posted, taken or used.
abbrev pub posted_heads : StatisticsBuffer → List ℕ
posted_heads (BufferPosted figures) = 0 ∷ []
posted_heads _ = []

abbrev pub taken_heads : StatisticsBuffer → List ℕ
taken_heads (BufferTaken figures) = 0 ∷ []
taken_heads _ = []

abbrev pub used_heads : StatisticsBuffer → List ℕ
used_heads (BufferDone figures) = 0 ∷ []
used_heads _ = []

-- The taken buffer among a device's requests: it names no pages.
abbrev pub taken_requests : StatisticsBuffer → List Request
taken_requests (BufferTaken figures) = record { head = 0; pages = []; visited = 0 } ∷ []
taken_requests _ = []

-- A posted buffer of a ring of n descriptors has its figures.
abbrev pub HasFigures : ℕ → Pages → StatisticsBuffer → Type 0
HasFigures size mem (BufferPosted figures) =
    AreFigures mem (ring_page size STATISTICS_QUEUE) figures
HasFigures size mem _ = ⊤

pub record BufferLine (mem : Pages) (ring : DriverEnd) (part : QueuePart)
    (buffer : StatisticsBuffer) : Type 0 where
  pub stands : RingStands mem STATISTICS_QUEUE ring part.next_avail part.next_used
      (posted_heads buffer) (taken_heads buffer) (used_heads buffer)
  pub figures : HasFigures ring.size mem buffer
  pub remembers : part.taken ≡ taken_requests buffer
