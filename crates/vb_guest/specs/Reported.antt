-- What the driver, the device and guest memory say together of the queue of reports (profile).
use Rattle.std.specs.Prelude.{◌≡◌, ℕ, ⊤, ◌+◌, ◌<◌, ◌≤◌, List, All, length}
use Rattle.vb_virtio.specs.declared.layout.TheConstants.{REPORT_QUEUE}
use Rattle.vb_virtio.specs.Limits.{max_outstanding, max_order}
use Rattle.vb_virtio.specs.Layout.{reserved_pages, ring_page}
use Rattle.vb_virtio.specs.Queues.{Request}
use Rattle.vb_model.specs.Pages.{Block, size, pages_of_all}
use Rattle.vb_model.specs.Requests.{Requests}
use Rattle.vb_ram.specs.Pages.{Pages}
use Rattle.vb_ram.specs.Part.{QueuePart}
use Rattle.vb_driver.specs.Coding.{AreReported}
use Rattle.vb_driver.specs.State.{ReportSide}
use Rattle.vb_guest.specs.Line.{QueueLine}

-- A block of a guest of n pages, whose queues have this size, above the reserved ones.
pub record IsOwnBlock (queue_size count : ℕ) (b : Block) : Type 0 where
  pub order : b.order ≤ max_order
  pub above : reserved_pages queue_size ≤ b.start
  pub below : b.start + size b ≤ count

-- The request is the report of these blocks, for which a table of n descriptors has room.
pub record IsReport (descriptors count : ℕ) (blocks : List Block) (r : Request) : Type 0 where
  pub head : r.head ≡ 0
  pub names : r.pages ≡ pages_of_all blocks
  pub some : 0 < length blocks
  pub few : length blocks ≤ max_outstanding
  pub inside : length blocks ≤ descriptors
  pub blocks_are : All (IsOwnBlock descriptors count) blocks

-- The report that is out, if one is, is that of the blocks which the driver remembers; while it is
-- posted, the queue's table has its chain.
abbrev pub ReportLine : Pages → ℕ → ReportSide → QueuePart → Requests → Type 0
ReportLine mem count side part rs =
    QueueLine mem REPORT_QUEUE side.ring part rs ⊤ (IsReport side.ring.size count side.blocks)
    (λ r. AreReported mem (ring_page side.ring.size REPORT_QUEUE) side.blocks)
