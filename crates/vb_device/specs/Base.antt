-- What devices of both paces keep.
use Rattle.std.specs.Prelude.{◌≡◌, ℕ, ◌<◌, ◌≤◌, Bool, true, false, List, [], ◌∷◌, map, length}
use Rattle.std.specs.Prelude.{slice_index_or, if◌then◌else◌, ◌==◌}
use Rattle.vb_virtio.specs.declared.layout.TheConstants.{INFLATE_QUEUE, DEFLATE_QUEUE}
use Rattle.vb_virtio.specs.declared.layout.TheConstants.{STATISTICS_QUEUE, REPORT_QUEUE}
use Rattle.vb_virtio.specs.declared.limits.TheConstants.{MIN_GUEST_PAGES, MAX_QUEUE_SIZE}
use Rattle.vb_virtio.specs.Layout.{ring_page}
use Rattle.vb_virtio.specs.declared.statistics.LastStatistics.{LastStatistics}
use Rattle.vb_virtio.specs.Queues.{has_chains}
use Rattle.vb_virtio.specs.Status.{contains, driver_ok}
use Rattle.vb_ram.specs.Pages.{Page, Pages}
use Rattle.vb_ram.specs.Part.{Part, no_part}
use Rattle.vb_ring.specs.Layout.{IsSize, layout_of}
use Rattle.vb_device.specs.QueueState.{QueueState, part_of, new_queue, no_ring}
use Rattle.vb_device.specs.State.{DeviceState}

abbrev pub numbers_of_frames : List Page → List ℕ
numbers_of_frames frames = map (λ frame. frame.number) frames

-- Where the queue of this number is among a device's four.
abbrev pub index_of : ℕ → ℕ
index_of q = if q == REPORT_QUEUE then 3 else q

-- The four queues of n descriptors, each at the ring page of its number.
abbrev pub new_queues : ℕ → List QueueState
new_queues size =
    map (λ q. new_queue q size)
    (INFLATE_QUEUE ∷ DEFLATE_QUEUE ∷ STATISTICS_QUEUE ∷ REPORT_QUEUE ∷ [])

-- The queue of this number.
abbrev pub queue_at : ℕ → List QueueState → QueueState
queue_at q queues = slice_index_or queues (index_of q) no_ring

-- The part of a device of these fields.
abbrev pub base_part : ℕ → ℕ → ℕ → ℕ → ℕ → List QueueState → LastStatistics → List Page
    → List Bool → Bool → Part
base_part status features target actual queue_size queues last loose ballooned paced =
    record no_part {
      status = status;
      features = features;
      target = target;
      actual = actual;
      queue_size = queue_size;
      inflate = part_of (queue_at INFLATE_QUEUE queues);
      deflate = part_of (queue_at DEFLATE_QUEUE queues);
      statistics = part_of (queue_at STATISTICS_QUEUE queues);
      report = part_of (queue_at REPORT_QUEUE queues);
      last = last;
      loose = numbers_of_frames loose;
      ballooned = ballooned;
      paced = paced;
    }

-- What is always true of one queue: it has its number, its ring is in its pages, a driver that is
-- ready finds it ready, and where no device is attached nothing was taken from it.
pub record IsDeviceQueue (mem : Pages) (status descriptors q : ℕ)
    (queue : QueueState) : Type 0 where
  pub number : queue.number ≡ q
  pub ring : queue.ring.layout ≡ layout_of (ring_page descriptors q) descriptors
  pub size : queue.ring.size ≡ descriptors
  pub ready : contains status driver_ok ≡ true → queue.ring.ready ≡ true
  pub idle : length mem ≡ 0 → queue.ring.next_avail ≡ 0
  pub none : length mem ≡ 0 → queue.taken ≡ []

-- What is always true of these fields: there are four queues, of one size, and an attached device
-- has room for the frames of all its pages.
pub record IsBase (mem : Pages) (status queue_size : ℕ) (queues : List QueueState)
    (capacity : ℕ) : Type 0 where
  pub four : length queues ≡ 4
  pub size : IsSize queue_size
  pub each : (q : ℕ) → has_chains q ≡ true →
      IsDeviceQueue mem status queue_size q (queue_at q queues)
  pub large : 0 < length mem → MIN_GUEST_PAGES ≤ length mem
  pub room : length mem ≤ capacity

-- A device of this pace that no guest has yet: it has no memory and no frame, its status, features
-- and target are 0, nothing was ever taken, and its queues are of the greatest size.
abbrev pub fresh_device : Bool → DeviceState
fresh_device paced =
    record { mem = []; part = record no_part { queue_size = MAX_QUEUE_SIZE; paced = paced } }

-- A device that has no frames of its own.
pub record IsPlain (part : Part) : Type 0 where
  pub keeps : part.keeps ≡ false
  pub own : part.own ≡ []
