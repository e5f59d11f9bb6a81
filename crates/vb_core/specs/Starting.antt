-- A queue that starts at an index, and one that stops.
use Rattle.std.specs.Prelude.{ℕ, Bool, not, ◌&&◌, ◌==◌, [], ◌∷◌, if◌then◌else◌, Option, Some, None}
use Rattle.vb_virtio.specs.Status.{contains, features_ok, failed, has_fault}
use Rattle.vb_core.specs.declared.ring.Virtqueue.{Virtqueue}
use Rattle.vb_core.specs.declared.starting.QueueStart.{QueueStart}
use Rattle.vb_core.specs.declared.kinds.Kind.{Kind}
use Rattle.vb_core.specs.declared.device.Denial.{Denial}
use Rattle.vb_core.specs.declared.device.Denial.TheVariants.{NoQueue, BadArgument, NotReady}
use Rattle.vb_core.specs.declared.device.Denial.TheVariants.{NeedsReset, Misplaced}
use Rattle.vb_core.specs.declared.device.Device.{Device}
use Rattle.vb_core.specs.Settings.{are_settings}
use Rattle.vb_core.specs.Rings.{has_place}
use Rattle.vb_core.specs.Kinds.{lacks}
use Rattle.vb_core.specs.Devices.{ring_of, first_denial, ◌⇛◌}

-- The ring of a queue that has just started: each chain that was taken was given back.
abbrev pub started : QueueStart → Virtqueue
started at = record {
  table = at.table;
  avail = at.avail;
  used = at.used;
  size = at.size;
  next_avail = at.next;
  next_used = at.next;
}

-- The driver and the device agree on features, and the driver hasn't given up: queues may be set up
-- (VIRTIO 1.1, 3.1.1).
abbrev pub may_have_queues : ℕ → Bool
may_have_queues status = contains status features_ok && not (contains status failed)

-- What the start of a kind's queue is refused for.
abbrev pub start_denial : Kind → Virtqueue → Device → Option Denial
start_denial kind ring d =
    first_denial
    ((not (are_settings d.settings) ⇛ BadArgument)
    ∷ (not (may_have_queues d.status) ⇛ NotReady)
    ∷ (has_fault d.status ⇛ NeedsReset)
    ∷ (lacks d.features kind ⇛ NoQueue)
    ∷ (not (has_place d.settings.memory_end ring) ⇛ Misplaced)
    ∷ [])

-- What the stop of a kind's queue is refused for: it has no place.
abbrev pub stop_denial : Kind → Device → Option Denial
stop_denial kind d = if (ring_of kind d).size == 0 then Some Misplaced else None
