-- A device's queues by their numbers: VIRTIO 1.1, 2.6 and 5.5.2; where their rings are, and queue
-- 4, are the profile's.
use Rattle.std.specs.Prelude.{ℕ, true, ◌==◌, if◌then◌else◌, Option, Result}
use Rattle.vb_virtio.specs.declared.layout.TheConstants.{INFLATE_QUEUE, DEFLATE_QUEUE}
use Rattle.vb_virtio.specs.declared.layout.TheConstants.{STATISTICS_QUEUE}
use Rattle.vb_virtio.specs.Layout.{ring_page}
use Rattle.vb_ram.specs.Pages.{Pages}
use Rattle.vb_ram.specs.Part.{Part, QueuePart}
use Rattle.vb_chain.specs.declared.fault.ChainFault.{ChainFault}
use Rattle.vb_ring.specs.declared.layout.Layout.{Layout}
use Rattle.vb_ring.specs.Layout.{layout_of}
use Rattle.vb_ring.specs.Ends.{DeviceEnd}
use Rattle.vb_ring.specs.Entries.{next_entry}

-- What the device keeps of a queue.
abbrev pub queue_part : ℕ → Part → QueuePart
queue_part q part =
    if q == INFLATE_QUEUE then part.inflate
    else (if q == DEFLATE_QUEUE then part.deflate
    else (if q == STATISTICS_QUEUE then part.statistics
    else part.report))

-- The part with this of the queue.
abbrev pub with_queue : ℕ → QueuePart → Part → Part
with_queue q queue part =
    if q == INFLATE_QUEUE then record part { inflate = queue }
    else (if q == DEFLATE_QUEUE then record part { deflate = queue }
    else (if q == STATISTICS_QUEUE then record part { statistics = queue }
    else record part { report = queue }))

-- Where a queue's ring is.
abbrev pub queue_layout : ℕ → Part → Layout
queue_layout q part = layout_of (ring_page part.queue_size q) part.queue_size

-- The device's end of a queue whose driver is ready.
abbrev pub queue_end : ℕ → Part → DeviceEnd
queue_end q part =
    record {
      layout = queue_layout q part;
      size = part.queue_size;
      ready = true;
      next_avail = (queue_part q part).next_avail;
      next_used = (queue_part q part).next_used;
    }

-- The head that the guest's bytes say next on a queue, if they say one.
abbrev pub next_available : ℕ → Pages → Part → Result (Option ℕ) ChainFault
next_available q mem part =
    next_entry mem (queue_layout q part) part.queue_size (queue_part q part).next_avail
