-- A device of plain data that is as far in a queue as a device that owns its memory.
use Rattle.std.specs.Prelude.{ℕ, ◌*◌}
use Rattle.vb_virtio.specs.declared.negotiation.TheConstants.{OFFERED_FEATURES}
use Rattle.vb_virtio.specs.Layout.{reserved_pages, ring_page}
use Rattle.vb_virtio.specs.Limits.{page_size}
use Rattle.vb_status.specs.Bits.{status_bits, feature_bits}
use Rattle.vb_ring.specs.Layout.{layout_of}
use Rattle.vb_core.specs.declared.device.Device.{Device}
use Rattle.vb_core.specs.declared.ring.Virtqueue.{Virtqueue}
use Rattle.vb_core.specs.declared.settings.Settings.{Settings}
use Rattle.vb_core.specs.Hints.{no_round}
use Rattle.vb_device.specs.declared.serving.QueueRegisters.{QueueRegisters}
use Rattle.vb_served.specs.Alike.{address_of}

-- The settings of a memory of n pages with rings of this size: wrong numbers break a rule.
abbrev pub settings_for : ℕ → ℕ → Settings
settings_for size pages = record {
  memory_end = page_size * pages;
  offered = OFFERED_FEATURES;
  reserved_pages = reserved_pages size;
  needs_must_tell = 0;
  skips_bad_pages = 0;
  holds_deflates = 0;
  discards_hints = 0;
}

-- The ring of a queue.
abbrev pub ring_for : QueueRegisters → ℕ → Virtqueue
ring_for r q = record {
  table = page_size * (layout_of (ring_page r.queue_size q) r.queue_size).table;
  avail = address_of (layout_of (ring_page r.queue_size q) r.queue_size).avail;
  used = address_of (layout_of (ring_page r.queue_size q) r.queue_size).used;
  size = r.queue_size;
  next_avail = r.next_avail;
  next_used = r.next_used;
}

-- The device: of its queues only the one of this number is asked.
abbrev pub device_for : QueueRegisters → ℕ → ℕ → Device
device_for r q pages = record {
  settings = settings_for r.queue_size pages;
  features = feature_bits r.features;
  target = 0;
  actual = 0;
  inflate = ring_for r q;
  deflate = ring_for r q;
  statistics = ring_for r q;
  hint = ring_for r q;
  report = ring_for r q;
  poison = 0;
  round = no_round;
  status = status_bits r.status;
}
