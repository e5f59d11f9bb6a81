-- A device of plain data represents one that owns its guest's memory.
use Rattle.std.specs.Prelude.{◌≡◌, ℕ, ◌+◌, ◌*◌, true, false}
use Rattle.vb_virtio.specs.Limits.{page_size}
use Rattle.vb_virtio.specs.Layout.{reserved_pages}
use Rattle.vb_ram.specs.Pages.{end_of}
use Rattle.vb_ram.specs.Part.{Part}
use Rattle.vb_ring.specs.declared.layout.RingArea.{RingArea}
use Rattle.vb_core.specs.declared.ring.Virtqueue.{Virtqueue}
use Rattle.vb_core.specs.declared.kinds.Kind.{Kind}
use Rattle.vb_core.specs.declared.device.Device.{Device}
use Rattle.vb_core.specs.Kinds.{queue_of}
use Rattle.vb_core.specs.Devices.{ring_of}
use Rattle.vb_core.specs.Settings.{skips, are_settings}
use Rattle.vb_core.specs.Config.{keeps_reports}
use Rattle.vb_device.specs.Queues.{queue_part, queue_layout}
use Rattle.vb_served.specs.Store.{Store}

-- The address of an area's first byte.
abbrev pub address_of : RingArea → ℕ
address_of area = page_size * area.page + area.offset

-- The two have the same ring of a queue, and are as far in it.
pub record AreRings (r : Virtqueue) (q : ℕ) (part : Part) : Type 0 where
  pub size : r.size ≡ part.queue_size
  pub next_avail : r.next_avail ≡ (queue_part q part).next_avail
  pub next_used : r.next_used ≡ (queue_part q part).next_used
  pub table : r.table ≡ page_size * (queue_layout q part).table
  pub avail : r.avail ≡ address_of (queue_layout q part).avail
  pub used : r.used ≡ address_of (queue_layout q part).used

-- The same state over the same memory, as far as a kind's queue goes: the device of plain data
-- refuses wrong numbers, and keeps no pages of reports.
pub record IsAlike (kind : Kind) (d : Device) (part : Part) (s : Store) : Type 0 where
  pub loose : s.loose ≡ part.loose
  pub ballooned : s.ballooned ≡ part.ballooned
  pub last : s.last ≡ part.last
  pub settings : are_settings d.settings ≡ true
  pub end : d.settings.memory_end ≡ end_of s.mem
  pub reserved : d.settings.reserved_pages ≡ reserved_pages part.queue_size
  pub strict : skips d.settings ≡ false
  pub keeps : keeps_reports d ≡ false
  pub status : d.status ≡ part.status
  pub features : d.features ≡ part.features
  pub ring : AreRings (ring_of kind d) (queue_of kind) part
