-- What a notice needs of its device from one step to the next.
use Rattle.std.specs.Prelude.{◌≡◌, ℕ, Bool, true, false, not, ◌==◌, ◌&&◌, List}
use Rattle.vb_core.specs.declared.kinds.Kind.{Kind}
use Rattle.vb_core.specs.declared.kinds.Kind.TheVariants.{Inflate, Deflate, Statistics, Hint}
use Rattle.vb_core.specs.declared.kinds.Kind.TheVariants.{Report}
use Rattle.vb_core.specs.declared.device.Device.{Device}
use Rattle.vb_core.specs.Devices.{ring_of}
use Rattle.vb_core.specs.Hints.{is_open}
use Rattle.vb_monitor.specs.declared.snapshot.Snapshot.{Snapshot}

-- The status, the ring of the notice's queue, and the id of the round of hints that is shown.
abbrev pub snapshot_of : Kind → Device → Snapshot
snapshot_of kind d = record { ring = ring_of kind d; shown = d.round.shown; status = d.status }

-- The device wasn't reset since, and its queue wasn't placed, started, stopped or used by another
-- notice.
pub record IsCurrent (s : Snapshot) (kind : Kind) (d : Device) : Type 0 where
  pub ring : s.ring ≡ ring_of kind d
  pub status : s.status ≡ d.status

-- What was named may be discarded: hints only while their round is open (VIRTIO 1.2, 5.5.6.6.1).
abbrev pub may_discard : Snapshot → Kind → Device → Bool
may_discard s Inflate d = true
may_discard s Deflate d = true
may_discard s Statistics d = true
may_discard s Hint d = is_open d.round && (s.shown == d.round.shown)
may_discard s Report d = true
