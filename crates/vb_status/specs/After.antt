-- What a write of the status does to a device: VIRTIO 1.1, 2.1 and 3.1.1.
use Rattle.std.specs.Prelude.{ℕ, false, ◌==◌, length, replicate, if◌then◌else◌}
use Rattle.vb_virtio.specs.Statistics.{no_statistics}
use Rattle.vb_virtio.specs.Status.{adds, driver_ok}
use Rattle.vb_ram.specs.Part.{Part, no_queue}

-- the queues at index 0, with nothing taken
abbrev pub with_new_queues : Part → Part
with_new_queues part =
    record part {
      inflate = no_queue;
      deflate = no_queue;
      statistics = no_queue;
      report = no_queue;
    }

-- nothing is negotiated, ballooned, taken or known of the guest any more; the target stays, and
-- what the device was made with (profile)
abbrev pub part_after_reset : Part → Part
part_after_reset part =
    record (with_new_queues part) {
      status = 0;
      features = 0;
      actual = 0;
      ballooned = replicate (length part.ballooned) false;
      last = no_statistics;
    }

-- a write that is accepted: of 0 it resets, and with DRIVER_OK the queues begin
abbrev pub after_status : ℕ → Part → Part
after_status write part =
    if write == 0 then part_after_reset part
    else (if adds part.status write driver_ok then record (with_new_queues part) { status = write }
    else record part { status = write })
