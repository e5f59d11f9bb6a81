-- A device gets a guest, and gives the frames of all pages up (VIRTIO 1.1, 2.1; frames are the
-- profile's).
use Rattle.std.specs.Prelude.{◌≡◌, false, [], length, replicate, None}
use Rattle.std.specs.List.{range_with_len}
use Rattle.vb_virtio.specs.Statistics.{no_statistics}
use Rattle.vb_ram.specs.declared.config.Config.{Config}
use Rattle.vb_ram.specs.Pages.{Pages}
use Rattle.vb_ram.specs.Part.{Part, no_queue}
use Rattle.vb_status.specs.After.{part_after_reset}
use Rattle.vb_device.specs.Discards.{frames_behind}
use Rattle.vb_device.specs.Loose.{SameFrames}

-- A device that no guest has yet: it has no memory and no frame of a guest.
pub record IsUnused (mem : Pages) (part : Part) : Type 0 where
  pub no_memory : mem ≡ []
  pub no_frames : part.loose ≡ []

-- A guest of this size, as it is before its first initialisation.
abbrev pub attached : Config → Part → Part
attached config part =
    record part {
      status = 0;
      features = 0;
      target = 0;
      actual = 0;
      ballooned = replicate config.pages false;
      queue_size = config.queue_size;
      inflate = no_queue;
      deflate = no_queue;
      statistics = no_queue;
      report = no_queue;
      last = no_statistics;
    }

-- The device is reset (VIRTIO 1.1, 2.1), and every page loses its frame. No frame was loose before.
pub record DetachesBy (m1 m2 : Pages) (p1 p2 : Part) : Type 0 where
  pub memory : m2 ≡ replicate (length m1) None
  pub part : p2 ≡ record (part_after_reset p1) { loose = p2.loose }
  pub loose : SameFrames p2.loose (frames_behind m1 (range_with_len 0 (length m1)))
