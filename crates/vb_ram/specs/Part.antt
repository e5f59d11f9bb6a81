-- What a device keeps beside the bytes of its guest's memory.
use Rattle.std.specs.Prelude.{ℕ, Bool, false, List, []}
use Rattle.vb_virtio.specs.Queues.{Request}
use Rattle.vb_virtio.specs.declared.statistics.LastStatistics.{LastStatistics}
use Rattle.vb_virtio.specs.Statistics.{no_statistics}

-- Of one queue: how many available entries were taken and how many used elements written, both
-- modulo 65,536, and the chains that are taken, oldest first (VIRTIO 1.1, 2.6).
pub record QueuePart : Type 0 where
  pub next_avail : ℕ
  pub next_used : ℕ
  pub taken : List Request

-- The device's state (VIRTIO 1.1, 2.1 and 5.5); the pace, loose frames and frames of its own are
-- the profile's.
pub record Part : Type 0 where
  pub status : ℕ
  pub features : ℕ
  pub target : ℕ
  pub actual : ℕ
  pub ballooned : List Bool
  pub queue_size : ℕ
  pub inflate : QueuePart
  pub deflate : QueuePart
  pub statistics : QueuePart
  pub report : QueuePart
  pub last : LastStatistics
  pub paced : Bool
  -- the numbers of the frames that were taken from pages and not handed back yet
  pub loose : List ℕ
  -- whether the device has frames of its own, and the numbers of those that it gave out
  pub keeps : Bool
  pub own : List ℕ

abbrev pub no_queue : QueuePart
no_queue = record { next_avail = 0; next_used = 0; taken = [] }

abbrev pub no_part : Part
no_part =
    record {
      status = 0;
      features = 0;
      target = 0;
      actual = 0;
      ballooned = [];
      queue_size = 0;
      inflate = no_queue;
      deflate = no_queue;
      statistics = no_queue;
      report = no_queue;
      last = no_statistics;
      paced = false;
      loose = [];
      keeps = false;
      own = [];
    }
