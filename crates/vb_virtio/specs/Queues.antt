-- The queues of a balloon device, and a request on one: VIRTIO 1.1, 2.6 (virtqueues) and 5.5.2
-- (queues 0 to 2); queue 4 is the profile's.
-- The headline needs all of it but the last part.
use Rattle.std.specs.Prelude.{ℕ, Bool, ◌==◌, List, if◌then◌else◌, Option, Some, None, is_some, not}
use Rattle.std.specs.Prelude.{nat_lt, length, ◌&&◌, ◌||◌}
use Rattle.vb_virtio.specs.Features.{stats_vq, reporting}
use Rattle.vb_virtio.specs.declared.layout.TheConstants.{DEFLATE_QUEUE, STATISTICS_QUEUE}
use Rattle.vb_virtio.specs.declared.layout.TheConstants.{REPORT_QUEUE, INFLATE_QUEUE}

-- ---- the queues

-- the kinds of requests, each with its queue
pub data Kind : Type 0 where
  Inflating Deflating Reporting_free : Kind

abbrev pub kind_of_queue : ℕ → Option Kind
kind_of_queue q =
    if q == INFLATE_QUEUE then Some Inflating
    else (if q == DEFLATE_QUEUE then Some Deflating
    else (if q == REPORT_QUEUE then Some Reporting_free else None))

abbrev pub queue_of : Kind → ℕ
queue_of Inflating = INFLATE_QUEUE
queue_of Deflating = DEFLATE_QUEUE
queue_of Reporting_free = REPORT_QUEUE

-- the queue depends on a feature that wasn't negotiated
abbrev pub lacks_feature : (features q : ℕ) → Bool
lacks_feature features q =
    (q == STATISTICS_QUEUE) && not (stats_vq features)
    || (q == REPORT_QUEUE) && not (reporting features)

-- ---- requests

-- a chain by its head, the pages that it names, and how many of them the device has visited
pub record Request : Type 0 where
  pub head : ℕ
  pub pages : List ℕ
  pub visited : ℕ

-- the device hasn't visited all of its pages
abbrev pub is_unvisited : Request → Bool
is_unvisited r = nat_lt r.visited (length r.pages)

-- ---- for laws and proofs

abbrev pub is_queue_of_requests : ℕ → Bool
is_queue_of_requests q = is_some (kind_of_queue q)

-- a chain can be taken from a queue of this number
abbrev pub has_chains : ℕ → Bool
has_chains q = is_queue_of_requests q || (q == STATISTICS_QUEUE)
