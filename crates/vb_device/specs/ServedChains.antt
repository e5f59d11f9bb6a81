-- A chain of a queue that is served over a device's memory by another hand than the device's own.
use Rattle.std.specs.Prelude.{◌≡◌, ℕ, Bool, List, [], ◌∷◌, ◌++◌, Option, Some, None}
use Rattle.vb_virtio.specs.declared.statistics.LastStatistics.{LastStatistics}
use Rattle.vb_virtio.specs.Queues.{Request}
use Rattle.vb_ram.specs.Pages.{Pages}
use Rattle.vb_ram.specs.Part.{Part}
use Rattle.vb_status.specs.Bits.{status_bits, feature_bits}
use Rattle.vb_device.specs.Conditions.{serve_refusal}
use Rattle.vb_device.specs.Queues.{queue_part, with_queue}
use Rattle.vb_device.specs.QueueState.{QueueState, status_after}
use Rattle.vb_device.specs.Calls.{ServesBy}
use Rattle.vb_device.specs.declared.serving.QueueRegisters.{QueueRegisters}
use Rattle.vb_device.specs.declared.serving.ServedChain.{ServedChain}

-- A chain that is held after these, if one is.
abbrev pub with_held : Option ℕ → List Request → List Request
with_held None taken = taken
with_held (Some head) taken = taken ++ (record { head = head; pages = []; visited = 0 } ∷ [])

-- A queue that goes on from these counts.
abbrev pub gone_on : ℕ → ℕ → Option ℕ → QueueState → QueueState
gone_on next_avail next_used held q =
    record q {
      ring = record q.ring { next_avail = next_avail; next_used = next_used };
      taken = with_held held q.taken;
    }

-- The part of which these are the registers.
pub record HasRegisters (r : QueueRegisters) (q : ℕ) (part : Part) : Type 0 where
  pub status : part.status ≡ status_bits r.status
  pub features : part.features ≡ feature_bits r.features
  pub size : part.queue_size ≡ r.queue_size
  pub next_avail : (queue_part q part).next_avail ≡ r.next_avail
  pub next_used : (queue_part q part).next_used ≡ r.next_used

-- What a device keeps beside memory.
pub record Beside : Type 0 where
  pub loose : List ℕ
  pub ballooned : List Bool
  pub last : LastStatistics

-- The part that has these beside memory.
pub record HasBeside (beside : Beside) (part : Part) : Type 0 where
  pub loose : part.loose ≡ beside.loose
  pub ballooned : part.ballooned ≡ beside.ballooned
  pub last : part.last ≡ beside.last

-- The part once a chain was served so.
abbrev pub advanced : ℕ → ServedChain → Beside → Part → Part
advanced q served beside part =
    record
    (with_queue q (record (queue_part q part) {
      next_avail = served.next_avail;
      next_used = served.next_used;
      taken = with_held served.held (queue_part q part).taken;
    }) part) {
      status = status_after served.answer part.status;
      loose = beside.loose;
      ballooned = beside.ballooned;
      last = beside.last;
    }

-- Whatever device has these registers over this memory, where it doesn't refuse to serve the queue,
-- what is done is what it does.
abbrev pub ServesChainBy : QueueRegisters → ℕ → Pages → Pages → Beside → Beside → ServedChain →
    Type 0
ServesChainBy registers q m1 m2 b1 b2 served =
    (part : Part) → HasRegisters registers q part → HasBeside b1 part →
    serve_refusal q part ≡ None →
    ServesBy q m1 m2 part (advanced q served b2 part) served.answer
