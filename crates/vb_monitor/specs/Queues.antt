-- Queues of a balloon that start at an index over regions, and stop: what is held of them is
-- forgotten.
use Rattle.std.specs.Prelude.{◌≡◌, ℕ, List, Some, None, Result, Ok, Err}
use Rattle.vb_core.specs.declared.kinds.Kind.{Kind}
use Rattle.vb_core.specs.declared.starting.QueueStart.{QueueStart}
use Rattle.vb_core.specs.declared.device.Denial.{Denial}
use Rattle.vb_core.specs.declared.device.Denial.TheVariants.{Misplaced}
use Rattle.vb_core.specs.Held.{held_without}
use Rattle.vb_core.specs.Rings.{no_ring}
use Rattle.vb_core.specs.Devices.{ring_of, with_ring}
use Rattle.vb_core.specs.Starting.{started, start_denial, stop_denial}
use Rattle.vb_monitor.specs.declared.regions.Region.{Region}
use Rattle.vb_monitor.specs.declared.balloon.Balloon.{Balloon}
use Rattle.vb_monitor.specs.Places.{Lies}

-- A queue's start is refused, or lies in a hole, or is taken.
pub record StartsBy (kind : Kind) (regions : List Region) (at : QueueStart) (b1 b2 : Balloon)
    (result : Result (Unit {0}) Denial) : Type 0 where
  pub denied : (why : Denial) → start_denial kind (started at) b1.device ≡ Some why →
      (result ≡ Err why) × (b2 ≡ b1)
  pub hole : start_denial kind (started at) b1.device ≡ None → (¬ Lies regions (started at)) →
      (result ≡ Err Misplaced) × (b2 ≡ b1)
  pub starts : start_denial kind (started at) b1.device ≡ None → Lies regions (started at) →
      (result ≡ Ok tt) × (b2 ≡ record {
        device = with_ring kind (started at) b1.device;
        held = held_without kind b1.held;
      })

-- A queue's stop is refused, or answers the index at which the queue was.
pub record StopsBy (kind : Kind) (b1 b2 : Balloon) (result : Result ℕ Denial) : Type 0 where
  pub denied : (why : Denial) → stop_denial kind b1.device ≡ Some why →
      (result ≡ Err why) × (b2 ≡ b1)
  pub stops : stop_denial kind b1.device ≡ None →
      (result ≡ Ok (ring_of kind b1.device).next_used) × (b2 ≡ record {
        device = with_ring kind no_ring b1.device;
        held = held_without kind b1.held;
      })
