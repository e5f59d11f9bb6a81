-- What devices of both paces keep, and what the parts of their calls do.
use Rattle.std.proofs.Common.{◌≡◌, ◌↔◌, ℕ, ◌+◌, ◌<◌, ◌≤◌, true, false, List, [], ◌∷◌, map, refl}
use Rattle.std.proofs.Common.{arith}
use Rattle.std.specs.Prelude.{Some, None, Result, Ok, Err, IsSome, length, is_some}
use Rattle.vb_virtio.specs.declared.refusals.Refusal.{Refusal}
use Rattle.vb_virtio.specs.declared.refusals.Refusal.TheVariants.{NoQueue, NotReady, NeedsReset}
use Rattle.vb_virtio.specs.declared.refusals.Refusal.TheVariants.{NotTaken, NotWorked}
use Rattle.vb_virtio.specs.Queues.{has_chains}
use Rattle.vb_ram.specs.{Pages.{Pages, frame_at}, Part.{Part, no_part}}
use Rattle.vb_ring.specs.{Layout.{layout_of, IsBacked}, Calls.AddsUsedBy}
use Rattle.vb_device.specs.{QueueState.{QueueState, new_queue}}
use Rattle.vb_device.specs.Base.{numbers_of_frames, index_of, new_queues, queue_at, base_part}
use Rattle.vb_device.specs.Base.{IsDeviceQueue, IsBase, fresh_device, IsPlain}
use Rattle.vb_device.specs.BaseCalls.{queue_refusal, with_visit, VisitsNext, with_lost, taken_out}
use Rattle.vb_device.specs.BaseCalls.{SettlesBy, CanUse, UsesChain, TakesBuffer, page_to_visit}
use Rattle.vb_device.specs.{declared.worked.Worked.Worked, Queues.queue_end}
use Rattle.vb_device.proofs.{FourQueues.at_each, CallFacts.{asked, queue, frame, mem, busy, keeper}, StepFacts.{told, bare}}

-- ---- the four queues, and the part of a device

frames : numbers_of_frames (frame 7 ∷ frame 9 ∷ []) ≡ 7 ∷ 9 ∷ []
frames = refl

places : map index_of (0 ∷ 1 ∷ 2 ∷ 4 ∷ []) ≡ 0 ∷ 1 ∷ 2 ∷ 3 ∷ []
places = refl

queues : new_queues 8 ≡ new_queue 0 8 ∷ new_queue 1 8 ∷ new_queue 2 8 ∷ new_queue 4 8 ∷ []
queues = refl

-- the queue of this number, whose counts are this one and one more
abbrev counted : ℕ → ℕ → QueueState
counted number count = record (new_queue number 8) {
  ring = record (new_queue number 8).ring { next_avail = count; next_used = count + 1 };
  taken = asked count [] 0 ∷ [];
}

abbrev four : List QueueState
four = counted 0 1 ∷ counted 1 3 ∷ counted 2 5 ∷ counted 4 7 ∷ []

each : map (λ q. queue_at q four) (0 ∷ 1 ∷ 2 ∷ 4 ∷ []) ≡ four
each = refl

part : base_part 15 2 20 21 8 four (record { free = Some 5; total = None }) (frame 7 ∷ []) (true ∷ []) true
    ≡ record no_part {
      status = 15;
      features = 2;
      target = 20;
      actual = 21;
      queue_size = 8;
      inflate = record { next_avail = 1; next_used = 2; taken = asked 1 [] 0 ∷ [] };
      deflate = record { next_avail = 3; next_used = 4; taken = asked 3 [] 0 ∷ [] };
      statistics = record { next_avail = 5; next_used = 6; taken = asked 5 [] 0 ∷ [] };
      report = record { next_avail = 7; next_used = 8; taken = asked 7 [] 0 ∷ [] };
      last = record { free = Some 5; total = None };
      loose = 7 ∷ [];
      ballooned = true ∷ [];
      paced = true;
    }
part = refl

fresh : map fresh_device (true ∷ false ∷ [])
    ≡ record { mem = []; part = record no_part { queue_size = 256; paced = true } }
    ∷ record { mem = []; part = record no_part { queue_size = 256; paced = false } } ∷ []
fresh = refl

plain : (p : Part) → IsPlain p ↔ ((p.keeps ≡ false) × (p.own ≡ []))
plain p = (λ is. (is.keeps, is.own), λ all. record { keeps = all.0; own = all.1 })

-- ---- what is always true of a queue: of one without a guest, and of one whose driver is ready

idle : (x : QueueState) → IsDeviceQueue [] 0 8 4 x
    ↔ ((x.number ≡ 4) × (x.ring.layout ≡ layout_of 3 8) × (x.ring.size ≡ 8)
    × (false ≡ true → x.ring.ready ≡ true) × (◌≡◌ {A = ℕ} 0 0 → x.ring.next_avail ≡ 0)
    × (◌≡◌ {A = ℕ} 0 0 → x.taken ≡ []))
idle x = (
  λ is. (is.number, is.ring, is.size, is.ready, is.idle, is.none),
  λ all. record {
    number = all.0;
    ring = all.1;
    size = all.2;
    ready = all.3;
    idle = all.4;
    none = all.5;
  },
)

ready : (x : QueueState) → IsDeviceQueue mem 15 8 4 x
    → (x.ring.ready ≡ true) × (x.ring.layout ≡ layout_of 3 8)
ready x is = (is.ready refl, is.ring)

-- with a guest it may have taken chains, and isn't ready before its driver is
taking_one : IsDeviceQueue mem 3 8 4 (counted 4 7)
taking_one = record {
  number = refl;
  ring = refl;
  size = refl;
  ready = λ e. (let wrong : false ≡ true = e in absurd cc);
  idle = λ e. omega (arith, e);
  none = λ e. absurd (omega (arith, e));
}

-- ---- what is always true of a device's fields

base : (m : Pages) (status capacity : ℕ) → length m ≡ 64 → IsBase m status 8 four capacity
    → ((q : ℕ) → has_chains q ≡ true → IsDeviceQueue m status 8 q (queue_at q four)) × (64 ≤ capacity)
base m status capacity e is = (is.each, omega (arith, is.room))

no_base : (m : Pages) (capacity : ℕ) (queues : List QueueState)
    → (IsBase m 0 8 (counted 0 1 ∷ four) capacity → ⊥) × (IsBase m 0 8 [] capacity → ⊥)
    × (IsBase m 0 12 queues capacity → ⊥) × (length m ≡ 63 → IsBase m 0 8 queues capacity → ⊥)
    × (length m ≡ 65 → IsBase m 0 8 queues 64 → ⊥)
no_base m capacity queues = (
  λ is. omega (arith, is.four),
  λ is. omega (arith, is.four),
  λ is. omega (arith, is.size.divides),
  λ e is. omega (arith, is.large (omega arith)),
  λ e is. omega (arith, is.room),
)

idle_queue : (q : ℕ) → IsDeviceQueue [] 0 8 q (new_queue q 8)
idle_queue q = record {
  number = refl;
  ring = refl;
  size = refl;
  ready = λ e. (let wrong : false ≡ true = e in absurd cc);
  idle = λ e. refl;
  none = λ e. refl;
}

-- one that no guest has needs no room
unattached : IsBase [] 0 8 (new_queues 8) 0
unattached = record {
  four = refl;
  size = grind arith;
  each = at_each (λ q. IsDeviceQueue [] 0 8 q (queue_at q (new_queues 8))) (idle_queue 0)
      (idle_queue 1) (idle_queue 2) (idle_queue 4);
  large = λ some. absurd (omega (arith, some));
  room = omega arith;
}

-- ---- why a finish is refused by the queue and the status: in this order

refusals : map (λ q. queue_refusal q 0) (0 ∷ 2 ∷ 3 ∷ 4 ∷ []) ∷ map (λ q. queue_refusal q 15) (0 ∷ 2 ∷ 3 ∷ 4 ∷ [])
    ∷ map (λ q. queue_refusal q 79) (1 ∷ 2 ∷ []) ∷ []
    ≡ (Some NotReady ∷ Some NoQueue ∷ Some NoQueue ∷ Some NotReady ∷ [])
    ∷ (None ∷ Some NoQueue ∷ Some NoQueue ∷ None ∷ []) ∷ (Some NeedsReset ∷ Some NoQueue ∷ []) ∷ []
refusals = refl

-- ---- visits: the next page is counted, and its frame is the last loose one

counts_a_visit : with_visit 0 busy ∷ with_visit 4 busy ∷ []
    ≡ record busy { inflate = queue 65535 (asked 1 (1 ∷ []) 1 ∷ asked 0 (3 ∷ 2 ∷ []) 1 ∷ []) }
    ∷ record busy { report = queue 5 (asked 0 (1 ∷ []) 1 ∷ []) } ∷ []
counts_a_visit = refl

abbrev loosing : Part
loosing = keeper (4 ∷ []) []

visits : (m2 : Pages) (p2 : Part) (worked : Worked) → VisitsNext mem m2 loosing p2 (Some worked)
    → (Some 3 ≡ Some worked.page) × (worked.freed ≡ is_some (frame_at mem worked.page))
    × (m2 ≡ bare (worked.page ∷ []))
visits m2 p2 worked by = (by.0, by.1, by.2)

visits_page_3 : (m2 : Pages) (p2 : Part) → VisitsNext mem m2 loosing p2 (Some (record { page = 3; freed = true }))
    ↔ ((page_to_visit loosing ≡ Some 3) × (true ≡ true) × (m2 ≡ bare (3 ∷ []))
    × (p2 ≡ record loosing {
      inflate = queue 65535 (asked 1 (1 ∷ []) 1 ∷ asked 0 (3 ∷ 2 ∷ []) 1 ∷ []);
      loose = 4 ∷ 9 ∷ [];
    }))
visits_page_3 m2 p2 = (λ by. by, λ by. by)

visits_no_other : (m2 : Pages) (p2 : Part)
    → (VisitsNext mem m2 busy p2 (Some (record { page = 1; freed = true })) → page_to_visit busy ≡ Some 1)
    × (VisitsNext mem m2 busy p2 (Some (record { page = 3; freed = false })) → false ≡ true)
    × (VisitsNext mem m2 busy p2 None → page_to_visit busy ≡ None)
    × (VisitsNext mem m2 no_part p2 None → (p2 ≡ no_part) × (m2 ≡ mem))
visits_no_other m2 p2 =
    (λ by. by.0, λ by. by.1, λ by. by.0, λ by. (by.1, by.2))

-- ---- a finish but for the used element

lost : map (λ q. with_lost q mem (3 ∷ 1 ∷ 3 ∷ []) (4 ∷ [])) (0 ∷ 1 ∷ 4 ∷ [])
    ≡ (4 ∷ 9 ∷ 7 ∷ []) ∷ (4 ∷ []) ∷ (4 ∷ 9 ∷ 7 ∷ []) ∷ []
lost = refl

out : taken_out 0 1 (3 ∷ 2 ∷ []) mem loosing ≡ record loosing {
  inflate = queue 65535 (asked 1 (1 ∷ []) 1 ∷ []);
  loose = 4 ∷ 9 ∷ [];
}
out = refl

settles : (m2 : Pages) (p2 : Part) (result : Result ℕ Refusal)
    → SettlesBy loosing.paced 0 0 mem m2 loosing p2 result
    → (result ≡ Ok 1) × (m2 ≡ bare (1 ∷ [])) × (p2 ≡ record loosing {
      inflate = queue 65535 (asked 0 (3 ∷ 2 ∷ []) 0 ∷ []);
      loose = 4 ∷ 7 ∷ [];
    })
settles m2 p2 result by = by.settled (asked 1 (1 ∷ []) 1) refl refl

-- a report balloons no page
settles_a_report : (m2 : Pages) (p2 : Part) (result : Result ℕ Refusal)
    → SettlesBy false 4 0 mem m2 (record loosing { paced = false }) p2 result
    → (result ≡ Ok 0) × (m2 ≡ bare (1 ∷ []))
    × (p2 ≡ record loosing { report = queue 5 []; loose = 4 ∷ 7 ∷ []; paced = false })
settles_a_report m2 p2 result by = by.settled (asked 0 (1 ∷ []) 0) refl refl

settles_no_other : (m2 : Pages) (p2 : Part) (result : Result ℕ Refusal)
    → (SettlesBy busy.paced 0 1 mem m2 busy p2 result → (result ≡ Err NotWorked) × (p2 ≡ busy) × (m2 ≡ mem))
    × (SettlesBy busy.paced 0 2 mem m2 busy p2 result → (result ≡ Err NotTaken) × (p2 ≡ busy) × (m2 ≡ mem))
settles_no_other m2 p2 result = (λ by. by.refused NotWorked refl, λ by. by.refused NotTaken refl)

-- ---- the used element, with length 0, and the statistics buffer

can_use : (h : ℕ) (m : Pages) → CanUse 4 h m (record busy { queue_size = 8 })
    ↔ ((true ≡ true) × (true ≡ true) × (h < 8) × IsBacked m (layout_of 3 8))
can_use h m = (
  λ is. (is.known, is.ready, is.head, is.backed),
  λ all. record { known = all.0; ready = all.1; head = all.2; backed = all.3 },
)

-- of no queue that the device doesn't have, and not before its driver is ready
can_use_not : (h : ℕ) (m : Pages) → (CanUse 3 h m busy → false ≡ true)
    × (CanUse 4 h m (record busy { status = 3 }) → false ≡ true)
can_use_not h m = (λ is. is.known, λ is. is.ready)

uses : (m1 m2 : Pages) (p2 : Part) → UsesChain 0 5 m1 m2 busy p2
    → (p2 ≡ record busy { inflate = record (busy.inflate) { next_used = 0 } })
    × AddsUsedBy m1 m2 (queue_end 0 busy) (queue_end 0 p2) 5 0
uses m1 m2 p2 by = (by.part, by.memory)

takes_the_buffer : (m1 m2 : Pages) (p2 : Part) (result : Result ℕ Refusal)
    → (TakesBuffer m1 m2 told p2 result
    → (result ≡ Ok 2) × (m2 ≡ m1) × (p2 ≡ record told { statistics = queue 3 [] }))
    × (TakesBuffer m1 m2 busy p2 result → (result ≡ Err NotTaken) × (p2 ≡ busy) × (m2 ≡ m1))
    × (TakesBuffer m1 m2 told p2 result → IsSome (Some (asked 2 [] 0)))
takes_the_buffer m1 m2 p2 result = (
  λ by. by.out (asked 2 [] 0) refl refl,
  λ by. by.refused NotTaken refl,
  λ by. by.answers refl,
)
