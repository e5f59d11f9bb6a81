-- What the driver, the device and memory say together of a queue: of its ring, its requests, its
-- reports and its buffer.
use Rattle.std.proofs.Common.{◌≡◌, ◌↔◌, ℕ, ◌+◌, ◌%◌, ◌<◌, ◌≤◌, true, false, List, [], ◌∷◌, ◌++◌}
use Rattle.std.proofs.Common.{◌⊎◌, refl, arith}
use Rattle.vb_virtio.specs.Tests.{AllDistinct}
use Rattle.vb_virtio.specs.Queues.{Request}
use Rattle.vb_virtio.specs.Layout.{ring_page}
use Rattle.std.specs.Prelude.{All, length, ⊤}
use Rattle.vb_model.specs.Pages.{pages_of_all}
use Rattle.std.proofs.lemmas.List.Elements.{All-cons, All-nil}
use Rattle.vb_model.specs.Requests.{Requests, NoBuffer, BufferPosted, BufferTaken}
use Rattle.vb_model.specs.Requests.{BufferDone}
use Rattle.vb_model.specs.Pages.{Block, block_at}
use Rattle.vb_ram.specs.{Pages.Pages, Part.QueuePart}
use Rattle.vb_ring.specs.{Layout.{IsSize, layout_of}, Ends.DriverEnd}
use Rattle.vb_ring.specs.Meaning.{UsedElem, ids, times, Shows, Tracks}
use Rattle.vb_driver.specs.{Coding.{IsCoded, AreFigures, AreReported}, State.{RequestSide, ReportSide}}
use Rattle.vb_guest.specs.{Ring.{RingStands, used_of}, Line.{heads_of, RingOf, AreRequested, IsRequest}}
use Rattle.vb_guest.specs.{Line.{QueueLine, Line}, Reported.{IsOwnBlock, IsReport, ReportLine}}
use Rattle.vb_guest.specs.Buffer.{BufferLine}

-- ---- a ring: of heads 1 posted, 2 taken and 3 used, of which the driver has seen none

elements : used_of (3 ∷ 5 ∷ []) ≡ record { id = 3; len = 0 } ∷ record { id = 5; len = 0 } ∷ []
elements = refl

stands : (m : Pages) (ring : DriverEnd) (avail used : ℕ)
    → RingStands m 4 ring avail used (1 ∷ []) (2 ∷ []) (3 ∷ [])
    ↔ (IsSize ring.size × (ring.layout ≡ layout_of (ring_page ring.size 4) ring.size)
    × ((before : List ℕ) × (gone : List UsedElem)
    × Shows m ring.layout ring.size (before ++ 1 ∷ []) (gone ++ record { id = 3; len = 0 } ∷ [])
    × Tracks m ring (before ++ 1 ∷ []) (gone ++ record { id = 3; len = 0 } ∷ []) (length gone)
    × (length before % 65536 ≡ avail)
    × (length (gone ++ record { id = 3; len = 0 } ∷ []) % 65536 ≡ used)
    × (length before ≡ length gone + 2)
    × ((h : ℕ) → times h before ≡ times h (ids gone) + (times h (2 ∷ []) + times h (3 ∷ [])))))
stands m ring avail used = (
  λ is. (
    is.sized,
    is.layout,
    (
      is.before,
      is.gone,
      is.shows,
      is.tracks,
      is.avail,
      is.used,
      is.counted,
      is.balance,
    ),
  ),
  λ all. record {
    sized = all.0;
    layout = all.1;
    before = all.2.0;
    gone = all.2.1;
    shows = all.2.2;
    tracks = all.2.3;
    avail = all.2.4;
    used = all.2.5;
    counted = all.2.6;
    balance = all.2.7;
  },
)

abbrev request : ℕ → List ℕ → Request
request head pages = record { head = head; pages = pages; visited = 9 }

abbrev three : Requests
three = record {
  posted = request 1 (20 ∷ []) ∷ [];
  taken = request 2 (21 ∷ []) ∷ [];
  done = request 3 (22 ∷ []) ∷ [];
}

heads : heads_of (request 4 [] ∷ request 2 [] ∷ []) ≡ 4 ∷ 2 ∷ []
heads = refl

ring_of : (m : Pages) (ring : DriverEnd) (part : QueuePart) → RingOf m 4 ring part three
    ↔ RingStands m 4 ring part.next_avail part.next_used (1 ∷ []) (2 ∷ []) (3 ∷ [])
ring_of m ring part = (λ is. is, λ is. is)

-- ---- pages that a guest of 64 asks for: some, few, its own, unreserved ones, each once

one : {X : Type 0} (P : X → Type 0) (x : X) → P x → All P (x ∷ [])
one P x here = All-cons P x [] here (All-nil P)

both : {X : Type 0} (P : X → Type 0) (x y : X) → P x → P y → All P (x ∷ y ∷ [])
both P x y one two = All-cons P x (y ∷ []) one (All-cons P y [] two (All-nil P))

requested : AreRequested 8 64 (16 ∷ 63 ∷ []) × AreRequested 256 64 (32 ∷ [])
requested = (
  record {
    some = omega arith;
    few = omega arith;
    above = both (λ page. 16 ≤ page) 16 63 (omega arith) (omega arith);
    below = both (λ page. page < 64) 16 63 (omega arith) (omega arith);
    distinct = (refl, (refl, tt));
  },
  record {
    some = omega arith;
    few = omega arith;
    above = one (λ page. 32 ≤ page) 32 (omega arith);
    below = one (λ page. page < 64) 32 (omega arith);
    distinct = (refl, tt);
  },
)

-- 256 pages at most
longest : (pages : List ℕ) → length pages ≡ 256 → All (λ page. 16 ≤ page) pages
    → All (λ page. page < 512) pages → AllDistinct pages → AreRequested 8 512 pages
longest pages count above below distinct = record {
  some = omega (arith, count);
  few = omega (arith, count);
  above = above;
  below = below;
  distinct = distinct;
}

not_requested : (pages : List ℕ) → (AreRequested 8 64 [] → ⊥) × (AreRequested 8 64 (20 ∷ 15 ∷ []) → ⊥)
    × (AreRequested 256 64 (31 ∷ []) → ⊥) × (AreRequested 8 64 (20 ∷ 64 ∷ []) → ⊥)
    × (AreRequested 8 64 (20 ∷ 21 ∷ 20 ∷ []) → false ≡ true)
    × (length pages ≡ 257 → AreRequested 8 64 pages → ⊥)
not_requested pages = (
  λ are. omega (arith, are.some),
  λ are. omega (arith, are.above 1 0 (omega arith)),
  λ are. omega (arith, are.above 0 0 (omega arith)),
  λ are. omega (arith, are.below 1 0 (omega arith)),
  λ are. are.distinct.0,
  λ e are. omega (arith, are.few),
)

-- a request has a head of the ring, one of 16, and the driver remembers its pages
a_request : IsRequest 8 64 ([] ∷ (20 ∷ []) ∷ []) (request 1 (20 ∷ []))
a_request = record {
  inside = omega arith;
  few = omega arith;
  remembered = refl;
  pages = record {
    some = omega arith;
    few = omega arith;
    above = one (λ page. 16 ≤ page) 20 (omega arith);
    below = one (λ page. page < 64) 20 (omega arith);
    distinct = (refl, tt);
  };
}

no_request : (sent : List (List ℕ)) (pages : List ℕ) → (IsRequest 8 64 sent (request 8 pages) → ⊥)
    × (IsRequest 256 64 sent (request 16 pages) → ⊥)
    × (IsRequest 8 64 ((20 ∷ []) ∷ (21 ∷ []) ∷ []) (request 1 (20 ∷ [])) → ◌≡◌ {A = List ℕ} (21 ∷ []) (20 ∷ []))
    × (IsRequest 8 64 sent (request 1 pages) → AreRequested 8 64 pages)
no_request sent pages =
    (λ is. omega (arith, is.inside), λ is. omega (arith, is.few), λ is. is.remembered, λ is. is.pages)

-- ---- a queue: each request is known, the posted ones are coded, the taken ones remembered

line : (m : Pages) (ring : DriverEnd) (part : QueuePart) (Keeps : Type 0)
    (Knows Codes : Request → Type 0) → QueueLine m 4 ring part three Keeps Knows Codes
    ↔ (RingOf m 4 ring part three × Keeps × Knows (request 1 (20 ∷ []))
    × Knows (request 2 (21 ∷ [])) × Knows (request 3 (22 ∷ [])) × Codes (request 1 (20 ∷ []))
    × (part.taken ≡ request 2 (21 ∷ []) ∷ []))
line m ring part Keeps Knows Codes = (
  λ is. (
    is.ring,
    is.keeps,
    is.posted 0 (request 0 []) (omega arith),
    is.taken 0 (request 0 []) (omega arith),
    is.done 0 (request 0 []) (omega arith),
    is.coded 0 (request 0 []) (omega arith),
    is.remembers,
  ),
  λ all. record {
    ring = all.0;
    keeps = all.1;
    posted = one Knows (request 1 (20 ∷ [])) all.2;
    taken = one Knows (request 2 (21 ∷ [])) all.3;
    done = one Knows (request 3 (22 ∷ [])) all.4;
    coded = one Codes (request 1 (20 ∷ [])) all.5;
    remembers = all.6;
  },
)

-- of requests: the buffers of inflates begin at page 4, those of deflates at page 8
lines : (m : Pages) (side : RequestSide) (part : QueuePart)
    → (Line m 0 64 side part three ↔ QueueLine m 0 side.ring part three (length side.sent ≡ 16)
    (IsRequest side.ring.size 64 side.sent)
    (λ r. IsCoded m (ring_page side.ring.size 0) 4 r.head r.pages))
    × (Line m 1 64 side part three ↔ QueueLine m 1 side.ring part three (length side.sent ≡ 16)
    (IsRequest side.ring.size 64 side.sent)
    (λ r. IsCoded m (ring_page side.ring.size 1) 8 r.head r.pages))
lines m side part = ((λ is. is, λ is. is), (λ is. is, λ is. is))

-- ---- reports

own_blocks : IsOwnBlock 8 64 (block_at 16 4) × IsOwnBlock 8 64 (block_at 32 5)
    × IsOwnBlock 8 1024 (block_at 512 9) × (IsOwnBlock 8 64 (block_at 0 4) → ⊥) × (IsOwnBlock 256 64 (block_at 16 4) → ⊥)
    × (IsOwnBlock 8 64 (block_at 48 5) → ⊥) × (IsOwnBlock 8 2048 (block_at 1024 10) → ⊥)
own_blocks = (
  record { order = omega arith; above = omega arith; below = omega arith },
  record { order = omega arith; above = omega arith; below = omega arith },
  record { order = omega arith; above = omega arith; below = omega arith },
  λ is. omega (arith, is.above),
  λ is. omega (arith, is.above),
  λ is. omega (arith, is.below),
  λ is. omega (arith, is.order),
)

-- a report has head 0, and names the pages of some blocks, of at most 16 and as many as descriptors
a_report : (r : Request) → IsReport 8 64 (block_at 17 0 ∷ block_at 20 1 ∷ []) r
    → (r.head ≡ 0) × (r.pages ≡ 17 ∷ 20 ∷ 21 ∷ [])
a_report r is = (is.head, is.names)

is_a_report : IsReport 2 64 (block_at 17 0 ∷ block_at 20 1 ∷ []) (request 0 (17 ∷ 20 ∷ 21 ∷ []))
is_a_report = record {
  head = refl;
  names = refl;
  some = omega arith;
  few = omega arith;
  inside = omega arith;
  blocks_are = both (IsOwnBlock 2 64) (block_at 17 0) (block_at 20 1)
      (record { order = omega arith; above = omega arith; below = omega arith })
      (record { order = omega arith; above = omega arith; below = omega arith });
}

-- of one block, and of 16
of_any_length : (r : Request) (blocks : List Block) → length blocks ≡ 1 ⊎ length blocks ≡ 16
    → r.head ≡ 0 → r.pages ≡ pages_of_all blocks → All (IsOwnBlock 256 2048) blocks
    → IsReport 256 2048 blocks r
of_any_length r blocks count head names own = record {
  head = head;
  names = names;
  some = omega (arith, count);
  few = omega (arith, count);
  inside = omega (arith, count);
  blocks_are = own;
}

no_report : (r : Request) (blocks : List Block) → (IsReport 8 64 [] r → ⊥)
    × (length blocks ≡ 17 → IsReport 256 64 blocks r → ⊥)
    × (length blocks ≡ 9 → IsReport 8 64 blocks r → ⊥)
    × (IsReport 8 64 (block_at 16 4 ∷ block_at 0 4 ∷ []) r → ⊥)
no_report r blocks = (
  λ is. omega (arith, is.some),
  λ e is. omega (arith, is.few),
  λ e is. omega (arith, is.inside),
  λ is. omega (arith, (is.blocks_are 1 (block_at 0 0) (omega arith)).above),
)

report_line : (m : Pages) (side : ReportSide) (part : QueuePart) → ReportLine m 64 side part three
    ↔ QueueLine m 4 side.ring part three ⊤ (IsReport side.ring.size 64 side.blocks)
    (λ r. AreReported m (ring_page side.ring.size 4) side.blocks)
report_line m side part = (λ is. is, λ is. is)

-- ---- the statistics buffer: a posted one has its figures, and the device remembers a taken one

buffer_line : (m : Pages) (ring : DriverEnd) (part : QueuePart)
    → (BufferLine m ring part (BufferPosted (record { free = 8; total = 9 }))
    ↔ (RingStands m 2 ring part.next_avail part.next_used (0 ∷ []) [] []
    × AreFigures m (ring_page ring.size 2) (record { free = 8; total = 9 }) × (part.taken ≡ [])))
    × (BufferLine m ring part (BufferTaken (record { free = 8; total = 9 }))
    ↔ (RingStands m 2 ring part.next_avail part.next_used [] (0 ∷ []) [] × ⊤
    × (part.taken ≡ record { head = 0; pages = []; visited = 0 } ∷ [])))
    × (BufferLine m ring part (BufferDone (record { free = 8; total = 9 }))
    ↔ (RingStands m 2 ring part.next_avail part.next_used [] [] (0 ∷ []) × ⊤ × (part.taken ≡ [])))
    × (BufferLine m ring part NoBuffer
    ↔ (RingStands m 2 ring part.next_avail part.next_used [] [] [] × ⊤ × (part.taken ≡ [])))
buffer_line m ring part = (
  (λ is. (is.stands, is.figures, is.remembers), λ all. record { stands = all.0; figures = all.1; remembers = all.2 }),
  (λ is. (is.stands, is.figures, is.remembers), λ all. record { stands = all.0; figures = all.1; remembers = all.2 }),
  (λ is. (is.stands, is.figures, is.remembers), λ all. record { stands = all.0; figures = all.1; remembers = all.2 }),
  (λ is. (is.stands, is.figures, is.remembers), λ all. record { stands = all.0; figures = all.1; remembers = all.2 }),
)
