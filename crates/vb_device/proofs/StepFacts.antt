-- What the records of a device's calls say of one state: the answer, and what is left.
use Rattle.std.{proofs.Common.{◌≡◌, ℕ, ◌+◌, true, false, List, []}, specs.Prelude.{None, Ok, IsOk}}
use Rattle.{std.proofs.Common.{◌∷◌, refl}, vb_device.specs.Calls.{SameFrames, SweepsBy, FinishesBy}}
use Rattle.vb_virtio.specs.Tests.{marked}
use Rattle.vb_virtio.specs.declared.refusals.Refusal.{Refusal}
use Rattle.vb_virtio.specs.declared.refusals.Refusal.TheVariants.{NoFeature, NotReady, NotBallooned}
use Rattle.vb_virtio.specs.declared.refusals.Refusal.TheVariants.{NotTaken, NotWorked}
use Rattle.std.specs.Prelude.{Option, Some, Result, Err, Bool}
use Rattle.vb_ram.specs.{Pages.{Pages, field}, Part.{Part, no_part, no_queue}}
use Rattle.{vb_ring.specs.Frame.SameOutside, vb_device.proofs.CallFacts.{asked, queue, frame, mem, busy}}
use Rattle.vb_device.specs.{declared.worked.Worked.Worked, Calls.{DetachesBy, WorksBy, AsksBy}}

-- MUST_TELL_HOST and STATS_VQ were accepted, and the driver's buffer of statistics is taken.
abbrev pub told : Part
told = record busy { features = 3; statistics = queue 3 (asked 2 [] 0 ∷ []) }

abbrev pub bare : List ℕ → Pages
bare pages = marked pages None mem

-- A call on that memory answers so, leaves this part, and memory as it was.
abbrev Answers : (T : Type 0) → (Pages → Part → Result T Refusal → Type 0) → Part → Result T Refusal
    → Type 0
Answers T Does part answer = (m2 : Pages) (p2 : Part) (result : Result T Refusal) → Does m2 p2 result
    → (result ≡ answer) × (p2 ≡ part) × (m2 ≡ mem)

-- ---- work: the oldest page of an inflate, then of a report, then none; a stopped device refuses

works : (m2 : Pages) (p2 : Part) (result : Result (Option Worked) Refusal)
    → WorksBy mem m2 busy p2 result
    → (result ≡ Ok (Some (record { page = 3; freed = true }))) × (m2 ≡ bare (3 ∷ []))
    × (p2 ≡ record busy {
      inflate = queue 65535 (asked 1 (1 ∷ []) 1 ∷ asked 0 (3 ∷ 2 ∷ []) 1 ∷ []);
      loose = p2.loose;
    })
    × SameFrames p2.loose (9 ∷ [])
works m2 p2 result by =
    let visits = by.inflate 3 refl refl in
    (visits.answer, visits.memory, visits.part, visits.loose)

works_at_a_report : (m2 : Pages) (p2 : Part) (result : Result (Option Worked) Refusal)
    → WorksBy mem m2 (record busy { inflate = no_queue }) p2 result
    → (result ≡ Ok (Some (record { page = 1; freed = true }))) × (m2 ≡ bare (1 ∷ []))
    × (p2 ≡ record busy {
      inflate = no_queue;
      report = queue 5 (asked 0 (1 ∷ []) 1 ∷ []);
      loose = p2.loose;
    })
    × SameFrames p2.loose (7 ∷ [])
works_at_a_report m2 p2 result by =
    let visits = by.report 1 refl refl refl in
    (visits.answer, visits.memory, visits.part, visits.loose)

abbrev immediate : Part
immediate = record busy { paced = false }

idles : Answers _ (λ m2 p2 result. WorksBy mem m2 immediate p2 result) immediate (Ok None)
idles m2 p2 result by = by.idle refl refl refl

abbrev new : Part
new = record busy { status = 3 }

works_before_ready : Answers _ (λ m2 p2 result. WorksBy mem m2 new p2 result) new (Err NotReady)
works_before_ready m2 p2 result by = by.refused NotReady refl

-- ---- a sweep: of a ballooned page, by a device whose driver tells the host

sweeps : (m2 : Pages) (p2 : Part) (result : Result Bool Refusal) → SweepsBy 1 mem m2 told p2 result
    → (result ≡ Ok true) × (m2 ≡ bare (1 ∷ [])) × (p2 ≡ record told { loose = p2.loose })
    × SameFrames p2.loose (7 ∷ [])
sweeps m2 p2 result by = (by.answer refl, by.memory refl, by.part refl, by.loose refl)

sweeps_untold : Answers _ (λ m2 p2 result. SweepsBy 1 mem m2 busy p2 result) busy (Err NoFeature)
sweeps_untold m2 p2 result by = by.refused NoFeature refl

sweeps_another : Answers _ (λ m2 p2 result. SweepsBy 3 mem m2 told p2 result) told (Err NotBallooned)
sweeps_another m2 p2 result by = by.refused NotBallooned refl

-- ---- a finish, and a buffer that is asked for anew: the request is out, and its head is told

finishes : (m2 : Pages) (p2 : Part) (result : Result ℕ Refusal)
    → FinishesBy 0 0 mem m2 busy p2 result
    → (result ≡ Ok 1)
    × (p2 ≡ record busy {
      inflate = record {
        next_avail = 65535;
        next_used = 0;
        taken = asked 0 (3 ∷ 2 ∷ []) 0 ∷ [];
      };
      loose = p2.loose;
    })
    × SameFrames p2.loose (7 ∷ [])
finishes m2 p2 result by =
    let uses = by.finished (asked 1 (1 ∷ []) 1) refl refl in (uses.answer, uses.part, uses.loose)

finishes_early : Answers _ (λ m2 p2 result. FinishesBy 0 1 mem m2 busy p2 result) busy (Err NotWorked)
finishes_early m2 p2 result by = by.refused NotWorked refl

finishes_none : Answers _ (λ m2 p2 result. FinishesBy 1 0 mem m2 busy p2 result) busy (Err NotTaken)
finishes_none m2 p2 result by = by.refused NotTaken refl

asks : (m2 : Pages) (p2 : Part) (result : Result ℕ Refusal) → AsksBy mem m2 told p2 result
    → IsOk result
    × (p2 ≡ record told { statistics = record { next_avail = 3; next_used = 4; taken = [] } })
asks m2 p2 result by = (by.answers refl, by.part refl)

asks_without_a_buffer : Answers ℕ (λ m2 p2 result. AsksBy mem m2 busy p2 result) busy (Err NotTaken)
asks_without_a_buffer m2 p2 result by = by.refused NotTaken refl

-- ---- what they write to the used ring at a page: the head at this place, length 0 and the index

abbrev Used : Pages → Pages → ℕ → ℕ → ℕ → ℕ → Type 0
Used m1 m2 page place head index =
    (field 4 m2 page place ≡ head) × (field 4 m2 page (place + 4) ≡ 0)
    × (field 2 m2 page 154 ≡ index)
    × SameOutside m1 m2 (record { page = page; from = place; to = place + 8 }
    ∷ record { page = page; from = 154; to = 156 } ∷ [])

-- an inflate's page loses its frame before, and the index goes round
uses_a_request : (m2 : Pages) (p2 : Part) (result : Result ℕ Refusal)
    → FinishesBy 0 0 mem m2 (record busy { queue_size = 8 }) p2 result
    → Used (bare (1 ∷ [])) m2 0 212 1 0
uses_a_request m2 p2 result by =
    let uses = by.finished (asked 1 (1 ∷ []) 1) refl refl in
    let puts = uses.memory.puts in (puts.id, puts.len, puts.index, puts.rest)

uses_a_buffer : (m2 : Pages) (p2 : Part) (result : Result ℕ Refusal)
    → AsksBy mem m2 (record told { queue_size = 8 }) p2 result → Used mem m2 2 180 2 4
uses_a_buffer m2 p2 result by =
    let puts = (by.memory (asked 2 [] 0) refl refl).puts in
    (puts.id, puts.len, puts.index, puts.rest)

-- ---- a guest's end: no page keeps a frame, and the target stays

detaches : (m2 : Pages) (p2 : Part) → DetachesBy mem m2 (record busy { target = 5 }) p2
    → (m2 ≡ None ∷ None ∷ None ∷ None ∷ [])
    × (p2 ≡ record no_part {
      target = 5;
      ballooned = false ∷ false ∷ false ∷ false ∷ [];
      paced = true;
      loose = p2.loose;
    })
    × SameFrames p2.loose (7 ∷ 9 ∷ [])
detaches m2 p2 by = (by.memory, by.part, by.loose)

-- the first page's frame is among them
detaches_the_first : (m2 : Pages) (p2 : Part) → DetachesBy (Some (frame 4) ∷ mem) m2 busy p2
    → SameFrames p2.loose (4 ∷ 7 ∷ 9 ∷ [])
detaches_the_first m2 p2 by = by.loose
