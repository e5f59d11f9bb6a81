-- How many pages a driver's calls move, and what they are refused for, worked out.
use Rattle.std.proofs.Common.{◌≡◌, ◌↔◌, arith, ℕ, true, false, List, [], ◌∷◌, ◌++◌, map, refl}
use Rattle.std.specs.Prelude.{Option, Some, None, option_map, replicate}
use Rattle.vb_model.specs.declared.places.Place.{Place}
use Rattle.vb_model.specs.declared.places.Place.TheVariants.{Free, Giving, Lent, Stranded}
use Rattle.vb_virtio.specs.declared.refusals.Refusal.{Refusal}
use Rattle.vb_virtio.specs.declared.refusals.Refusal.TheVariants.{NotReady, QueueFull}
use Rattle.vb_virtio.specs.declared.refusals.Refusal.TheVariants.{DeflatePending, Nothing}
use Rattle.vb_virtio.specs.declared.refusals.Refusal.TheVariants.{NoFeature, NoQueue, AlreadyUp}
use Rattle.vb_virtio.specs.declared.refusals.Refusal.TheVariants.{NoFrame, VersionMissing}
use Rattle.vb_virtio.specs.declared.refusals.Refusal.TheVariants.{FeatureNotOffered, RingBroken}
use Rattle.vb_virtio.specs.declared.refusals.Refusal.TheVariants.{NoPages, NotHeld, BadCpu}
use Rattle.vb_virtio.specs.declared.refusals.Refusal.TheVariants.{BadOrder}
use Rattle.vb_virtio.specs.FirstRefusal.{Cause, first_refusal}
use Rattle.vb_model.specs.Pages.{block_at}
use Rattle.vb_ram.specs.{Part.{Part, no_part}, Pages.{Pages, field, byte_at}}
use Rattle.vb_ring.specs.{Ends.DriverEnd, Numbers.numbers}
use Rattle.vb_driver.specs.State.{DriverState, fresh_driver}
use Rattle.vb_driver.specs.{Unchanged.Unchanged, Lives.{GivesUp, InitRefused}}
use Rattle.vb_driver.specs.Answers.{inflate_count, deflate_count, oom_count, inflate_causes}
use Rattle.vb_driver.specs.Answers.{deflate_causes, oom_causes, report_causes, reap_causes}
use Rattle.vb_driver.specs.Answers.{stats_causes, IsLargeEnough, HaveRingFrames}
use Rattle.vb_driver.specs.Answers.{alloc_causes, free_causes, init_causes}
use Rattle.vb_driver.proofs.Shapes.{frames_there}

-- 3 lent pages, one on its way, 2 stranded, and 4 free ones at an order of their own
abbrev places : List Place
places = Lent ∷ Lent ∷ Lent ∷ Giving ∷ Stranded ∷ Stranded ∷ replicate 4 Free

abbrev driver : ℕ → DriverState
driver features = record (fresh_driver 64 8 1) { places = places; features = features }

-- ---- how many pages

-- the stranded ones, and others up to the target, as far as there are free ones; as asked at most
inflates : map (λ target. inflate_count (driver 1) target 9) (0 ∷ 6 ∷ 7 ∷ 9 ∷ 10 ∷ 20 ∷ [])
    ++ map (inflate_count (driver 1) 20) (0 ∷ 1 ∷ 6 ∷ []) ≡ 2 ∷ 2 ∷ 3 ∷ 5 ∷ 6 ∷ 6 ∷ 0 ∷ 1 ∷ 6 ∷ []
inflates = refl

-- what is above the target, of lent pages alone
deflates : map (λ target. deflate_count (driver 1) target 9) (0 ∷ 1 ∷ 2 ∷ 3 ∷ 4 ∷ 9 ∷ [])
    ++ map (deflate_count (driver 1) 0) (0 ∷ 2 ∷ []) ≡ 3 ∷ 3 ∷ 2 ∷ 1 ∷ 0 ∷ 0 ∷ 0 ∷ 2 ∷ []
deflates = refl

-- lent pages, whatever the target
short : map (oom_count (driver 1)) (0 ∷ 2 ∷ 3 ∷ 9 ∷ []) ≡ 0 ∷ 2 ∷ 3 ∷ 3 ∷ []
short = refl

-- ---- blocks

-- an allocation, of which pages 6 to 9 are free: no order above 9, no second processor, and no block of
-- four pages; and of 64 pages the last one
alloc_refusals : map first_refusal (
    alloc_causes (driver 0) 0 0 ∷ alloc_causes (driver 0) 0 1 ∷ alloc_causes (driver 0) 0 2
    ∷ alloc_causes (driver 0) 1 2 ∷ alloc_causes (driver 0) 1 10 ∷ alloc_causes (driver 0) 0 9
    ∷ alloc_causes (record (driver 0) { places = replicate 63 Lent ++ Free ∷ [] }) 0 0 ∷ []
    ) ≡ None ∷ None ∷ Some NoPages ∷ Some BadCpu ∷ Some BadOrder ∷ Some NoPages ∷ None ∷ []
unfolding numbers
alloc_refusals = refl

-- what is freed is a block that is held, from its first page on and of its order
abbrev holds_four : DriverState
holds_four = record (driver 0) { held = block_at 4 2 ∷ [] }

free_refusals : map first_refusal (
    free_causes holds_four 0 4 2 ∷ free_causes holds_four 0 4 1 ∷ free_causes holds_four 0 5 2
    ∷ free_causes holds_four 1 5 2 ∷ free_causes holds_four 1 4 10 ∷ []
    ) ≡ None ∷ Some NotHeld ∷ Some NotHeld ∷ Some BadCpu ∷ Some BadOrder ∷ []
unfolding numbers
free_refusals = refl

-- ---- refusals

abbrev why : List Cause → Option Refusal
why causes = first_refusal causes

abbrev part : ℕ → ℕ → Part
part status target = record no_part { status = status; target = target }

-- n requests are out, each of one descriptor
abbrev with_out : List (Option ℕ) → DriverEnd → DriverEnd
with_out owner ring = record ring { owner = owner }

abbrev one_out : List (Option ℕ)
one_out = Some 0 ∷ []

abbrev all_out : List (Option ℕ)
all_out = Some 0 ∷ Some 1 ∷ Some 2 ∷ Some 3 ∷ Some 4 ∷ Some 5 ∷ Some 6 ∷ Some 7 ∷ []

abbrev inflating : List (Option ℕ) → DriverState → DriverState
inflating owner d =
    record d { inflate = record d.inflate { ring = with_out owner d.inflate.ring } }

abbrev deflating : List (Option ℕ) → DriverState → DriverState
deflating owner d =
    record d { deflate = record d.deflate { ring = with_out owner d.deflate.ring } }

abbrev reporting : List (Option ℕ) → DriverState → DriverState
reporting owner d = record d { report = record d.report { ring = with_out owner d.report.ring } }

-- an inflate: the first that holds, each at its border; a deflate that is out counts without
-- MUST_TELL_HOST alone, and one of the other queue's requests fills none
inflate_refusals : map why (
    inflate_causes (driver 1) (part 15 9) 1 ∷ inflate_causes (deflating one_out (driver 1)) (part 15 9) 1
    ∷ inflate_causes (deflating all_out (driver 1)) (part 15 9) 1
    ∷ inflate_causes (inflating one_out (driver 1)) (part 15 9) 1
    ∷ inflate_causes (driver 1) (part 11 9) 0
    ∷ inflate_causes (inflating all_out (driver 0)) (part 15 9) 0
    ∷ inflate_causes (deflating one_out (driver 0)) (part 15 9) 0
    ∷ inflate_causes (driver 0) (part 15 9) 0 ∷ []
    ) ≡ None ∷ None ∷ None ∷ None ∷ Some NotReady ∷ Some QueueFull ∷ Some DeflatePending ∷ Some Nothing ∷ []
unfolding numbers
inflate_refusals = refl

-- as many as the target asks for are lent, and none is stranded
inflate_at_target : map (λ target. why (inflate_causes
    (record (driver 1) { places = Lent ∷ Lent ∷ Lent ∷ Free ∷ [] }) (part 15 target) 1)) (3 ∷ 4 ∷ [])
    ≡ Some Nothing ∷ None ∷ []
unfolding numbers
inflate_at_target = refl

-- a deflate, which needs no feature, counts requests of its own queue, and the target
deflate_refusals : map why (
    deflate_causes (driver 0) (part 15 3) 1 ∷ deflate_causes (inflating all_out (driver 0)) (part 15 3) 1
    ∷ deflate_causes (deflating all_out (driver 0)) (part 15 3) 0
    ∷ deflate_causes (driver 0) (part 15 4) 1 ∷ deflate_causes (driver 0) (part 11 3) 1 ∷ []
    ) ≡ None ∷ None ∷ Some QueueFull ∷ Some Nothing ∷ Some NotReady ∷ []
unfolding numbers
deflate_refusals = refl

-- where memory is short: with DEFLATE_ON_OOM (bit 2) alone, whatever the target
oom_refusals : map why (
    oom_causes (driver 4) (part 15 9) 1 ∷ oom_causes (driver 3) (part 15 9) 1
    ∷ oom_causes (inflating all_out (driver 4)) (part 15 9) 1
    ∷ oom_causes (deflating all_out (driver 4)) (part 15 9) 1 ∷ oom_causes (driver 4) (part 15 9) 0
    ∷ oom_causes (driver 3) (part 11 9) 1 ∷ []
    ) ≡ None ∷ Some NoFeature ∷ None ∷ Some QueueFull ∷ Some Nothing ∷ Some NotReady ∷ []
unfolding numbers
oom_refusals = refl

-- a report: with page reporting (bit 5) alone, where none is out, of a free block of 16 pages at least
-- from a page on
abbrev with_block : ℕ → DriverState
with_block features = record (driver features) { places = replicate 16 Free }

report_refusals : map why (
    report_causes (with_block 32) (part 15 0) 0 ∷ report_causes (with_block 31) (part 15 0) 0
    ∷ report_causes (reporting one_out (with_block 32)) (part 15 0) 0
    ∷ report_causes (with_block 32) (part 15 0) 1
    ∷ report_causes (record (driver 32) { places = replicate 15 Free }) (part 15 0) 0
    ∷ report_causes (with_block 32) (part 11 0) 0
    ∷ report_causes (inflating all_out (with_block 32)) (part 15 0) 0 ∷ []
    ) ≡ None ∷ Some NoFeature ∷ Some QueueFull ∷ Some Nothing ∷ Some Nothing ∷ Some NotReady ∷ None ∷ []
unfolding numbers
report_refusals = refl

-- a used ring that says more than is out
abbrev broken : DriverEnd → DriverEnd
broken ring = record ring { seen = 1 }

-- a reap: of a queue of requests, with its feature, and last of all of a ring that isn't broken
abbrev reaped : ℕ → ℕ → ℕ → List Cause
reaped features status queue =
    reap_causes [] (part status 0) (driver features) (driver features).inflate.ring queue

reap_refusals : map why (
    reaped 0 15 0 ∷ reaped 0 15 1 ∷ reaped 32 15 4 ∷ reaped 31 15 4 ∷ reaped 63 15 2 ∷ reaped 63 15 3
    ∷ reaped 0 11 0 ∷ reap_causes [] (part 15 0) (driver 0) (broken (driver 0).inflate.ring) 0
    ∷ reap_causes [] (part 11 0) (driver 0) (broken (driver 0).inflate.ring) 0 ∷ []
    ) ≡ None ∷ None ∷ None ∷ Some NoFeature ∷ Some NoQueue ∷ Some NoQueue ∷ Some NotReady ∷ Some RingBroken ∷ Some NotReady ∷ []
unfolding numbers field byte_at
reap_refusals = refl

-- statistics: with their feature (bit 1) alone, and by their own ring
stats_refusals : map why (
    stats_causes [] (part 15 0) (driver 2) ∷ stats_causes [] (part 15 0) (driver 61)
    ∷ stats_causes [] (part 11 0) (driver 2)
    ∷ stats_causes [] (part 15 0) (record (driver 2) { statistics = broken (driver 2).statistics })
    ∷ stats_causes [] (part 15 0)
    (record (driver 2) { inflate = record (driver 2).inflate { ring = broken (driver 2).inflate.ring } })
    ∷ []
    ) ≡ None ∷ Some NoFeature ∷ Some NotReady ∷ Some RingBroken ∷ None ∷ []
unfolding numbers field byte_at
stats_refusals = refl

-- ---- memory that is large enough, and has frames

large : (IsLargeEnough (replicate 64 None)) × (IsLargeEnough (replicate 63 None) → ⊥)
large = (omega arith, λ is. omega (arith, is))

-- pages 0 to 3 and 4 to 12 are rings and buffers, of which each needs one
abbrev with_frames : List (Option ℕ) → Pages
with_frames numbers = map (λ n. option_map (λ k. record { number = k; bytes = [] }) n) numbers

abbrev IsReady : List (Option ℕ) → Type 0
IsReady numbers = HaveRingFrames 8 (with_frames numbers)

frames : IsReady (replicate 13 (Some 0)) × (IsReady (None ∷ replicate 12 (Some 0)) → ⊥)
    × (IsReady (replicate 12 (Some 0)) → ⊥) × (IsReady (replicate 4 (Some 0) ++ None ∷ replicate 8 (Some 0)) → ⊥)
frames = (
  frames_there 8 (with_frames (replicate 13 (Some 0))) refl,
  λ is. let no : false ≡ true = is 0 refl in absurd cc,
  λ is. let no : false ≡ true = is 12 refl in absurd cc,
  λ is. let no : false ≡ true = is 4 refl in absurd cc,
)

-- ---- an initialisation that is refused

-- once the status isn't 0; without a frame; and for features that aren't offered, or without VERSION_1
init_refusals : map first_refusal (
    init_causes 8 (with_frames (replicate 13 (Some 0))) (part 0 0) 0x100000027
    ∷ init_causes 8 (with_frames (replicate 13 (Some 0))) (part 1 0) 0x100000027
    ∷ init_causes 8 (with_frames (replicate 12 (Some 0))) (part 15 0) 0x27
    ∷ init_causes 8 (with_frames (replicate 12 (Some 0))) (part 0 0) 0x27
    ∷ init_causes 8 (with_frames (replicate 13 (Some 0))) (part 0 0) 0x100000008
    ∷ init_causes 8 (with_frames (replicate 13 (Some 0))) (part 0 0) 0x27 ∷ []
    ) ≡ None ∷ Some AlreadyUp ∷ Some AlreadyUp ∷ Some NoFrame ∷ Some FeatureNotOffered ∷ Some VersionMissing ∷ []
unfolding numbers field byte_at
init_refusals = refl

init_refused : (m1 m2 : Pages) (p1 p2 : Part) (d1 d2 : DriverState)
    → (InitRefused AlreadyUp m1 m2 p1 p2 d1 d2 3 ↔ Unchanged m1 m2 p1 p2 d1 d2)
    × (InitRefused NoFrame m1 m2 p1 p2 d1 d2 3 ↔ Unchanged m1 m2 p1 p2 d1 d2)
    × (InitRefused VersionMissing m1 m2 p1 p2 d1 d2 3 ↔ GivesUp m1 m2 p1 p2 d1 d2 3)
    × (InitRefused FeatureNotOffered m1 m2 p1 p2 d1 d2 3 ↔ GivesUp m1 m2 p1 p2 d1 d2 0)
init_refused m1 m2 p1 p2 d1 d2 =
    ((λ is. is, λ is. is), (λ is. is, λ is. is), (λ is. is, λ is. is), (λ is. is, λ is. is))
