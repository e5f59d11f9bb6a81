-- A guest's two deflates are steps of the definitions.
use Rattle.std.{proofs.Common.{sym, ◌∙◌, ap, subst, arith, inr}, specs.Prelude.{◌≡◌, ℕ, zero, suc}}
use Rattle.std.specs.Prelude.{◌<◌, ◌≤◌, Bool, List, [], ◌∷◌, length, take, Result, Ok, Err, OnErr}
use Rattle.{std.specs.Prelude.{IfOk, Some, None, count_by, refl, ◌⊎◌}, vb_model.specs.Guest.Guest}
use Rattle.vb_virtio.specs.Queues.{Deflating}
use Rattle.vb_virtio.specs.Tests.{pages_from}
use Rattle.vb_virtio.specs.FirstRefusal.{first_refusal}
use Rattle.vb_virtio.specs.declared.refusals.Refusal.{Refusal}
use Rattle.vb_virtio.specs.declared.refusals.Refusal.TheVariants.{NotReady}
use Rattle.vb_virtio.specs.Layout.{buffer_page}
use Rattle.vb_virtio.proofs.Tables.{count_by-cons}
use Rattle.vb_virtio.proofs.Shapes.{reserved_least}
use Rattle.vb_model.specs.Guest.{lent_count}
use Rattle.vb_model.specs.Step.{Performs}
use Rattle.vb_model.specs.Requests.{outstanding}
use Rattle.vb_model.specs.Driver.{Deflates, lowest_lent, after_posting}
use Rattle.vb_model.specs.Refusals.{refusal_of, deflate_count, oom_count}
use Rattle.vb_model.specs.declared.calls.Call.{Call, TheVariants.{Deflate, Oom}}
use Rattle.vb_model.specs.declared.replies.Reply.{Reply}
use Rattle.vb_model.specs.declared.replies.Reply.TheVariants.{Posted}
use Rattle.vb_model.proofs.OrderlySteps.{honest_order}
use Rattle.{vb_ram.specs.{Pages.Pages, Part.Part}, vb_ring.specs.Ends.outstanding as outstanding_in}
use Rattle.vb_driver.specs.Calls.{Unchanged, AsksBack, DeflatesBy, DeflatesOnOomBy, areas_asked}
use Rattle.vb_driver.specs.State.{FreePages, RequestSide, DriverState, IsDriver}
use Rattle.vb_driver.specs.{declared.answers.Posted.Posted as PostedRequest, Answers.refusal_in}
use Rattle.vb_driver.specs.Answers.{deflate_causes, oom_causes, deflate_count as driver_count}
use Rattle.vb_guest.proofs.{PagesKept.pages_same, Offered.{asked_as, last_sound, deflate_requested}}
use Rattle.vb_guest.proofs.{DriverWords.{Sides, driver_of, in_words}, Running.others_posted}
use Rattle.vb_guest.proofs.Posting.{line_posted, least_head, outstanding_are}
use Rattle.vb_guest.proofs.SameRefusals.{IsIdleStatus, refused_alike, runs_where}
use Rattle.vb_guest.proofs.Closing.{honest_performed, steps_alone}
use Rattle.vb_guest.proofs.RunApart.{sizes_of, ring_of, buffer_clear, post_leaves, post_same}
use Rattle.vb_guest.specs.{Steps.StepsAlone, Stands.{Honest, Ties, IsRunning}, Replies.posted_reply}

-- ---- the lowest lent pages are as many as were asked for

length-pages_from : {A : Type 0} (first : ℕ) (test : A → Bool) (xs : List A)
    → length (pages_from first test xs) ≡ count_by test xs
length-pages_from first test [] = refl
length-pages_from first test (x ∷ xs) =
    grind (arith, length-pages_from (suc first) test xs, count_by-cons test x xs)

length-first : (n : ℕ) (xs : List ℕ) → n ≤ length xs → length (take n xs) ≡ n
length-first zero xs few = refl
length-first (suc n) [] few = absurd (omega arith)
length-first (suc n) (x ∷ xs) few = omega (arith, length-first n xs (omega arith))

length-lent : (g : Guest) {n : ℕ} → n ≤ lent_count g → length (lowest_lent n g) ≡ n
length-lent g few = grind (arith, length-first, length-pages_from)

-- ---- a request that goes out

-- what is known of a call that asks for n pages back
record IsAsking (g : Guest) (call : Call) (count : ℕ) : Type 0 where
  few : count ≤ 256
  lent : count ≤ lent_count g
  some : refusal_of g call ≡ None → g.status ≡ 15 → 0 < count
  down : (g.status ≡ 0) ⊎ (g.status ≡ 131) → refusal_of g call ≡ Some NotReady
  performs : (reply : Reply) (new : Guest) → Deflates count g reply new
      → Performs call g [] reply new

asked_back : {m1 m2 : Pages} {p1 p2 : Part} {g : Guest} (areas : FreePages)
    (sides : Sides) {d2 : DriverState} {call : Call} {count : ℕ} {posted : PostedRequest}
    → IsAsking g call count → IsDriver (driver_of g areas sides) → AsksBack m1 m2 p1 p2
    (driver_of g areas sides) d2 count posted → Honest m1 p1 (driver_of g areas sides) g
    → IsRunning m1 p1 (driver_of g areas sides) g → refusal_of g call ≡ None
    → StepsAlone (Honest m2 p2 d2) g call (Posted posted.head posted.pages)
asked_back {m1}
    {m2} {p1} {p2} {g} areas sides {d2} {call} {count} {posted} asks driver did stands run free =
    let ties = stands.ties in let pages = lowest_lent count g in
    let single = driver.deflate.requests in
    let least = least_head m1 1 p1.deflate run.deflate.ring single did.posts.lowest in
    let new : Guest = after_posting Deflating posted.head pages g in
    let reply = ap (λ (k : ℕ). Posted posted.head k) did.pages in
    let step = honest_performed g call [] (Posted posted.head posted.pages) new free
    (asks.performs (Posted posted.head posted.pages) new (posted.head, least, reply, refl)) in
    let orderly = honest_order g call [] (Posted posted.head posted.pages) new stands.consistent
    stands.orderly step ties.parts.guest.honest in
    let once = (last_sound g.deflate.posted orderly.deflating.posted).distinct in
    let length_is : length pages ≡ count = length-lent g asks.lent in
    let asked = deflate_requested g count stands.orderly once
    (omega (arith, length_is, asks.some free run.state)) (omega (arith, length_is, asks.few)) in
    let line = line_posted 1 p1.deflate g.deflate single (asked_as g run.deflate_size asked)
    run.deflate did.posts in
    let size = g.config.queue_size in let rest = did.posts.rest in
    let buffer : ℕ = buffer_page 8 posted.head in
    let small : buffer < 12 = omega (arith, did.posts.small) in
    let ring = ring_of 1 sides.deflate.ring run.deflate.ring.sized run.deflate.ring.layout
    run.deflate_size in
    let leaves = post_leaves (sizes_of run) ring
    (buffer_clear size 1 buffer (omega arith) (omega (arith, small))) rest.others in
    let still = others_posted run leaves rest.backing
    (λ ne. omega (arith, small)) (λ ne page from to. omega (arith, to)) (λ ne. absurd (ne refl)) in
    let after : DriverState = driver_of new (areas_asked pages (driver_of g areas sides))
    (record sides { deflate = d2.deflate }) in
    let sized = ap (λ (s : RequestSide). s.ring.size) did.posts.state ∙ run.deflate_size in
    let there : Ties m2 p1 after new = record {
      parts = assumption;
      pages = pages_same (post_same buffer ring (omega
          (arith, small, reserved_least size)) rest.count rest.backing rest.others) ties.pages;
      queues = inr (assumption (still.inflate refl, still.statistics refl, still.report refl));
    } in
    steps_alone stands step (subst (λ d. Ties m2 p2 d new) (sym did.state)
    (subst (λ p. Ties m2 p after new) (sym did.part) there)) refl

by_result : {m1 m2 : Pages} {p1 p2 : Part} {g : Guest} (areas : FreePages) (sides : Sides)
    {d2 : DriverState} {call : Call} {count : ℕ} (result : Result PostedRequest Refusal)
    → IsAsking g call count → IsDriver (driver_of g areas sides) → refusal_in result
    ≡ refusal_of g call → OnErr result (Unchanged m1 m2 p1 p2 (driver_of g areas sides) d2)
    → IfOk result (AsksBack m1 m2 p1 p2 (driver_of g areas sides) d2 count) → Honest m1 p1
    (driver_of g areas sides) g → StepsAlone (Honest m2 p2 d2) g call (posted_reply result)
by_result areas sides (Err why) asks driver refusal refused did stands = grind arith
by_result {g} areas sides {call} (Ok posted) asks driver refusal refused did stands =
    let run = runs_where call (refusal_of g call)
    stands.ties.queues (λ state. (asks.down state, asks.down state)) (sym refusal) in
    asked_back areas sides asks driver did stands run (sym refusal)

-- ---- as far as the target allows

deflate_idle : (d : DriverState) (p : Part) (g : Guest) (n : ℕ) → p.status ≡ g.status
    → IsIdleStatus g.status → (first_refusal (deflate_causes d p n) ≡ Some NotReady)
    × (refusal_of g (Deflate n) ≡ Some NotReady)
deflate_idle d p g n same down = grind arith

deflate_same : (g : Guest) (areas : FreePages) (sides : Sides) (p : Part) (n : ℕ) → p.status
    ≡ g.status → p.target ≡ g.target → outstanding_in sides.deflate.ring ≡ outstanding g.deflate
    → first_refusal (deflate_causes (driver_of g areas sides) p n) ≡ refusal_of g (Deflate n)
deflate_same g areas sides p n status target out = grind arith

deflate_asks : (g : Guest) (n : ℕ) → IsAsking g (Deflate n) (deflate_count g n)
deflate_asks g n = grind arith

pub deflate_step : {m1 m2 : Pages} {p1 p2 : Part} {d1 d2 : DriverState} {g : Guest}
    {n : ℕ} {result : Result PostedRequest Refusal} → DeflatesBy m1 m2 p1 p2 d1 d2 n result
    → Honest m1 p1 d1 g → StepsAlone (Honest m2 p2 d2) g (Deflate n) (posted_reply result)
deflate_step {m1} {m2} {p1} {p2} {d2} {g} {n} {result} did stands = in_words
    (λ d. DeflatesBy m1 m2 p1 p2 d d2 n result) stands did (λ areas sides here at.
    let device = here.ties.parts.device in
    let same = refused_alike (Deflate n) here.ties.queues (deflate_idle (driver_of g areas sides)
    p1 g n device.status) (λ run. deflate_same g areas sides p1 n device.status device.target
    (outstanding_are m1 1 sides.deflate.ring p1.deflate g.deflate run.deflate.ring)) in
    let A : ℕ → Type 0 = λ t. IfOk result (AsksBack m1 m2 p1 p2 (driver_of g areas sides) d2
    (driver_count (driver_of g areas sides) t n)) in
    by_result areas sides result (deflate_asks g n)
    at.driver (at.refusal ∙ same) at.refused (subst A here.ties.parts.device.target at.asks) here)

-- ---- whatever the target

oom_idle : (d : DriverState) (p : Part) (g : Guest) (n : ℕ) → p.status ≡ g.status
    → IsIdleStatus g.status
    → (first_refusal (oom_causes d p n) ≡ Some NotReady) × (refusal_of g (Oom n) ≡ Some NotReady)
oom_idle d p g n same down = grind arith

oom_same : (g : Guest) (areas : FreePages) (sides : Sides) (p : Part) (n : ℕ)
    → p.status ≡ g.status → outstanding_in sides.deflate.ring ≡ outstanding g.deflate
    → first_refusal (oom_causes (driver_of g areas sides) p n) ≡ refusal_of g (Oom n)
oom_same g areas sides p n status out = grind arith

oom_asks : (g : Guest) (n : ℕ) → IsAsking g (Oom n) (oom_count g n)
oom_asks g n = grind arith

pub oom_step : {m1 m2 : Pages} {p1 p2 : Part} {d1 d2 : DriverState} {g : Guest}
    {n : ℕ} {result : Result PostedRequest Refusal} → DeflatesOnOomBy m1 m2 p1 p2 d1 d2 n result
    → Honest m1 p1 d1 g → StepsAlone (Honest m2 p2 d2) g (Oom n) (posted_reply result)
oom_step {m1} {m2} {p1} {p2} {d2} {g} {n} {result} did stands = in_words
    (λ d. DeflatesOnOomBy m1 m2 p1 p2 d d2 n result) stands did (λ areas sides here at.
    let device = here.ties.parts.device in
    let same = refused_alike (Oom n) here.ties.queues (oom_idle (driver_of g areas sides)
    p1 g n device.status) (λ run. oom_same g areas sides p1 n device.status
    (outstanding_are m1 1 sides.deflate.ring p1.deflate g.deflate run.deflate.ring)) in
    by_result areas sides result (oom_asks g n) at.driver
    (at.refusal ∙ same) at.refused at.asks here)
