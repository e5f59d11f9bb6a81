-- Worked facts of the rules of a guest that tells the host: what it is refused for, that pages
-- which it requests back are taking, and what a reap leaves.
use Rattle.std.proofs.Common.{List, [], ap, arith, false, map, refl, replicate, true, ℕ, ◌++◌, ◌∷◌}
use Rattle.std.{proofs.Common.{◌≡◌}, specs.Prelude.{None, Option, Some}}
use Rattle.vb_virtio.proofs.Differ.{differ}
use Rattle.vb_virtio.specs.FirstRefusal.{first_refusal}
use Rattle.vb_virtio.specs.Queues.{Deflating, Inflating, Reporting_free, Request}
use Rattle.vb_virtio.specs.declared.refusals.Refusal.{Refusal}
use Rattle.vb_virtio.specs.declared.refusals.Refusal.TheVariants.{NeedsReset, NotBallooned}
use Rattle.vb_virtio.specs.declared.refusals.Refusal.TheVariants.{NotReady, Nothing, QueueFull}
use Rattle.vb_model.proofs.Samples.{config, ready, request}
use Rattle.vb_model.proofs.PostingFacts.{head_of, count_of}
use Rattle.vb_model.proofs.UntoldFacts.{asked, both, no_head_out, three_lent}
use Rattle.vb_model.specs.Guest.{Guest}
use Rattle.vb_model.specs.Requests.{Requests}
use Rattle.vb_model.specs.Telling.{ToldStep, is_lent_or_taking, told_causes, told_place}
use Rattle.vb_model.specs.declared.calls.Call.{Call, TheVariants.{Deflate, Inflate, Oom, Reap}}
use Rattle.vb_model.specs.declared.calls.Call.TheVariants.{SetTarget, Sweep}
use Rattle.vb_model.specs.declared.calls.Claim.{Claim, TheVariants.{Gave}}
use Rattle.vb_model.specs.declared.places.Place.{Place, TheVariants.{Free, Giving, Lent, Reporting}}
use Rattle.vb_model.specs.declared.places.Place.TheVariants.{Reserved, Stranded, Taking, Used}
use Rattle.vb_model.specs.declared.replies.Reply.{Reply, TheVariants.{Done, NotUsed, Posted, Reaped}}
use Rattle.vb_model.specs.declared.replies.Reply.TheVariants.{Refused}

-- ---- refusals of an inflate and of a sweep, in order

abbrev told_refusal : Guest → Call → Option Refusal
told_refusal g call = first_refusal (told_causes g call)

-- two requests are as many as a queue of two has
abbrev two : List ℕ → Requests
two pages = record { posted = request 0 pages 0 ∷ []; taken = request 1 [] 0 ∷ []; done = [] }

abbrev narrow : Guest
narrow = record ready { config = record config { queue_size = 2 }; inflate = two []; target = 9 }

told_refusals_of_inflates : map (λ g. told_refusal g (Inflate 1)) (record narrow { status = 0 }
    ∷ record narrow { status = 131 } ∷ narrow ∷ record ready { inflate = two []; target = 0 }
    ∷ record ready { deflate = two []; target = 1 } ∷ []) ≡ Some NotReady ∷ Some NotReady
    ∷ Some QueueFull ∷ Some Nothing ∷ None ∷ []
told_refusals_of_inflates = refl

abbrev swept : Guest
swept = record ready { ballooned = replicate 16 false ++ (true ∷ []); deflate = two (16 ∷ []) }

told_refusals_of_sweeps : map (λ g. told_refusal g (Sweep 16)) (record swept { status = 0 }
    ∷ record swept { status = 79 } ∷ record swept { ballooned = [] } ∷ swept ∷ [])
    ≡ Some NotReady ∷ Some NeedsReset ∷ Some NotBallooned ∷ None ∷ []
told_refusals_of_sweeps = refl

-- refused, it stays as it was, and claims nothing
refused_so : (claims : List Claim) (reply : Reply) (new : Guest)
    → ToldStep narrow (Inflate 1) claims reply new
    → (claims ≡ []) × (reply ≡ Refused QueueFull) × (new ≡ narrow)
refused_so claims reply new s = s

-- ---- pages that are requested back are taking

abbrev for_want : Guest → Guest
for_want g = record g { target = 40 }

asked_back : ToldStep (three_lent ready) (Deflate 2) [] (Posted 0 2) (asked Taking ready)
    × ToldStep (for_want (three_lent ready)) (Oom 2) [] (Posted 0 2) (for_want (asked Taking ready))
asked_back = ((refl, (0, no_head_out, refl, refl)), (refl, (0, no_head_out, refl, refl)))

-- and no step does anything else: another state, head or number of pages, or with a claim
just_asked_back : (new : Guest)
    → (ToldStep (three_lent ready) (Deflate 2) [] (Posted 0 2) new → new ≡ asked Taking ready)
    × (ToldStep (for_want (three_lent ready)) (Oom 2) [] (Posted 0 2) new
    → new ≡ for_want (asked Taking ready))
just_asked_back new = grind arith

abbrev AsksNot : List Claim → Reply → Type 0
AsksNot claims reply = (new : Guest)
    → (ToldStep (three_lent ready) (Deflate 2) claims reply new → ⊥)
    × (ToldStep (for_want (three_lent ready)) (Oom 2) claims reply new → ⊥)

not_asked_so : AsksNot [] (Posted 1 2) × AsksNot [] (Posted 0 3) × AsksNot (Gave 3 ∷ []) (Posted 0 2)
not_asked_so = (
  (λ new. (
    λ s. omega (arith, s.1.1.least 0 (omega (arith, ap head_of s.1.2))),
    λ s. omega (arith, s.1.1.least 0 (omega (arith, ap head_of s.1.2))),
  )),
  (λ new. (
    λ s. differ 3 2 refl (ap count_of s.1.2),
    λ s. differ 3 2 refl (ap count_of s.1.2),
  )),
  (λ new. (
    λ s. (let e : Gave 3 ∷ [] ≡ [] = s.0 in cc),
    λ s. (let e : Gave 3 ∷ [] ≡ [] = s.0 in cc),
  )),
)

-- ---- a reap: pages of an inflate are lent, those of others free; `actual` is the number of lent
-- and taking pages

abbrev done : Request → Requests
done r = record { posted = []; taken = []; done = r ∷ [] }

-- another deflate, which names page 19, is out still
abbrev two_deflates : List Request → Requests
two_deflates used = record { posted = request 1 (19 ∷ []) 0 ∷ []; taken = []; done = used }

abbrev with_19 : Place → Place → Guest
with_19 of_16_and_17 of_18 = record (three_lent ready) {
  places = replicate 16 Reserved ++ (of_16_and_17 ∷ of_16_and_17 ∷ of_18 ∷ Taking ∷ []);
}

abbrev JustReaps : ℕ → Guest → Reply → Guest → Type 0
JustReaps queue g answer after = (reply : Reply) (new : Guest) → ToldStep g (Reap queue) [] reply new
    → (reply ≡ answer) × (new ≡ after)

reaps_so : JustReaps 1 (record (with_19 Taking Lent) { deflate = two_deflates (both ∷ []) })
    (Reaped 0 2) (record (with_19 Free Lent) { deflate = two_deflates []; actual = 2 })
    × JustReaps 0 (record (with_19 Giving Taking) { inflate = done both }) (Reaped 0 2)
    (record (with_19 Lent Taking) { actual = 4 })
    × JustReaps 4 (record (with_19 Reporting Lent) { report = done both }) (Reaped 0 2)
    (record (with_19 Free Lent) { actual = 2 })
    × JustReaps 1 (asked Taking ready) NotUsed (asked Taking ready)
reaps_so = (
  λ reply new s. (s.1.0, s.1.1),
  λ reply new s. (s.1.0, s.1.1),
  λ reply new s. (s.1.0, s.1.1),
  λ reply new s. (s.1.0, s.1.1),
)

reaped_so : ToldStep (record (with_19 Taking Lent) { deflate = two_deflates (both ∷ []) }) (Reap 1) []
    (Reaped 0 2) (record (with_19 Free Lent) { deflate = two_deflates []; actual = 2 })
    × ToldStep (asked Taking ready) (Reap 1) [] NotUsed (asked Taking ready)
reaped_so = ((refl, (refl, refl)), (refl, (refl, refl)))

no_claim_for_a_reap : (reply : Reply) (new : Guest)
    → ToldStep (asked Taking ready) (Reap 1) (Gave 3 ∷ []) reply new → ⊥
no_claim_for_a_reap reply new s = let e : Gave 3 ∷ [] ≡ [] = s.0 in cc

places_of_kinds : map told_place (Inflating ∷ Deflating ∷ Reporting_free ∷ []) ≡ Lent ∷ Free ∷ Free
    ∷ []
places_of_kinds = refl

places_that_count : map is_lent_or_taking (Lent ∷ Taking ∷ Free ∷ Used ∷ Giving ∷ Stranded
    ∷ Reporting ∷ Reserved ∷ []) ≡ true ∷ true ∷ replicate 6 false
places_that_count = refl

-- ---- all else is unchanged

target_set : (reply : Reply) (new : Guest) → ToldStep ready (SetTarget 5) [] reply new
    → (reply ≡ Done) × (new ≡ record ready { target = 5 })
target_set reply new s = (s.1.0, s.1.1)
