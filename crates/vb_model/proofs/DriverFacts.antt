-- Worked facts of the driver's inflates, deflates and reaps.
use Rattle.std.proofs.Common.{List, [], ap, arith, false, length, map, refl, replicate, subst, true}
use Rattle.std.{proofs.Common.{ℕ, ◌++◌, ◌+◌, ◌∷◌, ◌≡◌}, specs.Prelude.{None, Option, Some}}
use Rattle.vb_model.proofs.PostingFacts.{just_posted}
use Rattle.vb_virtio.specs.Queues.{Deflating, Request}
use Rattle.vb_virtio.specs.declared.refusals.Refusal.{Refusal}
use Rattle.vb_virtio.specs.declared.refusals.Refusal.TheVariants.{NoFeature, NoQueue, NotReady}
use Rattle.vb_virtio.specs.declared.refusals.Refusal.TheVariants.{Nothing, QueueFull}
use Rattle.vb_model.proofs.Samples.{StepsJustSo, config, down, ready, request, without_oom}
use Rattle.vb_model.specs.{Driver.AllFreePages, Guest.Guest, Refusals.deflate_count}
use Rattle.vb_model.specs.Refusals.{inflate_count, oom_count, refusal_of, room}
use Rattle.vb_model.specs.Requests.{IsLeastHead, Requests, no_requests}
use Rattle.vb_model.specs.Step.{HonestStep}
use Rattle.vb_model.specs.declared.calls.Call.{Call, TheVariants.{Deflate, Inflate, Oom, Reap}}
use Rattle.vb_model.specs.declared.places.Place.{Place, TheVariants.{Free, Giving, Lent, Reporting}}
use Rattle.vb_model.specs.declared.places.Place.TheVariants.{Reserved, Stranded, Taking}
use Rattle.vb_model.specs.declared.replies.Reply.TheVariants.{NotUsed, Posted, Reaped}

-- ---- how many pages are moved

-- n lent, giving, stranded and free pages, and a target
abbrev counts : ℕ → ℕ → ℕ → ℕ → ℕ → Guest
counts lent giving stranded free target = record ready {
  places = replicate 16 Reserved ++ (replicate lent Lent ++ (replicate giving Giving
      ++ (replicate stranded Stranded ++ (replicate free Free ++ (Taking ∷ Reporting ∷ [])))));
  target = target;
}

-- an inflate: what is asked for, what the target lacks, what there is, and stranded pages whatever
-- the target is
inflates_up_to_the_target : map (inflate_count (counts 3 2 0 10 9)) (0 ∷ 1 ∷ 3 ∷ 4 ∷ 5 ∷ 300 ∷ [])
    ++ map (λ g. inflate_count g 300) (counts 3 2 0 10 5 ∷ counts 3 2 0 10 4 ∷ counts 3 2 6 10 9
    ∷ counts 3 2 6 10 0 ∷ counts 3 2 3 10 9 ∷ counts 3 2 1 10 40 ∷ []) ≡ 0 ∷ 1 ∷ 3 ∷ 4 ∷ 4 ∷ 4 ∷ 0
    ∷ 0 ∷ 6 ∷ 6 ∷ 4 ∷ 11 ∷ []
inflates_up_to_the_target = refl

-- a deflate: what is asked for, what the target allows, what is lent
deflates_down_to_the_target : map (deflate_count (counts 5 2 6 10 4)) (0 ∷ 2 ∷ 3 ∷ 4 ∷ 300 ∷ [])
    ++ map (λ g. deflate_count g 300)
    (counts 5 2 6 10 0 ∷ counts 5 2 6 10 7 ∷ counts 5 2 6 10 9 ∷ [])
    ≡ 0 ∷ 2 ∷ 3 ∷ 3 ∷ 3 ∷ 5 ∷ 0 ∷ 0 ∷ []
deflates_down_to_the_target = refl

-- of an oom: what is lent, whatever the target is
oom_whatever_the_target : map (oom_count (counts 5 2 6 10 40)) (0 ∷ 2 ∷ 5 ∷ 300 ∷ []) ≡ 0 ∷ 2 ∷ 5
    ∷ 5 ∷ []
oom_whatever_the_target = refl

-- at most 256 pages in a request
at_most_256 : inflate_count (counts 0 0 0 300 300) 300 ∷ inflate_count (counts 0 0 300 0 0) 300
    ∷ deflate_count (counts 300 0 0 0 0) 300 ∷ oom_count (counts 300 0 0 0 0) 300 ∷ [] ≡ 256 ∷ 256
    ∷ 256 ∷ 256 ∷ []
at_most_256 = refl

-- ---- heads: the least that no request of the kind has, in whatever stage

no_head_out : IsLeastHead no_requests 0
no_head_out = record { new = refl; least = λ h l. absurd (omega arith) }

abbrev heads : ℕ → ℕ → ℕ → Requests
heads a b c =
    record { posted = request a [] 0 ∷ []; taken = request b [] 0 ∷ []; done = request c [] 0 ∷ [] }

third_head : IsLeastHead (heads 0 2 1) 3
third_head = grind arith

head_between : IsLeastHead (heads 3 0 2) 1
head_between = grind arith

-- ---- inflate: stranded pages first, lowest first, then any free ones

abbrev at_places : List Place → Guest
at_places places = record ready
    { places = replicate 16 Reserved ++ (places ++ replicate 40 Free); target = 4 }

abbrev two_stranded : Guest
two_stranded = record (at_places
    (Free ∷ Lent ∷ Free ∷ Free ∷ Stranded ∷ Stranded ∷ Free ∷ Free ∷ [])) { inflate = heads 0 2 1 }

abbrev first : List ℕ → ℕ
first [] = 0
first (page ∷ pages) = page

abbrev Same : ℕ → ℕ → Type 0
Same a b = a ≡ b

abbrev pages_of_second : List Request → List ℕ
pages_of_second (r ∷ s ∷ rs) = s.pages
pages_of_second _ = []

abbrev with_last : Requests → Request → Requests
with_last rs r = record rs { posted = rs.posted ++ (r ∷ []) }

offered : HonestStep two_stranded (Inflate 3) [] (Posted 3 3)
    (record (at_places (Free ∷ Lent ∷ Free ∷ Giving ∷ Giving ∷ Giving ∷ Free ∷ Free ∷ []))
    { inflate = with_last (heads 0 2 1) (request 3 (20 ∷ 21 ∷ 19 ∷ []) 0) })
offered = (refl, (19 ∷ [], refl, (refl, tt), refl, (3, third_head, refl, refl)))

-- any free page will do
offered_another : HonestStep two_stranded (Inflate 3) [] (Posted 3 3)
    (record (at_places (Free ∷ Lent ∷ Free ∷ Free ∷ Giving ∷ Giving ∷ Free ∷ Giving ∷ []))
    { inflate = with_last (heads 0 2 1) (request 3 (20 ∷ 21 ∷ 23 ∷ []) 0) })
offered_another = (refl, (23 ∷ [], refl, (refl, tt), refl, (3, third_head, refl, refl)))

-- as far as the target goes, whatever is asked for
offered_up_to_the_target : HonestStep two_stranded (Inflate 300) [] (Posted 3 3)
    (record (at_places (Free ∷ Lent ∷ Free ∷ Giving ∷ Giving ∷ Giving ∷ Free ∷ Free ∷ []))
    { inflate = with_last (heads 0 2 1) (request 3 (20 ∷ 21 ∷ 19 ∷ []) 0) })
offered_up_to_the_target = (refl, (19 ∷ [], refl, (refl, tt), refl, (3, third_head, refl, refl)))

-- but no other number of pages than is told, no page twice, and free ones alone
abbrev Offers : List ℕ → Type 0
Offers pages = (new : Guest) → HonestStep two_stranded (Inflate 3) [] (Posted 3 3) new
    → new.inflate ≡ with_last (heads 0 2 1) (request 3 pages 0) → ⊥

-- the pages of the new request, which comes after one other
abbrev newest : Guest → List ℕ
newest g = pages_of_second g.inflate.posted

-- the pages after the two stranded ones
others_are : (others : List ℕ) (new : Guest)
    (s : HonestStep two_stranded (Inflate 3) [] (Posted 3 3) new)
    → new.inflate ≡ with_last (heads 0 2 1) (request 3 (20 ∷ 21 ∷ others) 0) → s.1.0 ≡ others
others_are others new s e = grind arith

one_page_too_few : Offers (20 ∷ 21 ∷ [])
one_page_too_few new s e = let same : s.1.0 ≡ [] = others_are [] new s e in
    let n : 2 + length s.1.0 ≡ 3 = s.1.3 in absurd (omega (arith, ap length same))

one_page_too_many : Offers (20 ∷ 21 ∷ 19 ∷ 22 ∷ [])
one_page_too_many new s e = let same : s.1.0 ≡ 19 ∷ 22 ∷ [] = others_are (19 ∷ 22 ∷ []) new s e in
    let n : 2 + length s.1.0 ≡ 3 = s.1.3 in absurd (omega (arith, ap length same))

a_lent_page : Offers (20 ∷ 21 ∷ 17 ∷ [])
a_lent_page new s e = let t : false ≡ true =
    subst (AllFreePages two_stranded) (others_are (17 ∷ []) new s e) s.1.1 in cc

free_pages_first : Offers (18 ∷ 20 ∷ 21 ∷ [])
free_pages_first new s e = grind arith

fewest_pages_first : HonestStep two_stranded (Inflate 1) [] (Posted 3 1)
    (record (at_places (Free ∷ Lent ∷ Free ∷ Free ∷ Giving ∷ Stranded ∷ Free ∷ Free ∷ []))
    { inflate = with_last (heads 0 2 1) (request 3 (20 ∷ []) 0) })
fewest_pages_first = (refl, ([], refl, tt, refl, (3, third_head, refl, refl)))

-- ---- deflate: the lowest lent pages

abbrev four_lent : Guest
four_lent = record (at_places (Taking ∷ Lent ∷ Lent ∷ Giving ∷ Free ∷ Lent ∷ Lent ∷ Free ∷ []))
    { deflate = heads 3 0 2; target = 2 }

asked_back : StepsJustSo four_lent (Deflate 3) [] (Posted 1 3)
    (record (at_places (Taking ∷ Taking ∷ Taking ∷ Giving ∷ Free ∷ Taking ∷ Lent ∷ Free ∷ []))
    { deflate = with_last (heads 3 0 2) (request 1 (17 ∷ 18 ∷ 21 ∷ []) 0); target = 2 })
asked_back = (
  (refl, (1, head_between, refl, refl)),
  λ reply new s. just_posted Deflating (17 ∷ 18 ∷ 21 ∷ []) 3 four_lent 1 head_between reply new s.1,
)

-- as far as the target allows
asked_back_to_the_target : StepsJustSo (record four_lent { target = 3 }) (Deflate 300) []
    (Posted 1 2) (record (at_places
    (Taking ∷ Taking ∷ Taking ∷ Giving ∷ Free ∷ Lent ∷ Lent ∷ Free ∷ []))
    { deflate = with_last (heads 3 0 2) (request 1 (17 ∷ 18 ∷ []) 0); target = 3 })
asked_back_to_the_target = (
  (refl, (1, head_between, refl, refl)),
  λ reply new s. just_posted Deflating (17 ∷ 18 ∷ []) 2 (record four_lent { target = 3 }) 1 head_between reply
      new s.1,
)

-- and for allocation failures beyond it
asked_back_for_want_of_memory : StepsJustSo (record four_lent { target = 40 }) (Oom 1) []
    (Posted 1 1) (record (at_places
    (Taking ∷ Taking ∷ Lent ∷ Giving ∷ Free ∷ Lent ∷ Lent ∷ Free ∷ []))
    { deflate = with_last (heads 3 0 2) (request 1 (17 ∷ []) 0); target = 40 })
asked_back_for_want_of_memory = (
  (refl, (1, head_between, refl, refl)),
  λ reply new s. just_posted Deflating (17 ∷ []) 1 (record four_lent { target = 40 }) 1 head_between reply new
      s.1,
)

-- ---- refusals, in order

-- at queue size 2 two requests of a kind may be outstanding, in whatever stage
abbrev narrow : Guest → Guest
narrow g = record g { config = record config { queue_size = 2 } }

abbrev two_out : Requests
two_out = record { posted = []; taken = request 0 [] 0 ∷ []; done = request 1 [] 0 ∷ [] }

abbrev refusals : Call → List Guest → List (Option Refusal)
refusals call gs = map (λ g. refusal_of (narrow g) call) gs

inflate_refusals : refusals (Inflate 0) (record down { inflate = two_out }
    ∷ record ready { inflate = two_out } ∷ record ready { deflate = two_out; report = two_out }
    ∷ []) ≡ Some NotReady ∷ Some QueueFull ∷ Some Nothing ∷ []
inflate_refusals = refl

deflate_refusals : refusals (Deflate 0) (record down { deflate = two_out }
    ∷ record ready { deflate = two_out } ∷ record ready { inflate = two_out; report = two_out }
    ∷ []) ≡ Some NotReady ∷ Some QueueFull ∷ Some Nothing ∷ []
deflate_refusals = refl

oom_refusals : refusals (Oom 0) (record down { deflate = two_out }
    ∷ record without_oom { deflate = two_out } ∷ record ready { deflate = two_out }
    ∷ record ready { inflate = two_out; report = two_out } ∷ [])
    ≡ Some NotReady ∷ Some NoFeature ∷ Some QueueFull ∷ Some Nothing ∷ []
oom_refusals = refl

-- just the feature of its own, and none for the other two
features_needed : refusal_of (record four_lent { features = 4 }) (Oom 1)
    ∷ refusal_of (record four_lent { features = 0; target = 0 }) (Deflate 1)
    ∷ refusal_of (record two_stranded { features = 0 }) (Inflate 1) ∷ [] ≡ None ∷ None ∷ None ∷ []
features_needed = refl

-- min(queue size, 16) requests
rooms : map (λ queue_size. room
    (record ready { config = record config { queue_size = queue_size } }))
    (2 ∷ 8 ∷ 16 ∷ 32 ∷ 128 ∷ []) ≡ 2 ∷ 8 ∷ 16 ∷ 16 ∷ 16 ∷ []
rooms = refl

-- ---- reap: the first used request; its pages move on, and `actual` counts lent pages and those
-- that deflates name

abbrev two_used : List ℕ → List ℕ → Requests
two_used first second = record {
  posted = request 3 (24 ∷ []) 0 ∷ [];
  taken = request 4 (25 ∷ []) 0 ∷ [];
  done = request 2 first 1 ∷ request 0 second 0 ∷ [];
}

abbrev one_used : List ℕ → Requests
one_used second = record {
  posted = request 3 (24 ∷ []) 0 ∷ [];
  taken = request 4 (25 ∷ []) 0 ∷ [];
  done = request 0 second 0 ∷ [];
}

-- eight pages, pages 24 and 25 at one place, and then free ones
abbrev reaping : List Place → Place → ℕ → Guest
reaping places next_two actual = record ready {
  places = replicate 16 Reserved ++ (places ++ (next_two ∷ next_two ∷ replicate 38 Free));
  target = 4;
  actual = actual;
}

-- deflates name pages 20 and 21, which are taking
abbrev deflates : Requests
deflates =
    record { posted = []; taken = request 1 (21 ∷ []) 0 ∷ []; done = request 0 (20 ∷ []) 0 ∷ [] }

reaped_inflate : StepsJustSo
    (record (reaping (Giving ∷ Giving ∷ Giving ∷ Lent ∷ Taking ∷ Taking ∷ Free ∷ Stranded ∷ [])
    Giving 3) { inflate = two_used (16 ∷ 18 ∷ []) (17 ∷ []); deflate = deflates }) (Reap 0) []
    (Reaped 2 2)
    (record (reaping (Lent ∷ Giving ∷ Lent ∷ Lent ∷ Taking ∷ Taking ∷ Free ∷ Stranded ∷ [])
    Giving 5) { inflate = one_used (17 ∷ []); deflate = deflates })
reaped_inflate = ((refl, (refl, refl)), λ reply new s. s.1)

-- inflates name pages 16 to 18, which are giving
abbrev inflates : Requests
inflates = record { posted = request 0 (16 ∷ 17 ∷ 18 ∷ []) 0 ∷ []; taken = []; done = [] }

reaped_deflate : StepsJustSo
    (record (reaping (Giving ∷ Giving ∷ Giving ∷ Lent ∷ Taking ∷ Taking ∷ Free ∷ Stranded ∷ [])
    Taking 5) { inflate = inflates; deflate = two_used (20 ∷ []) (21 ∷ []) }) (Reap 1) []
    (Reaped 2 1)
    (record (reaping (Giving ∷ Giving ∷ Giving ∷ Lent ∷ Free ∷ Taking ∷ Free ∷ Stranded ∷ [])
    Taking 4) { inflate = inflates; deflate = one_used (21 ∷ []) })
reaped_deflate = ((refl, (refl, refl)), λ reply new s. s.1)

-- nothing is used: nothing changes
abbrev none_used : Guest
none_used = record (reaping (Taking ∷ Taking ∷ Lent ∷ replicate 5 Free) Free 7) {
  inflate = heads 0 2 1;
  deflate =
      record { posted = request 0 (16 ∷ []) 0 ∷ []; taken = request 1 (17 ∷ []) 0 ∷ []; done = [] };
}

not_used : StepsJustSo none_used (Reap 1) [] NotUsed none_used
not_used = ((refl, (refl, refl)), λ reply new s. s.1)

reap_refusals : map (λ queue. refusal_of down (Reap queue)) (0 ∷ 1 ∷ 2 ∷ 3 ∷ 5 ∷ [])
    ≡ replicate 2 (Some NotReady) ++ replicate 3 (Some NoQueue)
reap_refusals = refl
