-- Worked facts of guests that haven't agreed to tell the host, beside those of guests that have.
use Rattle.std.proofs.Common.{List, [], ap, arith, false, map, refl, replicate, sym, true, ℕ, ◌++◌}
use Rattle.vb_virtio.specs.Status.{feature_refusal, status_refusal}
use Rattle.vb_virtio.specs.Queues.{Deflating, Request}
use Rattle.vb_virtio.specs.Memory.{zero_page}
use Rattle.vb_virtio.specs.declared.refusals.Refusal.TheVariants.{NoPages, VersionMissing}
use Rattle.std.proofs.Common.{◌∙◌, ◌∷◌, ◌≡◌}
use Rattle.vb_model.specs.Life.{after_reset}
use Rattle.{std.specs.List.range_with_len, vb_model.specs.{Driver.contents_of, Refusals.refusal_of}}
use Rattle.{std.specs.Prelude.{Bool, None, Some, drop}, vb_model.specs.GuestRun.{Called, Leads}}
use Rattle.vb_model.proofs.{PostingFacts.{just_posted}, WorkFacts.{just_finished}}
use Rattle.vb_model.specs.Requests.{BufferPosted, IsLeastHead, Requests}
use Rattle.vb_model.proofs.Samples.{PerformsJustSo, StepsJustSo, down, mixed_places, ready, request}
use Rattle.vb_model.proofs.Samples.{untold}
use Rattle.vb_model.specs.Guest.{Guest, frame_of, is_ballooned, is_ready, tells_host}
use Rattle.vb_model.specs.Pages.{block_at, place_of}
use Rattle.vb_model.specs.Requests.{no_requests}
use Rattle.vb_model.specs.Requests.{given_away}
use Rattle.vb_model.specs.{Step.{HonestStep}, declared.calls.Claim.TheVariants.Gave}
use Rattle.vb_model.specs.declared.calls.Call.{Call, TheVariants.{Oom, Reap, Reset, Take, Write}}
use Rattle.vb_model.specs.declared.{calls.Actor.TheVariants.{Processor, Worker}, places.Place.Place}
use Rattle.vb_model.specs.declared.calls.Call.TheVariants.{Alloc, Deflate, Finish, Inflate, Init}
use Rattle.vb_model.specs.declared.places.Place.TheVariants.{Free as FreePlace, Giving, Lent, Used}
use Rattle.vb_model.specs.declared.places.Place.TheVariants.{Reporting, Reserved, Stranded, Taking}
use Rattle.vb_model.specs.declared.replies.Reply.TheVariants.{Done, Finished, Page, Posted, Ready}
use Rattle.vb_model.specs.declared.replies.Reply.TheVariants.{Reaped, Refused, Taken}

abbrev Same : ℕ → ℕ → Type 0
Same a b = a ≡ b

-- ---- such a guest: all that is offered but MUST_TELL_HOST

features_accepted : map feature_refusal (0x100000026 ∷ 0x26 ∷ []) ≡ None ∷ Some VersionMissing ∷ []
features_accepted = refl

status_accepted : status_refusal 3 0x100000026 11 ∷ status_refusal 11 0x100000026 15
    ∷ status_refusal 3 0x26 11 ∷ [] ≡ None ∷ None ∷ Some VersionMissing ∷ []
status_accepted = refl

-- started so, where pages 0 to 12 have frames
abbrev with_frames : Guest
with_frames = record down { frames = map Some (range_with_len 20 13) ++ replicate 51 None }

started : StepsJustSo with_frames (Init 0x100000026) [] Ready (record with_frames {
  status = 15;
  features = 0x100000026;
  buffer = BufferPosted (record { free = 196608; total = 262144 });
})
started = ((refl, (refl, refl)), λ reply new s. s.1)

refused_at_the_start : (new : Guest)
    → HonestStep with_frames (Init 0x100000026) [] (Refused VersionMissing) new → ⊥
refused_at_the_start new s = let e : Refused VersionMissing ≡ Ready = s.1.0 in cc

just_one_tells : map is_ready (untold ∷ ready ∷ []) ++ map tells_host (untold ∷ ready ∷ []) ≡ true
    ∷ true ∷ false ∷ true ∷ []
just_one_tells = refl

-- just that feature is asked
told_by_bit_0 : map (λ features. tells_host (record ready { features = features }))
    (0 ∷ 1 ∷ 2 ∷ 0x26 ∷ 0x27 ∷ 0x100000000 ∷ 0x100000001 ∷ []) ≡ false ∷ true ∷ false ∷ false ∷ true
    ∷ false ∷ true ∷ []
told_by_bit_0 = refl

-- ---- pages are requested back: pages 16 to 18 are lent, and 16 and 17 are above the target

abbrev pub places : Place → Place → Place → List Place
places of_16 of_17 of_18 = replicate 16 Reserved ++ (of_16 ∷ of_17 ∷ of_18 ∷ replicate 45 FreePlace)

abbrev flags : Bool → Bool → List Bool
flags of_16_and_17 of_18 =
    replicate 16 false ++ (of_16_and_17 ∷ of_16_and_17 ∷ of_18 ∷ replicate 45 false)

abbrev pub three_lent : Guest → Guest
three_lent g =
    record g { places = places Lent Lent Lent; ballooned = flags true true; actual = 3; target = 1 }

abbrev pub both : Request
both = request 0 (16 ∷ 17 ∷ []) 0

abbrev pub posted : Request → Requests
posted r = record { posted = r ∷ []; taken = []; done = [] }

abbrev taken : Request → Requests
taken r = record { posted = []; taken = r ∷ []; done = [] }

abbrev done : Request → Requests
done r = record { posted = []; taken = []; done = r ∷ [] }

abbrev pub asked : Place → Guest → Guest
asked place g = record (three_lent g) { places = places place place Lent; deflate = posted both }

pub no_head_out : IsLeastHead no_requests 0
no_head_out = record { new = refl; least = λ h l. absurd (omega arith) }

-- they are free at once; flags and `actual` stay
free_at_once : StepsJustSo (three_lent untold) (Deflate 2) [] (Posted 0 2) (asked FreePlace untold)
free_at_once = (
  (refl, (0, no_head_out, refl, refl)),
  λ reply new s. just_posted Deflating (16 ∷ 17 ∷ []) 2 (three_lent untold) 0 no_head_out reply
      new s.1,
)

-- a guest that tells the host waits
taking_where_it_tells : StepsJustSo (three_lent ready) (Deflate 2) [] (Posted 0 2)
    (asked Taking ready)
taking_where_it_tells = (
  (refl, (0, no_head_out, refl, refl)),
  λ reply new s. just_posted Deflating (16 ∷ 17 ∷ []) 2 (three_lent ready) 0 no_head_out reply
      new s.1,
)

-- of an oom alike, whatever the target is
free_at_once_when_short : StepsJustSo (record (three_lent untold) { target = 40 }) (Oom 2) []
    (Posted 0 2) (record (asked FreePlace untold) { target = 40 })
free_at_once_when_short = (
  (refl, (0, no_head_out, refl, refl)),
  λ reply new s. just_posted Deflating (16 ∷ 17 ∷ []) 2 (record (three_lent untold) { target = 40 }) 0 no_head_out reply
      new s.1,
)

taking_when_short : StepsJustSo (record (three_lent ready) { target = 40 }) (Oom 2) [] (Posted 0 2)
    (record (asked Taking ready) { target = 40 })
taking_when_short = (
  (refl, (0, no_head_out, refl, refl)),
  λ reply new s. just_posted Deflating (16 ∷ 17 ∷ []) 2 (record (three_lent ready) { target = 40 }) 0 no_head_out reply
      new s.1,
)

-- they are at no other place after either call, and not free where the guest tells the host
abbrev NotAt : Guest → Place → Call → Type 0
NotAt g place call = (new : Guest) → HonestStep (three_lent g) call [] (Posted 0 2) new
    → place_of new.places 16 ≡ place → ⊥

abbrev NotAfterEither : Guest → Place → Type 0
NotAfterEither g place = NotAt g place (Deflate 2) × NotAt g place (Oom 2)

at_no_other_place : NotAfterEither untold Taking × NotAfterEither untold Lent
    × NotAfterEither untold Used × NotAfterEither ready FreePlace
at_no_other_place = grind arith

-- they are ballooned still, and counted
flag_cleared_too_early : (new : Guest)
    → HonestStep (three_lent untold) (Deflate 2) [] (Posted 0 2) new
    → is_ballooned new.ballooned 16 ≡ false → ⊥
flag_cleared_too_early new s e = cc

lowered_too_early : (new : Guest) → HonestStep (three_lent untold) (Deflate 2) [] (Posted 0 2) new
    → new.actual ≡ 1 → ⊥
lowered_too_early new s e =
    let q : Same 1 3 = sym e ∙ ap (λ (g : Guest). g.actual) s.1.3 in omega arith

counted_in_each_stage : map (λ rs. given_away (places FreePlace Used Lent) rs)
    (posted both ∷ taken both ∷ done both ∷ no_requests ∷ []) ≡ 3 ∷ 3 ∷ 3 ∷ 1 ∷ []
counted_in_each_stage = refl

-- where the guest tells the host these are the lent and the taking pages: 4 and 5. A page counts by
-- what names it, and not by its place
lent_and_taking : map (given_away mixed_places) (posted (request 0 (range_with_len 46 5) 0)
    ∷ no_requests ∷ []) ≡ 9 ∷ 4 ∷ []
lent_and_taking = refl

-- ---- such pages can be handed out at once, as one block too

abbrev in_use : Bool → Requests → Guest
in_use flag rs = record (three_lent untold) {
  places = places Used FreePlace Lent;
  held = block_at 16 0 ∷ [];
  ballooned = flags flag true;
  deflate = rs;
}

handed_out : HonestStep (asked FreePlace untold) (Alloc 0 0) [] (Page 16)
    (in_use true (posted both))
handed_out = (refl, (16, refl, refl, refl))

both_handed_out : HonestStep (asked FreePlace untold) (Alloc 0 1) [] (Page 16)
    (record (asked FreePlace untold) { places = places Used Used Lent; held = block_at 16 1 ∷ [] })
both_handed_out = (refl, (16, refl, refl, refl))

-- a taking page can't
not_handed_out_yet : (new : Guest) → HonestStep (asked Taking ready) (Alloc 0 0) [] (Page 16) new
    → ⊥
not_handed_out_yet new s = grind arith

-- where no other page is free
abbrev just_these : Place → Guest → Guest
just_these place g =
    record (asked place g) { places = replicate 16 Reserved ++ (place ∷ place ∷ replicate 46 Used) }

first_pages : map (λ g. refusal_of g (Alloc 0 0))
    (just_these FreePlace untold ∷ just_these Taking ready ∷ just_these Lent untold ∷ []) ≡ None
    ∷ Some NoPages ∷ Some NoPages ∷ []
first_pages = refl

-- written to, such a page gets a frame while it is ballooned
written_at_once : StepsJustSo (in_use true (posted both)) (Write 16 0 (7 ∷ [])) (Gave 5 ∷ []) Done
    (record (in_use true (posted both)) {
      frames = replicate 16 None ++ (Some 5 ∷ replicate 47 None);
      contents = replicate 16 zero_page ++ ((7 ∷ drop 1 zero_page) ∷ replicate 47 zero_page);
    })
written_at_once = ((refl, (refl, refl)), λ reply new s. s.1)

abbrev pub each_stage : List Requests
each_stage = posted both ∷ taken both ∷ done both ∷ no_requests ∷ []

-- ---- a reaped deflate moves no page: page 16 is used by then, and page 17 is free

reap_moves_nothing : StepsJustSo (in_use false (done both)) (Reap 1) [] (Reaped 0 2)
    (record (in_use false no_requests) { actual = 1 })
reap_moves_nothing = ((refl, (refl, refl)), λ reply new s. s.1)

freed_by_a_reap : (new : Guest) → HonestStep (in_use false (done both)) (Reap 1) [] (Reaped 0 2) new
    → place_of new.places 16 ≡ FreePlace → ⊥
freed_by_a_reap new s e = cc

counted_too_long : (new : Guest)
    → HonestStep (in_use false (done both)) (Reap 1) [] (Reaped 0 2) new → new.actual ≡ 3 → ⊥
counted_too_long new s e =
    let q : Same 3 1 = sym e ∙ ap (λ (g : Guest). g.actual) s.1.1 in omega arith

-- another one that is outstanding counts still
abbrev two_out : List Request → Requests
two_out rs = record { posted = request 1 (19 ∷ []) 0 ∷ []; taken = []; done = rs }

one_of_two_reaped : StepsJustSo (record (in_use false (two_out (both ∷ []))) { actual = 4 }) (Reap 1)
    [] (Reaped 0 2) (record (in_use false (two_out [])) { actual = 2 })
one_of_two_reaped = ((refl, (refl, refl)), λ reply new s. s.1)

-- where the guest tells the host they are free from then on
free_once_reaped : StepsJustSo
    (record (asked Taking ready) { ballooned = flags false true; deflate = done both }) (Reap 1) []
    (Reaped 0 2)
    (record (asked FreePlace ready)
    { ballooned = flags false true; deflate = no_requests; actual = 1 })
free_once_reaped = ((refl, (refl, refl)), λ reply new s. s.1)

taking_still : (new : Guest) → HonestStep (record (asked Taking ready) { deflate = done both })
    (Reap 1) [] (Reaped 0 2) new → place_of new.places 16 ≡ Taking → ⊥
taking_still new s e = cc

-- a reaped inflate's pages are lent as in other guests, and a reaped report's are free
lent_once_reaped : StepsJustSo (record untold {
  places = places Giving Giving Used;
  ballooned = flags true false;
  inflate = done both;
}) (Reap 0) [] (Reaped 0 2)
    (record untold { places = places Lent Lent Used; ballooned = flags true false; actual = 2 })
lent_once_reaped = ((refl, (refl, refl)), λ reply new s. s.1)

reported_once_reaped : PerformsJustSo (Reap 4)
    (record untold { places = places Reporting Reporting Used; report = done both }) []
    (Reaped 0 2) (record untold { places = places FreePlace FreePlace Used })
reported_once_reaped = ((refl, (refl, refl)), λ reply new s. s.1)

-- ---- a finished deflate leaves frames and bytes alone, and its pages are ballooned no more

abbrev pub framed : Bool → Requests → Guest
framed flag rs = record (in_use flag rs) {
  frames = replicate 16 None ++ (Some 5 ∷ Some 6 ∷ replicate 46 None);
  contents = replicate 16 zero_page ++ ((7 ∷ []) ∷ (8 ∷ []) ∷ replicate 46 zero_page);
}

taken_first : StepsJustSo (framed true (posted both)) (Take 1) [] (Taken 0)
    (framed true (taken both))
taken_first = ((refl, (refl, refl)), λ reply new s. s.1)

finished : StepsJustSo (framed true (taken both)) (Finish 1 0) [] (Finished 0)
    (framed false (done both))
finished = (
  (refl, (both, refl, refl, refl)),
  λ reply new s. just_finished Deflating 0 (framed true (taken both)) both refl reply new s.1,
)

abbrev FinishedSo : Guest → Type 0
FinishedSo new = HonestStep (framed true (taken both)) (Finish 1 0) [] (Finished 0) new

not_finished_so : (new : Guest) → FinishedSo new → (frame_of new.frames 16 ≡ None → ⊥)
    × (contents_of new 16 ≡ [] → ⊥) × (is_ballooned new.ballooned 16 ≡ true → ⊥)
not_finished_so new s = grind arith

-- all the way: requested back, handed out, taken, used, reaped
all_the_way : Leads (three_lent untold) (Some (Called (Processor 0 0) (Deflate 2) [] (Posted 0 2))
    ∷ Some (Called (Processor 0 0) (Alloc 0 0) [] (Page 16))
    ∷ Some (Called (Worker 0) (Take 1) [] (Taken 0))
    ∷ Some (Called (Worker 0) (Finish 1 0) [] (Finished 0))
    ∷ Some (Called (Processor 0 0) (Reap 1) [] (Reaped 0 2)) ∷ [])
    (asked FreePlace untold ∷ in_use true (posted both) ∷ in_use true (taken both)
    ∷ in_use false (done both) ∷ record (in_use false no_requests) { actual = 1 } ∷ [])
all_the_way = (
  (refl, free_at_once.0),
  (
    (refl, handed_out),
    (
      (refl, (refl, (refl, refl))),
      ((refl, (refl, (both, refl, refl, refl))), ((refl, reap_moves_nothing.0), tt)),
    ),
  ),
)

-- ---- a reset leaves pages of an outstanding deflate where they are, and strands lent and offered
-- ones

abbrev before_a_reset : Requests → Guest
before_a_reset rs = record (framed true rs) {
  places = replicate 16 Reserved ++ (Used ∷ FreePlace ∷ Lent ∷ Giving ∷ replicate 44 FreePlace);
  inflate = posted (request 0 (19 ∷ []) 0);
}

abbrev after_it : Guest
after_it = record (framed true no_requests) {
  places = replicate 16 Reserved
      ++ (Used ∷ FreePlace ∷ Stranded ∷ Stranded ∷ replicate 44 FreePlace);
  ballooned = replicate 64 false;
  status = 0;
  features = 0;
  actual = 0;
}

reset : StepsJustSo (before_a_reset (posted both)) Reset [] Done after_it
reset = ((refl, (refl, refl)), λ reply new s. s.1)

reset_in_each_stage : map (λ rs. after_reset (before_a_reset rs)) each_stage ≡ replicate 4 after_it
reset_in_each_stage = refl

abbrev NotAfterReset : ℕ → Place → Type 0
NotAfterReset page place = (new : Guest) → HonestStep
    (before_a_reset (posted both)) Reset [] Done new → place_of new.places page ≡ place → ⊥

pages_after_a_reset : NotAfterReset 16 Stranded × NotAfterReset 17 Stranded
    × NotAfterReset 18 FreePlace
pages_after_a_reset = (λ new s e. cc, λ new s e. cc, λ new s e. cc)

-- where the guest tells the host its taking pages are stranded
taking_pages_stranded : map (place_of (after_reset (asked Taking ready)).places)
    (16 ∷ 17 ∷ 18 ∷ 19 ∷ []) ≡ replicate 3 Stranded ++ (FreePlace ∷ [])
taking_pages_stranded = refl

-- then no deflate is outstanding: once it is ready again, its stranded pages are offered
offered_anew : refusal_of (record after_it { status = 15; features = 0x100000026 }) (Inflate 2)
    ≡ None
offered_anew = refl
