-- Courses in which an offered page is handed out again: what requests it back before, and what not.
use Rattle.std.proofs.Common.{List, [], ap, arith, false, map, refl, replicate, sym, true, ℕ, ◌++◌}
use Rattle.{std.proofs.Common.{◌∷◌, ◌≡◌}, vb_model.specs.Life.after_reset}
use Rattle.std.specs.Prelude.{IsTrue, None, Option, Some, length, slice_get}
use Rattle.vb_model.proofs.AskedTests.{IsAskedBack, IsSafe, Row, none_asked, none_hands_out}
use Rattle.vb_model.proofs.{AskedTests.not_posted, SafeFacts.{made, posted, request_16, used}}
use Rattle.vb_model.proofs.Samples.{NoneOf, down, page_16_at, ready, request, untold}
use Rattle.vb_model.specs.Courses.{Course, DeflatePostedAt, ReapedAt, WasAskedBack, guest_after}
use Rattle.vb_virtio.specs.Queues.{queue_of, Deflating, Inflating, Kind, Request}
use Rattle.vb_virtio.specs.declared.refusals.Refusal.TheVariants.{QueueFull}
use Rattle.vb_model.specs.{Courses.posts_deflate, Guest.{Guest, requests}, GuestRun.{Called, Entry}}
use Rattle.vb_model.specs.Requests.{Requests, no_requests}
use Rattle.vb_model.specs.declared.calls.Actor.{Actor, TheVariants.{Processor, Worker}}
use Rattle.vb_model.specs.declared.calls.Call.{Call, TheVariants.{Reap, Report, Reset, Work}}
use Rattle.vb_model.specs.declared.calls.Call.TheVariants.{Alloc, Deflate, Finish, Inflate, Oom}
use Rattle.vb_model.specs.declared.places.Place.{Place, TheVariants.{Stranded, Taking, Used}}
use Rattle.vb_model.specs.declared.places.Place.TheVariants.{Free as FreePlace, Giving, Lent}
use Rattle.vb_model.specs.declared.replies.Reply.TheVariants.{Done, Finished, Idle, NotUsed, Page}
use Rattle.vb_model.specs.declared.replies.Reply.TheVariants.{Posted, Reaped, Refused}

-- page 16 is offered by entry 0, and then come these entries; the guest is the same but for the page
-- and the requests
abbrev offering : Guest → List (Option Entry) → List Guest → Course
offering g entries guests = record {
  first = page_16_at FreePlace g;
  entries = made (Inflate 1) (Posted 0 1) ∷ entries;
  after = guests;
}

-- it is offered, and the request is used already; it is lent; it is requested back, and then that
-- request is used; it can be handed out; it is handed out
abbrev pub giving : Guest → Guest
giving g = record (page_16_at Giving g) { inflate = used request_16 }

abbrev lent : Guest → Guest
lent g = page_16_at Lent g

abbrev asked : Place → Guest → Guest
asked place g = record (page_16_at place g) { deflate = posted request_16 }

abbrev pub coming_back : Place → Guest → Guest
coming_back place g = record (page_16_at place g) { deflate = used request_16 }

abbrev pub back : Guest → Guest
back g = page_16_at FreePlace g

abbrev pub handed_out : Guest → Guest
handed_out g = page_16_at Used g

-- where the guest tells the host: lent, requested back, reaped, handed out
abbrev told_and_back : Course
told_and_back = offering ready (made (Reap 0) (Reaped 0 1) ∷ made (Deflate 1) (Posted 0 1)
    ∷ Some (Called (Worker 0) (Finish 1 0) [] (Finished 0)) ∷ made (Reap 1) (Reaped 0 1)
    ∷ made (Alloc 0 0) (Page 16) ∷ []) (giving ready ∷ lent ready
    ∷ asked Taking ready ∷ coming_back Taking ready ∷ back ready ∷ handed_out ready ∷ [])

abbrev some_own : Option Entry → Option (Option Entry)
some_own own = Some own

-- an entry reaped the used request of a page
abbrev pub reaps : (kind : Kind) (c : Course) (j : ℕ) (g : Guest) (actor : Actor)
    → slice_get c.entries j
    ≡ some_own (Some (Called actor (Reap (queue_of kind)) [] (Reaped 0 1)))
    → guest_after c j ≡ Some g → (requests kind g).done ≡ request_16 ∷ [] → ReapedAt kind c 16 j
reaps kind c j g actor entry is_there done = record {
  guest = g;
  request = request_16;
  others = [];
  called = (actor, [], entry);
  is_there = is_there;
  done = done;
  named = refl;
}

-- entry 2 posted the deflate
abbrev asks : (c : Course) (g : Guest) (place : Place) (call : Call) → IsTrue (posts_deflate call)
    → slice_get c.entries 2 ≡ some_own (made call (Posted 0 1)) → guest_after c 2 ≡ Some (lent g)
    → guest_after c 3 ≡ Some (asked place g) → g.deflate ≡ no_requests → DeflatePostedAt c 16 2
asks c g place call is_asking entry is_there follows none = record {
  before = lent g;
  after = asked place g;
  call = call;
  request = request_16;
  called = (Processor 0 0, [], entry);
  asks = is_asking;
  is_there = is_there;
  follows = follows;
  posted = ap (λ (rs : Requests). rs.posted ++ (request_16 ∷ [])) (sym none);
  named = refl;
}

told_and_asked_back : WasAskedBack told_and_back 16 0 5
told_and_asked_back = record {
  lent = 1;
  asked = 2;
  since = omega arith;
  later = omega arith;
  before = omega arith;
  inflate = reaps Inflating told_and_back 1 (giving ready) (Processor 0 0) refl refl refl;
  deflate = asks told_and_back ready Taking (Deflate 1) refl refl refl refl refl;
  told = λ tells. (
    4,
    omega arith,
    omega arith,
    reaps Deflating told_and_back 4 (coming_back Taking ready) (Processor 0 0) refl refl refl,
    refl,
    refl,
  );
}

-- where it doesn't: lent, requested back, handed out while that request is posted; by an oom too
abbrev at_once : Guest → Place → Call → Course
at_once g place call = offering g (made (Reap 0) (Reaped 0 1)
    ∷ made call (Posted 0 1) ∷ made Work Idle ∷ made (Alloc 0 0) (Page 16) ∷ [])
    (giving g ∷ lent g ∷ asked place g ∷ asked place g ∷ handed_out g ∷ [])

untold_and_asked_back : (call : Call) → IsTrue (posts_deflate call)
    → WasAskedBack (at_once untold FreePlace call) 16 0 4
untold_and_asked_back call is_asking = record {
  lent = 1;
  asked = 2;
  since = omega arith;
  later = omega arith;
  before = omega arith;
  inflate = reaps Inflating (at_once untold FreePlace call) 1 (giving untold) (Processor 0 0) refl
      refl refl;
  deflate = asks (at_once untold FreePlace call) untold FreePlace call is_asking refl refl refl
      refl;
  told = λ tells. absurd (let e : false ≡ true = tells in cc);
}

by_two_calls : IsTrue (posts_deflate (Deflate 1)) × IsTrue (posts_deflate (Oom 1))
by_two_calls = (refl, refl)

by_no_other_call : map posts_deflate
    (Inflate 1 ∷ Reap 1 ∷ Alloc 0 0 ∷ Work ∷ Finish 1 0 ∷ Report 0 ∷ []) ≡ replicate 6 false
by_no_other_call = refl

-- ---- how a page is not requested back

-- a guest that tells the host hands the page out while the request is posted still
abbrev too_early : Course
too_early = at_once ready Taking (Deflate 1)

-- by the very next entry
abbrev handed_out_next : Call → Course
handed_out_next call = offering ready
    (made (Reap 0) (Reaped 0 1) ∷ made call (Posted 0 1) ∷ made (Alloc 0 0) (Page 16) ∷ [])
    (giving ready ∷ lent ready ∷ asked Taking ready ∷ handed_out ready ∷ [])

-- or reaps it after that
abbrev reaped_behind : Course
reaped_behind = offering ready (made (Reap 0) (Reaped 0 1) ∷ made (Deflate 1) (Posted 0 1)
    ∷ made (Alloc 0 0) (Page 16) ∷ made (Reap 1) (Reaped 0 1) ∷ []) (giving ready
    ∷ lent ready ∷ coming_back Taking ready ∷ coming_back Used ready ∷ handed_out ready ∷ [])

-- or reaps another request than the one posted
abbrev reaps_another : Request → Course
reaps_another r =
    offering ready
    (made (Reap 0) (Reaped 0 1) ∷ made (Deflate 1) (Posted 0 1)
    ∷ made (Reap 1) (Reaped r.head (length r.pages)) ∷ made (Alloc 0 0) (Page 16) ∷ [])
    (giving ready ∷ lent ready
    ∷ record (asked Taking ready)
    { deflate = record { posted = request_16 ∷ []; taken = []; done = r ∷ [] } }
    ∷ asked FreePlace ready ∷ handed_out ready ∷ [])

-- or reaped one of the same head and page once the page was lent, but before this one was posted
abbrev reaped_before_posted : Course
reaped_before_posted = offering ready (made (Reap 0) (Reaped 0 1) ∷ made (Reap 1) (Reaped 0 1)
    ∷ made (Deflate 1) (Posted 0 1) ∷ made (Alloc 0 0) (Page 16) ∷ []) (giving ready
    ∷ coming_back Lent ready ∷ lent ready ∷ asked Taking ready ∷ handed_out ready ∷ [])

-- or agreed to tell the host between the reap of the inflate and the posting of the deflate
abbrev agreed_between : Course
agreed_between = offering untold
    (made (Reap 0) (Reaped 0 1) ∷ made (Deflate 1) (Posted 0 1) ∷ made (Alloc 0 0) (Page 16) ∷ [])
    (giving untold ∷ lent ready ∷ asked Taking ready ∷ handed_out ready ∷ [])

told_but_not_back : NoneOf IsAskedBack ((too_early, (0, 4)) ∷ (handed_out_next (Deflate 1), (0, 3))
    ∷ (reaped_behind, (0, 3)) ∷ (reaped_before_posted, (0, 4)) ∷ (agreed_between, (0, 3))
    -- another head, or other pages
    ∷ (reaps_another (request 1 (16 ∷ []) 0), (0, 4))
    ∷ (reaps_another (request 0 (16 ∷ 17 ∷ []) 0), (0, 4)) ∷ [])
told_but_not_back = none_asked _ refl

-- one that told the host when the inflate was reaped, and not when the deflate was posted
abbrev tells_no_longer : Course
tells_no_longer = offering ready
    (made (Reap 0) (Reaped 0 1) ∷ made (Deflate 1) (Posted 0 1) ∷ made (Alloc 0 0) (Page 16) ∷ [])
    (giving ready ∷ lent untold ∷ asked FreePlace untold ∷ handed_out untold ∷ [])

untold_when_posted : WasAskedBack tells_no_longer 16 0 3
untold_when_posted = record {
  lent = 1;
  asked = 2;
  since = omega arith;
  later = omega arith;
  before = omega arith;
  inflate = reaps Inflating tells_no_longer 1 (giving ready) (Processor 0 0) refl refl refl;
  deflate = asks tells_no_longer untold FreePlace (Deflate 1) refl refl refl refl refl;
  told = λ tells. absurd (let e : false ≡ true = tells in cc);
}

posted_by_an_inflate : DeflatePostedAt (handed_out_next (Inflate 1)) 16 2 → ⊥
posted_by_an_inflate = not_posted (handed_out_next (Inflate 1)) 16 2 refl

-- ---- and these not in a guest that doesn't tell either

-- no page is requested back
abbrev never_asked : Guest → Course
never_asked g = offering g (made (Reap 0) (Reaped 0 1) ∷ made Work Idle
    ∷ made (Alloc 0 0) (Page 16) ∷ []) (giving g ∷ lent g ∷ back g ∷ handed_out g ∷ [])

-- it is before the inflate comes back
abbrev asked_too_early : Guest → Course
asked_too_early g = offering g (made (Deflate 1) (Posted 0 1)
    ∷ made (Reap 0) (Reaped 0 1) ∷ made Work Idle ∷ made (Alloc 0 0) (Page 16) ∷ []) (giving g
    ∷ record (giving g) { deflate = posted request_16 } ∷ lent g ∷ back g ∷ handed_out g ∷ [])

whoever_it_tells : (g : Guest)
    → NoneOf IsAskedBack ((never_asked g, (0, 3)) ∷ (asked_too_early g, (0, 4)) ∷ [])
whoever_it_tells g = none_asked _ refl

-- or by these two entries, each a bit off: an inflate of some pages comes back, and then a deflate
-- is posted
abbrev by : Option Entry → List ℕ → Option Entry → Requests → Requests → Course
by reap pages post before after = offering untold (reap ∷ post ∷ made (Alloc 0 0) (Page 16) ∷ [])
    (record (giving untold) { inflate = used (request 0 pages 0) }
    ∷ record (lent untold) { deflate = before } ∷ record (back untold) { deflate = after }
    ∷ handed_out untold ∷ [])

abbrev by_reap : Option Entry → List ℕ → Row
by_reap reap pages =
    (by reap pages (made (Deflate 1) (Posted 0 1)) no_requests (posted request_16), (0, 3))

abbrev by_post : Option Entry → Requests → Requests → Row
by_post post before after =
    (by (made (Reap 0) (Reaped 0 1)) (16 ∷ []) post before after, (0, 3))

abbrev just_these : Course
just_these = (by_reap (made (Reap 0) (Reaped 0 1)) (16 ∷ [])).0

by_these_two : WasAskedBack just_these 16 0 3
by_these_two = record {
  lent = 1;
  asked = 2;
  since = omega arith;
  later = omega arith;
  before = omega arith;
  inflate = reaps Inflating just_these 1 (giving untold) (Processor 0 0) refl refl refl;
  deflate = asks just_these untold FreePlace (Deflate 1) refl refl refl refl refl;
  told = λ tells. absurd (let e : false ≡ true = tells in cc);
}

-- no inflate came back: another guest's did, a deflate or a report, nothing, or one of other pages
no_inflate_back : NoneOf IsAskedBack
    (by_reap None (16 ∷ []) ∷ by_reap (made (Reap 1) (Reaped 0 1)) (16 ∷ [])
    ∷ by_reap (made (Reap 4) (Reaped 0 1)) (16 ∷ []) ∷ by_reap (made (Reap 0) NotUsed) (16 ∷ [])
    ∷ by_reap (made (Reap 0) (Reaped 0 1)) (17 ∷ []) ∷ [])
no_inflate_back = none_asked _ refl

abbrev request_17 : Request
request_17 = request 0 (17 ∷ []) 0

abbrev behind_an_older : Requests
behind_an_older = record { posted = request_16 ∷ request 1 (17 ∷ []) 0 ∷ []; taken = []; done = [] }

-- no deflate was posted: another guest's was, an inflate was, it was refused, or it names another
-- page, with or without an older one that names this one
no_deflate_posted : NoneOf IsAskedBack (by_post None no_requests (posted request_16)
    ∷ by_post (made (Inflate 1) (Posted 0 1)) no_requests (posted request_16)
    ∷ by_post (made (Deflate 1) (Refused QueueFull)) no_requests (posted request_16)
    ∷ by_post (made (Deflate 1) (Posted 0 1)) no_requests (posted request_17)
    ∷ by_post (made (Deflate 1) (Posted 1 1)) (posted request_16) behind_an_older ∷ [])
no_deflate_posted = none_asked _ refl

-- ---- something that it would have to be requested back by came before it was offered, and not
-- after

-- page 16 is offered by entry 1, and after it comes another's event
abbrev offering_later : Option Entry → List (Option Entry) → Guest → List Guest → Course
offering_later earlier entries first guests = record {
  first = first;
  entries = earlier ∷ made (Inflate 1) (Posted 0 1) ∷ None ∷ entries;
  after = guests;
}

-- a deflate that names it came back before, and the one that is posted later doesn't
abbrev reaped_early : Course
reaped_early = offering_later (made (Reap 1) (Reaped 0 1))
    (made (Reap 0) (Reaped 0 1) ∷ made (Deflate 1) (Posted 0 1) ∷ made (Alloc 0 0) (Page 16) ∷ [])
    (coming_back Taking ready) (back ready
    ∷ giving ready ∷ giving ready ∷ lent ready ∷ asked Taking ready ∷ handed_out ready ∷ [])

reaped_before : ReapedAt Deflating reaped_early 16 0
reaped_before =
    reaps Deflating reaped_early 0 (coming_back Taking ready) (Processor 0 0) refl refl refl

-- a guest that doesn't tell the host asked it back before, and it was free when it was offered
abbrev posted_early : Course
posted_early = offering_later (made (Deflate 1) (Posted 0 1)) (made (Reap 0) (Reaped 0 1)
    ∷ made Work Idle ∷ made (Alloc 0 0) (Page 16) ∷ []) (lent untold) (asked FreePlace untold
    ∷ giving untold ∷ giving untold ∷ lent untold ∷ back untold ∷ handed_out untold ∷ [])

posted_before : DeflatePostedAt posted_early 16 0
posted_before = record {
  before = lent untold;
  after = asked FreePlace untold;
  call = Deflate 1;
  request = request_16;
  called = (Processor 0 0, [], refl);
  asks = refl;
  is_there = refl;
  follows = refl;
  posted = refl;
  named = refl;
}

-- an inflate that names it came back before, and no other does before the deflate is posted
abbrev lent_early : Course
lent_early = offering_later (made (Reap 0) (Reaped 0 1))
    (made (Deflate 1) (Posted 0 1) ∷ made (Alloc 0 0) (Page 16) ∷ []) (giving untold)
    (back untold ∷ giving untold ∷ lent untold ∷ asked FreePlace untold ∷ handed_out untold ∷ [])

lent_before : ReapedAt Inflating lent_early 16 0
lent_before = reaps Inflating lent_early 0 (giving untold) (Processor 0 0) refl refl refl

none_lent_since : NoneOf IsAskedBack ((lent_early, (1, 4)) ∷ [])
none_lent_since = none_asked _ refl

-- ---- so none of these courses is safe

-- it is handed out by the entry after the one that offered it
abbrev handed_out_at_once : Guest → Course
handed_out_at_once g = offering g (made (Alloc 0 0) (Page 16) ∷ []) (giving g ∷ handed_out g ∷ [])

-- or after a reset, with no deflate in between
abbrev over_a_reset : Course
over_a_reset = offering untold (made (Reap 0) (Reaped 0 1) ∷ made Reset Done ∷ made (Alloc 0 0)
    (Page 16) ∷ []) (giving untold ∷ lent untold ∷ page_16_at Stranded down ∷ handed_out down ∷ [])

-- the reset is one as it should be
stranded : after_reset (lent untold) ≡ page_16_at Stranded down
stranded = refl

handed_out_too_early : NoneOf IsSafe ((never_asked untold, (0, 3)) ∷ (too_early, (0, 4))
    ∷ (handed_out_at_once ready, (0, 1)) ∷ (handed_out_at_once untold, (0, 1))
    ∷ (over_a_reset, (0, 3)) ∷ (reaped_early, (1, 5)) ∷ (posted_early, (1, 5)) ∷ [])
handed_out_too_early = none_hands_out _ refl
