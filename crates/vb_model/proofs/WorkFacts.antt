-- Worked facts of the device's calls on requests: take, work, finish and sweep.
use Rattle.std.proofs.Common.{List, [], false, map, refl, replicate, subst, sym, true, ℕ, ◌++◌, ◌+◌}
use Rattle.std.specs.{List.range_with_len, Prelude.{Bool, None, Option, Some, drop}}
use Rattle.std.proofs.Common.{◌∙◌, ◌∷◌, ◌≡◌}
use Rattle.std.specs.Prelude.{slice_get}
use Rattle.vb_model.specs.Device.{Finishes, settled, used}
use Rattle.vb_model.specs.Guest.{requests}
use Rattle.vb_virtio.specs.Queues.{Deflating, Inflating, Kind, Reporting_free, Request}
use Rattle.vb_virtio.specs.Memory.{zero_page}
use Rattle.vb_virtio.specs.FirstRefusal.{first_refusal}
use Rattle.vb_virtio.specs.declared.refusals.Refusal.{Refusal}
use Rattle.vb_virtio.specs.declared.refusals.Refusal.TheVariants.{Busy, NoQueue, NotBallooned}
use Rattle.vb_virtio.specs.declared.refusals.Refusal.TheVariants.{NotReady, NotTaken, NotWorked}
use Rattle.vb_model.specs.declared.replies.Reply.{Reply}
use Rattle.vb_model.proofs.Samples.{PerformsJustSo, StepsJustSo, config, down, ready, request}
use Rattle.vb_model.proofs.Samples.{without_reporting}
use Rattle.vb_model.specs.Guest.{Guest}
use Rattle.vb_model.specs.Refusals.{causes, refusal_of}
use Rattle.vb_model.specs.Requests.{Requests}
use Rattle.vb_model.specs.declared.calls.Call.{Call, TheVariants.{Finish, Sweep, Take, Work}}
use Rattle.vb_model.specs.declared.replies.Reply.TheVariants.{Empty}
use Rattle.vb_model.specs.declared.replies.Reply.TheVariants.{Finished, Idle, Swept, Taken, Worked}

-- ---- a guest with taken requests of all kinds

-- an inflate of pages 16 and 17 with both visited, and one of 18 and 19 with 18 visited
abbrev first_inflate : Request
first_inflate = request 1 (16 ∷ 17 ∷ []) 2

abbrev second_inflate : ℕ → Request
second_inflate visited = request 3 (18 ∷ 19 ∷ []) visited

abbrev used_inflate : Request
used_inflate = request 0 (24 ∷ []) 1

abbrev inflates : ℕ → Requests
inflates visited = record {
  posted = request 2 (25 ∷ []) 0 ∷ [];
  taken = first_inflate ∷ second_inflate visited ∷ [];
  done = used_inflate ∷ [];
}

-- a report of pages 20 and 21, a deflate of 22 and 23: no page visited
abbrev report : ℕ → Request
report visited = request 0 (20 ∷ 21 ∷ []) visited

abbrev reports : ℕ → Requests
reports visited = record { posted = []; taken = report visited ∷ []; done = [] }

abbrev deflate : Request
deflate = request 5 (22 ∷ 23 ∷ []) 0

abbrev deflates : Requests
deflates = record { posted = []; taken = deflate ∷ []; done = request 6 (26 ∷ []) 0 ∷ [] }

-- the frames of pages 0 to 12 and 16 to 23
abbrev frames : List (Option ℕ) → List (Option ℕ)
frames eight = map Some (range_with_len 0 13) ++ (replicate 3 None ++ (eight ++ replicate 40 None))

abbrev all_eight : List (Option ℕ)
all_eight = Some 17 ∷ None ∷ None ∷ Some 13 ∷ Some 14 ∷ None ∷ Some 15 ∷ Some 16 ∷ []

-- what pages 16 to 23 hold; a short list represents the bytes of a page that was written
abbrev contents : List (List ℕ) → List (List ℕ)
contents eight = replicate 16 zero_page ++ (eight ++ replicate 40 zero_page)

abbrev eight_contents : List (List ℕ)
eight_contents = (17 ∷ []) ∷ zero_page ∷ zero_page ∷ (13 ∷ []) ∷ (14 ∷ []) ∷ zero_page ∷ (15 ∷ [])
    ∷ (16 ∷ []) ∷ []

-- whether pages 16 to 26 are ballooned
abbrev flags : List Bool → List Bool
flags eleven = replicate 16 false ++ (eleven ++ replicate 37 false)

abbrev eleven_flags : List Bool
eleven_flags = false ∷ false ∷ false ∷ false ∷ false ∷ false ∷ true ∷ true ∷ true ∷ false ∷ false
    ∷ []

abbrev busy : Guest
busy = record ready {
  inflate = inflates 1;
  deflate = deflates;
  report = reports 0;
  frames = frames all_eight;
  contents = contents eight_contents;
  ballooned = flags eleven_flags;
}

-- the same at once: an immediate device
abbrev at_once : Guest → Guest
at_once g = record g { config = record config { paced = false } }

-- ---- work

-- of the first taken inflate with an unvisited page that page loses its frame, and reads as zeros
-- from then on
abbrev after_19 : Guest
after_19 = record busy {
  inflate = inflates 2;
  frames = frames (Some 17 ∷ None ∷ None ∷ None ∷ Some 14 ∷ None ∷ Some 15 ∷ Some 16 ∷ []);
  contents = contents ((17 ∷ []) ∷ zero_page ∷ zero_page ∷ zero_page ∷ (14 ∷ []) ∷ zero_page
      ∷ (15 ∷ []) ∷ (16 ∷ []) ∷ []);
}

inflate_before_report : StepsJustSo busy Work [] (Worked 19 true) after_19
inflate_before_report = ((refl, (refl, refl)), λ reply new s. s.1)

-- then a report, page by page; a page without a frame is bare
abbrev after_20 : Guest
after_20 = record after_19 {
  report = reports 1;
  frames = frames (Some 17 ∷ None ∷ None ∷ None ∷ None ∷ None ∷ Some 15 ∷ Some 16 ∷ []);
  contents = contents ((17 ∷ []) ∷ zero_page ∷ zero_page ∷ zero_page ∷ zero_page ∷ zero_page
      ∷ (15 ∷ []) ∷ (16 ∷ []) ∷ []);
}

then_the_report : StepsJustSo after_19 Work [] (Worked 20 true) after_20
then_the_report = ((refl, (refl, refl)), λ reply new s. s.1)

the_last_page_is_bare : StepsJustSo after_20 Work [] (Worked 21 false)
    (record after_20 { report = reports 2 })
the_last_page_is_bare = ((refl, (refl, refl)), λ reply new s. s.1)

-- once all are visited there is nothing to do; a deflate is never visited
all_visited : StepsJustSo (record after_20 { report = reports 2 }) Work [] Idle
    (record after_20 { report = reports 2 })
all_visited = ((refl, (refl, refl)), λ reply new s. s.1)

-- of two inflates the oldest goes on, and the other one waits
abbrev two_waiting : ℕ → Guest
two_waiting visited = record ready {
  inflate = record {
    posted = [];
    taken = request 0 (16 ∷ 17 ∷ 18 ∷ []) visited ∷ request 1 (19 ∷ 20 ∷ []) 0 ∷ [];
    done = [];
  };
}

the_oldest_goes_on : StepsJustSo (two_waiting 1) Work [] (Worked 17 false) (two_waiting 2)
the_oldest_goes_on = ((refl, (refl, refl)), λ reply new s. s.1)

-- posted and used requests aren't visited
abbrev none_taken : Guest
none_taken = record ready {
  inflate =
      record { posted = request 0 (16 ∷ []) 0 ∷ []; taken = []; done = request 1 (17 ∷ []) 0 ∷ [] };
  report = record { posted = request 0 (18 ∷ []) 0 ∷ []; taken = []; done = [] };
}

only_taken_ones : StepsJustSo none_taken Work [] Idle none_taken
only_taken_ones = ((refl, (refl, refl)), λ reply new s. s.1)

-- an immediate device finds nothing to do
immediate_is_idle : StepsJustSo (at_once busy) Work [] Idle (at_once busy)
immediate_is_idle = ((refl, (refl, refl)), λ reply new s. s.1)

work_not_ready : refusal_of down Work ≡ Some NotReady
work_not_ready = refl

-- ---- finish

same_request : (a b : Request) → Some a ≡ Some b → a ≡ b
same_request a b e = cc

-- the taken request is the one of this number, and so the answer and what is left are one
pub just_finished : (kind : Kind) (i : ℕ) (g : Guest) (r : Request)
    → slice_get (requests kind g).taken i ≡ Some r → (reply : Reply) (new : Guest)
    → Finishes kind i g reply new
    → (reply ≡ Finished r.head) × (new ≡ settled kind r.pages (used kind i r g))
just_finished kind i g r there reply new f =
    let e : f.0 ≡ r = same_request f.0 r (sym f.1 ∙ there) in (
      subst (λ (x : Request). reply ≡ Finished x.head) e f.2,
      subst (λ (x : Request). new ≡ settled kind x.pages (used kind i x g)) e f.3,
    )

-- an inflate: its pages lose the frames that they still have and are ballooned; it is the last used
-- one
finished_inflate : StepsJustSo busy (Finish 0 0) [] (Finished 1) (record busy {
  inflate = record {
    posted = request 2 (25 ∷ []) 0 ∷ [];
    taken = second_inflate 1 ∷ [];
    done = used_inflate ∷ first_inflate ∷ [];
  };
  frames = frames (None ∷ None ∷ None ∷ Some 13 ∷ Some 14 ∷ None ∷ Some 15 ∷ Some 16 ∷ []);
  contents = contents (zero_page ∷ zero_page ∷ zero_page ∷ (13 ∷ []) ∷ (14 ∷ []) ∷ zero_page
      ∷ (15 ∷ []) ∷ (16 ∷ []) ∷ []);
  ballooned = flags (true ∷ true ∷ false ∷ false ∷ false ∷ false ∷ true ∷ true ∷ true ∷ false
      ∷ false ∷ []);
})
finished_inflate = (
  (refl, (first_inflate, refl, refl, refl)),
  λ reply new s. just_finished Inflating 0 busy first_inflate refl reply new s.1,
)

-- a deflate: its pages are ballooned no more and keep their frames
finished_deflate : StepsJustSo busy (Finish 1 0) [] (Finished 5) (record busy {
  deflate = record { posted = []; taken = []; done = request 6 (26 ∷ []) 0 ∷ deflate ∷ [] };
  ballooned = flags (false ∷ false ∷ false ∷ false ∷ false ∷ false ∷ false ∷ false ∷ true ∷ false
      ∷ false ∷ []);
})
finished_deflate = (
  (refl, (deflate, refl, refl, refl)),
  λ reply new s. just_finished Deflating 0 busy deflate refl reply new s.1,
)

-- a report: its pages lose their frames and aren't ballooned
finished_report : PerformsJustSo (Finish 4 0) (at_once busy) [] (Finished 0) (record (at_once busy) {
  report = record { posted = []; taken = []; done = report 0 ∷ [] };
  frames = frames (Some 17 ∷ None ∷ None ∷ Some 13 ∷ None ∷ None ∷ Some 15 ∷ Some 16 ∷ []);
  contents = contents ((17 ∷ []) ∷ zero_page ∷ zero_page ∷ (13 ∷ []) ∷ zero_page ∷ zero_page
      ∷ (15 ∷ []) ∷ (16 ∷ []) ∷ []);
})
finished_report = (
  (refl, (report 0, refl, refl, refl)),
  λ reply new s. just_finished Reporting_free 0 (at_once busy) (report 0) refl reply new s.1,
)

-- the number is that among the taken ones of the queue, the oldest first
second_by_its_number : StepsJustSo (at_once busy) (Finish 0 1) [] (Finished 3)
    (record (at_once busy) {
      inflate = record {
        posted = request 2 (25 ∷ []) 0 ∷ [];
        taken = first_inflate ∷ [];
        done = used_inflate ∷ second_inflate 1 ∷ [];
      };
      frames = frames (Some 17 ∷ None ∷ None ∷ None ∷ Some 14 ∷ None ∷ Some 15 ∷ Some 16 ∷ []);
      contents = contents ((17 ∷ []) ∷ zero_page ∷ zero_page ∷ zero_page ∷ (14 ∷ []) ∷ zero_page
          ∷ (15 ∷ []) ∷ (16 ∷ []) ∷ []);
      ballooned = flags (false ∷ false ∷ true ∷ true ∷ false ∷ false ∷ true ∷ true ∷ true ∷ false
          ∷ false ∷ []);
    })
second_by_its_number = (
  (refl, (second_inflate 1, refl, refl, refl)),
  λ reply new s. just_finished Inflating 1 (at_once busy) (second_inflate 1) refl reply new s.1,
)

abbrev behind_no_queue : Guest → Call → Option Refusal
behind_no_queue g call = first_refusal (drop 1 (causes g call))

-- a paced device has to visit each page of an inflate or a report first, but none of a deflate;
-- just taken requests of the queue itself are finished, whatever the features are
finishes : map (λ (g, call). refusal_of g call) ((busy, Finish 0 1) ∷ (after_19, Finish 0 1)
    ∷ (busy, Finish 1 0) ∷ (at_once busy, Finish 0 1) ∷ (busy, Finish 0 2) ∷ (busy, Finish 1 1)
    ∷ (down, Finish 3 0) ∷ (record busy { status = 131 }, Finish 0 1) ∷ []) ≡ Some NotWorked ∷ None
    ∷ None ∷ None ∷ Some NotTaken ∷ Some NotTaken ∷ Some NoQueue ∷ Some NotReady ∷ []
finishes = refl

finishes_of_reports : map (λ g. behind_no_queue g (Finish 4 0)) (after_20
    ∷ record after_20 { report = reports 2 } ∷ at_once busy
    ∷ record without_reporting { inflate = inflates 1 } ∷ []) ≡ Some NotWorked ∷ None ∷ None
    ∷ Some NotTaken ∷ []
finishes_of_reports = refl

-- ---- take

-- the first posted request is the last taken one, and none of its pages is visited
abbrev two_posted : Requests
two_posted = record {
  posted = request 4 (16 ∷ []) 1 ∷ request 0 (17 ∷ []) 0 ∷ [];
  taken = request 2 (18 ∷ []) 1 ∷ [];
  done = request 1 (19 ∷ []) 1 ∷ [];
}

abbrev one_posted : Requests
one_posted = record {
  posted = request 0 (17 ∷ []) 0 ∷ [];
  taken = request 2 (18 ∷ []) 1 ∷ request 4 (16 ∷ []) 0 ∷ [];
  done = request 1 (19 ∷ []) 1 ∷ [];
}

taken_inflate : StepsJustSo (record ready { inflate = two_posted }) (Take 0) [] (Taken 4)
    (record ready { inflate = one_posted })
taken_inflate = ((refl, (refl, refl)), λ reply new s. s.1)

taken_deflate : StepsJustSo (record ready { deflate = two_posted }) (Take 1) [] (Taken 4)
    (record ready { deflate = one_posted })
taken_deflate = ((refl, (refl, refl)), λ reply new s. s.1)

taken_report : PerformsJustSo (Take 4) (record ready { report = two_posted }) [] (Taken 4)
    (record ready { report = one_posted })
taken_report = ((refl, (refl, refl)), λ reply new s. s.1)

-- each queue has requests of its own kind
none_posted : StepsJustSo (record ready { deflate = two_posted; report = two_posted }) (Take 0) []
    Empty (record ready { deflate = two_posted; report = two_posted })
none_posted = ((refl, (refl, refl)), λ reply new s. s.1)

no_deflate_posted : StepsJustSo (record ready { inflate = two_posted; report = two_posted }) (Take 1)
    [] Empty (record ready { inflate = two_posted; report = two_posted })
no_deflate_posted = ((refl, (refl, refl)), λ reply new s. s.1)

no_report_posted : PerformsJustSo (Take 4) (record ready { inflate = two_posted; deflate = two_posted })
    [] Empty (record ready { inflate = two_posted; deflate = two_posted })
no_report_posted = ((refl, (refl, refl)), λ reply new s. s.1)

-- at most 16 taken ones of each queue; posted and used ones don't count
abbrev many : ℕ → Requests
many n = record two_posted
    { taken = map (λ head. request head ((16 + head) ∷ []) 0) (range_with_len 0 n) }

sixteen_taken : map (λ (g, call). behind_no_queue g call)
    ((record ready { inflate = many 16 }, Take 0)
    ∷ (record ready { deflate = many 16 }, Take 1) ∷ (record ready { report = many 16 }, Take 4)
    ∷ (record ready { inflate = many 15; deflate = many 16; report = many 16 }, Take 0)
    ∷ (record ready { inflate = many 16; deflate = many 15; report = many 16 }, Take 1)
    ∷ (record ready { inflate = many 16; deflate = many 16; report = many 15 }, Take 4) ∷ [])
    ≡ replicate 3 (Some Busy) ++ replicate 3 None
sixteen_taken = refl

-- queue 4 isn't there without REPORTING, once the guest is ready
take_without_reporting : behind_no_queue (record without_reporting { report = many 16 }) (Take 4)
    ∷ behind_no_queue (record down { report = many 16 }) (Take 4) ∷ [] ≡ Some NoQueue
    ∷ Some NotReady ∷ []
take_without_reporting = refl

-- ---- sweep

-- a ballooned page loses its frame and stays ballooned
swept_freed : StepsJustSo busy (Sweep 23) [] (Swept true) (record busy {
  frames = frames (Some 17 ∷ None ∷ None ∷ Some 13 ∷ Some 14 ∷ None ∷ Some 15 ∷ None ∷ []);
  contents = contents ((17 ∷ []) ∷ zero_page ∷ zero_page ∷ (13 ∷ []) ∷ (14 ∷ []) ∷ zero_page
      ∷ (15 ∷ []) ∷ zero_page ∷ []);
})
swept_freed = ((refl, (refl, refl)), λ reply new s. s.1)

swept_bare : StepsJustSo busy (Sweep 24) [] (Swept false) busy
swept_bare = ((refl, (refl, refl)), λ reply new s. s.1)

not_swept : refusal_of (record busy { status = 0 }) (Sweep 19)
    ∷ map (refusal_of busy) (Sweep 19 ∷ Sweep 64 ∷ []) ≡ Some NotReady
    ∷ replicate 2 (Some NotBallooned)
not_swept = refl
