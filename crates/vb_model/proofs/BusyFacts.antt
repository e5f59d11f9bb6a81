-- What is promised of a guest is promised of each: of any size, of either pace, at any status, with
-- any features, while requests of all kinds are at all stages. One course for each promise that
-- breaks it.
use Rattle.std.proofs.Common.{List, [], arith, false, inl, inr, refl, replicate, suc, true, zero, ℕ}
use Rattle.std.{proofs.Common.{◌++◌, ◌<◌, ◌∷◌, ◌≡◌, ◌⊎◌}, specs.Prelude.{IsTrue, None, Option}}
use Rattle.std.specs.Prelude.{Some}
use Rattle.vb_model.proofs.{AskedFacts.{back, giving, handed_out}, AskedTests.IsSafe}
use Rattle.vb_model.proofs.{AskedTests.none_hands_out, SafeFacts.{SameFrame, goes, made, stands}}
use Rattle.vb_model.{proofs.Samples.{NoneOf, request}, specs.Courses.{Course, ReadsGiveLastWrites}}
use Rattle.vb_model.specs.{Courses.{StaysHeld, StaysOrLoses}, Guest.{Guest, fresh}}
use Rattle.vb_model.specs.{Histories.{BothAgree, IsSafeCourse}, Requests.Requests}
use Rattle.vb_model.specs.declared.calls.{Actor.TheVariants.Processor, Call.TheVariants.Alloc}
use Rattle.vb_model.specs.declared.calls.Call.TheVariants.{Inflate, Read, Reap, Sweep, Take, Work}
use Rattle.vb_model.specs.declared.places.Place.TheVariants.{Free as FreePlace, Reserved, Used}
use Rattle.vb_virtio.specs.declared.refusals.Refusal.TheVariants.{Broken, RingBroken}
use Rattle.vb_model.specs.declared.replies.Reply.TheVariants.{Idle, Page, Posted, ReadBytes}
use Rattle.vb_model.specs.declared.replies.Reply.TheVariants.{Refused, Swept}

abbrev Same : ℕ → ℕ → Type 0
Same a b = a ≡ b

abbrev SameBytes : List ℕ → List ℕ → Type 0
SameBytes a b = a ≡ b

-- a request of each stage, for three pages from this one on
abbrev each_from : ℕ → Requests
each_from page = record {
  posted = request 0 (page ∷ []) 0 ∷ [];
  taken = request 1 (suc page ∷ []) 0 ∷ [];
  done = request 2 (suc (suc page) ∷ []) 1 ∷ [];
}

-- page 32 is used; pages 40 to 42 are on their way to the host, 50 to 52 on their way back, and 60 to
-- 62 are reported
abbrev busy : ℕ → ℕ → Guest
busy status features =
    record (fresh (record { pages = 80; queue_size = 256; processors = 4; paced = false }) 3) {
      status = status;
      features = features;
      places = replicate 32 Reserved ++ (Used ∷ replicate 47 FreePlace);
      inflate = each_from 40;
      deflate = each_from 50;
      report = each_from 60;
    }

-- its used page has this frame and these bytes
abbrev with_page : Option ℕ → List ℕ → Guest → Guest
with_page frame bytes g = record g
    { frames = replicate 32 None ++ (frame ∷ []); contents = replicate 32 [] ++ (bytes ∷ []) }

-- ---- features

without_version : IsSafeCourse (stands (busy 15 0x27)) → ⊥
without_version s = let e : false ≡ true = (s.agreed 0 (busy 15 0x27) refl refl).1 in cc

without_version_untold : IsSafeCourse (stands (busy 15 0x26)) → ⊥
without_version_untold s = let e : false ≡ true = (s.agreed 0 (busy 15 0x26) refl refl).1 in cc

-- ---- frames and bytes

frame_lost : (status features : ℕ)
    → IsSafeCourse (goes (with_page (Some 5) [] (busy status features)) (Sweep 32) (Swept true)
    (with_page None [] (busy status features))) → ⊥
frame_lost status features s = let e : SameFrame None (Some 5) =
    s.keeps_frame 0 32 5 (with_page (Some 5) [] (busy status features))
    (with_page None [] (busy status features)) refl refl refl refl refl in cc

bytes_changed : (status features : ℕ)
    → IsSafeCourse (goes (with_page (Some 5) (1 ∷ []) (busy status features)) Work Idle
    (with_page (Some 5) (2 ∷ []) (busy status features))) → ⊥
bytes_changed status features s = by
    (s.keeps_contents 0 32 (with_page (Some 5) (1 ∷ []) (busy status features))
    (with_page (Some 5) (2 ∷ []) (busy status features)) refl refl (λ e. cc) (λ own. cc))
  where
    by : StaysOrLoses 32 (with_page (Some 5) (1 ∷ []) (busy status features))
        (with_page (Some 5) (2 ∷ []) (busy status features)) → ⊥
    by (inl same) = let e : SameBytes (2 ∷ []) (1 ∷ []) = same in cc
    by (inr lost) = let e : SameFrame (Some 5) None = lost.1 in cc

-- a read gives another byte than the page has
abbrev misread : ℕ → ℕ → Course
misread status features = goes (with_page (Some 5) (1 ∷ []) (busy status features))
    (Read 32 0 1) (ReadBytes (2 ∷ [])) (with_page (Some 5) (1 ∷ []) (busy status features))

another_byte : (status features : ℕ) → IsSafeCourse (misread status features) → ⊥
another_byte status features s =
    let e : SameBytes (2 ∷ []) (1 ∷ []) = (s.reads 0 32 0 1 (2 ∷ [])
    (with_page (Some 5) (1 ∷ []) (busy status features)) refl (Processor 0 0, [], refl)).1 in cc

held : (status features : ℕ) → StaysHeld (misread status features) 32 0 0
held status features zero le = (with_page (Some 5) (1 ∷ []) (busy status features), refl, refl)
held status features (suc j) le = absurd (omega arith)

another_byte_by_law : (status features : ℕ) → ReadsGiveLastWrites (misread status features) → ⊥
another_byte_by_law status features s =
    let e : Same 2 1 = (s 32 0 0 0 1 (2 ∷ []) (with_page (Some 5) (1 ∷ []) (busy status features))
    (held status features) refl (Processor 0 0, [], refl)).1 0 (omega arith) in omega (arith, e)

-- ---- ballooned pages

-- none of them is, and then all are
abbrev flagged : ℕ → ℕ → Guest
flagged status features = record (busy status features) { ballooned = replicate 80 true }

unflagged_agree : (status features : ℕ) → IsSafeCourse (stands (busy status features))
    → BothAgree (busy status features)
unflagged_agree status features s = s.both_agree 0 (busy status features) refl

flagged_agree : (status features : ℕ) → IsSafeCourse (stands (flagged status features))
    → BothAgree (flagged status features)
flagged_agree status features s = s.both_agree 0 (flagged status features) refl

-- those of a posted or taken deflate and of a used inflate should be
of_a_posted_deflate : (status features : ℕ) → IsSafeCourse (stands (busy status features)) → ⊥
of_a_posted_deflate status features s = grind (arith, unflagged_agree status features s 50)

of_a_taken_deflate : (status features : ℕ) → IsSafeCourse (stands (busy status features)) → ⊥
of_a_taken_deflate status features s = grind (arith, unflagged_agree status features s 51)

of_a_used_inflate : (status features : ℕ) → IsSafeCourse (stands (busy status features)) → ⊥
of_a_used_inflate status features s =
    let e : false ≡ true = (unflagged_agree status features s 42).1 (inr (inl (omega arith))) in cc

-- no other should be: of an inflate that isn't used yet, of a used deflate, of a report, free
none : IsTrue false ⊎ (0 < 0 ⊎ (0 < 0 ⊎ 0 < 0)) → ⊥
none h = grind arith

of_a_posted_inflate : (status features : ℕ) → IsSafeCourse (stands (flagged status features)) → ⊥
of_a_posted_inflate status features s = none ((flagged_agree status features s 40).0 refl)

of_a_taken_inflate : (status features : ℕ) → IsSafeCourse (stands (flagged status features)) → ⊥
of_a_taken_inflate status features s = none ((flagged_agree status features s 41).0 refl)

of_a_used_deflate : (status features : ℕ) → IsSafeCourse (stands (flagged status features)) → ⊥
of_a_used_deflate status features s = none ((flagged_agree status features s 52).0 refl)

of_a_report : (status features : ℕ) → IsSafeCourse (stands (flagged status features)) → ⊥
of_a_report status features s = none ((flagged_agree status features s 62).0 refl)

a_free_page : (status features : ℕ) → IsSafeCourse (stands (flagged status features)) → ⊥
a_free_page status features s = none ((flagged_agree status features s 34).0 refl)

-- ---- three pages are named by deflates, and none is counted

not_counted : (status features : ℕ) → IsSafeCourse (stands (busy status features)) → ⊥
not_counted status features s =
    let e : Same 0 3 = s.actual 0 (busy status features) refl in omega (arith, e)

-- ---- faults

broken_chain : (status features : ℕ) → IsSafeCourse
    (goes (busy status features) (Take 0) (Refused (Broken 3)) (busy status features)) → ⊥
broken_chain status features s =
    (s.not_broken 0 3 (Take 0) (Refused (Broken 3)) (Processor 0 0, [], refl)).0 refl

broken_ring : (status features : ℕ) → IsSafeCourse
    (goes (busy status features) (Reap 4) (Refused RingBroken) (busy status features)) → ⊥
broken_ring status features s =
    (s.not_broken 0 0 (Reap 4) (Refused RingBroken) (Processor 0 0, [], refl)).1 refl

-- ---- a page that is handed out by the call after the one that offered it, of any guest at all

abbrev at_once : Guest → Course
at_once g = record {
  first = back g;
  entries = made (Inflate 1) (Posted 0 1) ∷ made (Alloc 0 0) (Page 16) ∷ [];
  after = giving g ∷ handed_out g ∷ [];
}

handed_out_at_once : (g : Guest) → NoneOf IsSafe ((at_once g, (0, 1)) ∷ [])
handed_out_at_once g = none_hands_out _ refl
