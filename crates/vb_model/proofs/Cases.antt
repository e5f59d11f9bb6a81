-- The cases of a call that isn't refused, and the pages that it names.
use Rattle.std.proofs.Common.{Bool, List, [], cond, false, inl, inr, length, refl, suc, take, true}
use Rattle.std.proofs.{Common.{zero, ℕ, ◌++◌, ◌∷◌, ◌≡◌, ◌⊎◌}, lemmas.Bool.{and_from, and_parts}}
use Rattle.std.specs.{List.list_all, Prelude.{MatchBool, MatchOption, None, Option, Some, filter}}
use Rattle.std.specs.Prelude.{nat_le, ◌&&◌}
use Rattle.vb_virtio.proofs.Tables.{is_in-append, is_in-take, list_all-at, pages_where-passes}
use Rattle.vb_virtio.specs.FirstRefusal.{Cause, first_refusal}
use Rattle.vb_virtio.specs.Queues.{Kind}
use Rattle.vb_virtio.specs.Tests.{is_in, pages_where}
use Rattle.vb_model.proofs.PageSteps.{can_be_given}
use Rattle.vb_model.specs.Device.{has_frame, visited}
use Rattle.vb_model.specs.{Driver.{AllFreePages, given, lowest_lent, stranded_first}, Guest.Guest}
use Rattle.vb_model.specs.{Guest.all_backed, Pages.{Block, blocks_below, is_aligned, is_free}}
use Rattle.vb_model.specs.Pages.{is_lent, is_maximal, is_stranded, is_whole, is_wholly_free}
use Rattle.vb_model.specs.Pages.{maximal_blocks, pages_of, pages_of_all, place_of, reported}
use Rattle.vb_model.specs.Refusals.{inflate_count, reported_blocks, room}
use Rattle.vb_model.specs.Rogue.{GuestStep, RogueStep}
use Rattle.vb_model.specs.Step.{HonestStep}
use Rattle.vb_model.specs.declared.calls.Call.{Call}
use Rattle.vb_model.specs.declared.calls.Claim.{Claim}
use Rattle.vb_model.specs.declared.places.Place.{Place, TheVariants.{Free as FreePlace, Reserved}}
use Rattle.vb_model.specs.declared.{places.Place.TheVariants.Stranded, replies.Reply.Reply}
use Rattle.vb_model.specs.declared.replies.Reply.TheVariants.{Idle, Worked}

-- ---- cases

pub match_cases : {X : Type 0} (o : Option X) (P : Type 0) (Q : X → Type 0) → MatchOption o P Q
    → ((o ≡ None) × P) ⊎ ((x : X) × (o ≡ Some x) × Q x)
match_cases None P Q h = inl (refl, h)
match_cases (Some x) P Q h = inr (x, refl, h)

-- a step is a rogue guest's or an honest one's
pub by_kind : {X : Type 0} (g : Guest) (call : Call) (claims : List Claim) (reply : Reply)
    (new : Guest) → GuestStep g call claims reply new
    → (g.rogue ≡ true → RogueStep g call claims reply new → X)
    → (g.rogue ≡ false → HonestStep g call claims reply new → X) → X
by_kind {X} g call claims reply new s rogue honest = by g.rogue rogue honest s where
  by : (b : Bool) → (b ≡ true → RogueStep g call claims reply new → X)
      → (b ≡ false → HonestStep g call claims reply new → X)
      → MatchBool b (RogueStep g call claims reply new) (HonestStep g call claims reply new) → X
  by true rogue honest s = rogue refl s
  by false rogue honest s = honest refl s

-- ---- the pages of new requests

free_given : (place : Place) → is_free place ≡ true → can_be_given place ≡ true
free_given FreePlace h = refl
free_given _ h = absurd cc

stranded_given : (place : Place) → is_stranded place ≡ true → can_be_given place ≡ true
stranded_given Stranded h = refl
stranded_given _ h = absurd cc

pub inflated_pages : (g : Guest) (n : ℕ) (others : List ℕ) (page : ℕ) → AllFreePages g others
    → is_in page (stranded_first g n ++ others) ≡ true
    → can_be_given (place_of g.places page) ≡ true
inflated_pages g n others page all k = elim (is_in-append page (stranded_first g n) others k) [
  | inl s ↦ stranded_given _ (pages_where-passes is_stranded g.places page Reserved
      (is_in-take page (inflate_count g n) (pages_where is_stranded g.places) s))
  | inr f ↦ free_given _ (list_all-at (λ p. is_free (place_of g.places p)) others page all f)
]

pub lent_pages : (g : Guest) (n page : ℕ) → is_in page (lowest_lent n g) ≡ true
    → is_lent (place_of g.places page) ≡ true
lent_pages g n page k = pages_where-passes is_lent g.places page Reserved
    (is_in-take page n (pages_where is_lent g.places) k)

pub whole_pages : (test : ℕ → Bool) (b : Block) (page : ℕ) → is_whole test b ≡ true
    → is_in page (pages_of b) ≡ true → test page ≡ true
whole_pages test b page h k = list_all-at test (pages_of b) page (and_parts (is_aligned b) _ h).1 k

pub wholly_free_pages : (places : List Place) (b : Block) (page : ℕ) → is_wholly_free places b
    ≡ true → is_in page (pages_of b) ≡ true → is_free (place_of places page) ≡ true
wholly_free_pages places b page h k = whole_pages (λ p. is_free (place_of places p)) b page h k

all_take : {A : Type 0} (test : A → Bool) (n : ℕ) (xs : List A) → list_all test xs ≡ true
    → list_all test (take n xs) ≡ true
all_take test zero xs h = refl
all_take test (suc n) [] h = refl
all_take test (suc n) (x ∷ xs) h = let parts = and_parts (test x) (list_all test xs) h in
    and_from _ _ parts.0 (all_take test n xs parts.1)

all_filter : {A : Type 0} (test keep : A → Bool) (xs : List A) → list_all test xs ≡ true
    → list_all test (filter keep xs) ≡ true
all_filter test keep [] h = refl
all_filter test keep (x ∷ xs) h =
    step (keep x) (and_parts (test x) (list_all test xs) h) (all_filter test keep xs)
  where
    step : (v : Bool) → (test x ≡ true) × (list_all test xs ≡ true)
        → (list_all test xs ≡ true → list_all test (filter keep xs) ≡ true)
        → list_all test (cond v (x ∷ filter keep xs) (filter keep xs)) ≡ true
    step true parts ih = and_from _ _ parts.0 (ih parts.1)
    step false parts ih = ih parts.1

pub all_filtered : {A : Type 0} (test : A → Bool) (xs : List A)
    → list_all test (filter test xs) ≡ true
all_filtered test [] = refl
all_filtered test (x ∷ xs) = step (test x) refl (all_filtered test xs) where
  step : (v : Bool) → test x ≡ v → list_all test (filter test xs) ≡ true
      → list_all test (cond v (x ∷ filter test xs) (filter test xs)) ≡ true
  step true e ih = and_from _ _ e ih
  step false e ih = ih

in_maximal_blocks : (test : ℕ → Bool) (bs : List Block) (page : ℕ)
    → list_all (is_maximal test) bs ≡ true → is_in page (pages_of_all bs) ≡ true → test page ≡ true
in_maximal_blocks test [] page h k = absurd cc
in_maximal_blocks test (b ∷ bs) page h k =
    let parts = and_parts (is_maximal test b) (list_all (is_maximal test) bs) h in
    elim (is_in-append page (pages_of b) (pages_of_all bs) k) [
      | inl m ↦ whole_pages test b page (and_parts (is_whole test b) _ parts.0).0 m
      | inr m ↦ in_maximal_blocks test bs page parts.1 m
    ]

-- each page of reported blocks passes the test
pub reported_pass : (test : ℕ → Bool) (n count from page : ℕ)
    → is_in page (pages_of_all (reported count from (maximal_blocks n test))) ≡ true
    → test page ≡ true
reported_pass test n count from page k = in_maximal_blocks test
    (reported count from (maximal_blocks n test)) page (all_take (is_maximal test) count
    (filter (λ b. nat_le 4 b.order && nat_le from b.start) (maximal_blocks n test))
    (all_filter (is_maximal test) (λ b. nat_le 4 b.order && nat_le from b.start)
    (maximal_blocks n test) (all_filtered (is_maximal test) (blocks_below n)))) k

pub reported_pages : (g : Guest) (from page : ℕ)
    → is_in page (pages_of_all (reported_blocks g from)) ≡ true
    → is_free (place_of g.places page) ≡ true
reported_pages g from page k =
    reported_pass (λ p. is_free (place_of g.places p)) (length g.places) (room g) from page k

-- ---- a call that isn't refused

-- none of these conditions holds
abbrev pub NoneHolds : List Cause → Type 0
NoneHolds [] = Unit {0}
NoneHolds (test ∷ ts) = (test.holds ≡ false) × NoneHolds ts

pub not_refused : (ts : List Cause) → first_refusal ts ≡ None → NoneHolds ts
not_refused [] h = tt
not_refused (test ∷ ts) h = step test.holds refl h (not_refused ts) where
  step : (v : Bool) → test.holds ≡ v → cond v (Some test.refusal) (first_refusal ts) ≡ None
      → (first_refusal ts ≡ None → NoneHolds ts) → (test.holds ≡ false) × NoneHolds ts
  step true e h ih = absurd cc
  step false e h ih = (e, ih h)

abbrev pub supplied : List ℕ → List Claim → Guest → Guest
supplied pages claims g = record g { frames = all_backed pages (given claims) g.frames }

abbrev pub Idles : Guest → Reply → Guest → Type 0
Idles g reply new = (reply ≡ Idle) × (new ≡ g)

abbrev pub Visits : Kind → Guest → Reply → Guest → ℕ → Type 0
Visits kind g reply new page =
    (reply ≡ Worked page (has_frame g page)) × (new ≡ visited kind page g)
