-- Whether a course asks a page back, as a test that computes, so that courses that don't are rows.
use Rattle.std.proofs.Common.{List, [], ap, arith, cond, false, refl, sym, true, ℕ, ◌++◌, ◌<◌, ◌∙◌}
use Rattle.std.proofs.{Common.{◌∷◌, ◌≡◌}, lemmas.Bool.{and_from, and_parts, eq-eqb, ltb-true}}
use Rattle.std.{proofs.lemmas.Bool.{or_left, or_right}, specs.List.{list_all, list_any}}
use Rattle.std.specs.{List.range_with_len, Prelude.{Bool, IsTrue, None, Option, Some, drop, length}}
use Rattle.std.specs.Prelude.{is_some, nat_lt, not, slice_get, ◌&&◌, ◌+◌, ◌-◌, ◌==◌, ◌||◌}
use Rattle.vb_model.{proofs.{Blocks.any_in_range, Samples.{NoneOf, none_of}}, specs.Courses.Course}
use Rattle.vb_model.specs.Courses.{BringsTo, DeflatePostedAt, ReapedAt, WasAskedBack, guest_after}
use Rattle.vb_model.specs.{Courses.posts_deflate, Guest.{Guest, requests, tells_host}}
use Rattle.vb_model.specs.{GuestRun.{Called, Entry}, Histories.IsSafeCourse, Pages.is_place}
use Rattle.vb_virtio.specs.Queues.{Deflating, Inflating, Kind, Request, queue_of}
use Rattle.vb_virtio.specs.Tests.{is_in}
use Rattle.vb_model.specs.Pages.{place_of}
use Rattle.vb_model.specs.declared.calls.Call.TheVariants.{Reap}
use Rattle.vb_model.specs.declared.places.Place.{Place}
use Rattle.vb_model.specs.declared.places.Place.TheVariants.{Giving, Used}
use Rattle.vb_model.specs.declared.replies.Reply.TheVariants.{Posted, Reaped}

-- the request, where the answer is this one and it names the page
abbrev named_one : ℕ → (head count : ℕ) → List Request → Option Request
named_one page head count [] = None
named_one page head count (r ∷ rest) =
    cond ((r.head == head) && ((length r.pages == count) && is_in page r.pages)) (Some r) None

-- the used request of the kind that an entry reaped from this guest
abbrev reaped_by : Kind → ℕ → Option (Option Entry) → Option Guest → Option Request
reaped_by kind page (Some (Some (Called actor (Reap q) claims (Reaped head count)))) (Some g) =
    cond (q == queue_of kind) (named_one page head count (requests kind g).done) None
reaped_by kind page _ _ = None

abbrev pub reaped_at : Kind → Course → ℕ → ℕ → Option Request
reaped_at kind c page j = reaped_by kind page (slice_get c.entries j) (guest_after c j)

-- the deflate request that an entry posted between these guests
abbrev posted_by : ℕ → Option (Option Entry) → Option Guest → Option Guest → Option Request
posted_by page (Some (Some (Called actor call claims (Posted head count)))) (Some g) (Some new) =
    cond (posts_deflate call) (named_one page head count
    (drop (length g.deflate.posted) new.deflate.posted)) None
posted_by page _ _ _ = None

abbrev pub posted_at : Course → ℕ → ℕ → Option Request
posted_at c page j =
    posted_by page (slice_get c.entries j) (guest_after c j) (guest_after c (j + 1))

abbrev is_same : List ℕ → List ℕ → Bool
is_same [] [] = true
is_same (x ∷ xs) (y ∷ ys) = (x == y) && is_same xs ys
is_same _ _ = false

abbrev is_request : Option Request → Request → Bool
is_request None r = false
is_request (Some x) r = (x.head == r.head) && is_same x.pages r.pages

-- the numbers between two
abbrev between : ℕ → ℕ → List ℕ
between i k = range_with_len (i + 1) (k - (i + 1))

abbrev tells : Option Guest → Bool
tells None = false
tells (Some g) = tells_host g

-- a guest that tells the host reaps the posted request
abbrev comes_back : Course → (page asked k : ℕ) → Option Request → Bool
comes_back c page asked k None = false
comes_back c page asked k (Some r) = not (tells (guest_after c asked))
    || list_any (λ j. is_request (reaped_at Deflating c page j) r) (between asked k)

abbrev pub asked_back : Course → (page i k : ℕ) → Bool
asked_back c page i k = list_any (λ lent. is_some (reaped_at Inflating c page lent) && list_any
    (λ asked. comes_back c page asked k (posted_at c page asked)) (between lent k)) (between i k)

-- ---- what was requested back passes the test

same_list : (xs : List ℕ) → is_same xs xs ≡ true
same_list [] = refl
same_list (x ∷ xs) = and_from _ _ (eq-eqb x x refl) (same_list xs)

named_is : (page : ℕ) (r : Request) (rest : List Request) → is_in page r.pages ≡ true
    → named_one page r.head (length r.pages) (r ∷ rest) ≡ Some r
named_is page r rest named = ap (λ (b : Bool). cond b (Some r) none) (and_from _ _
    (eq-eqb r.head r.head refl) (and_from _ _ (eq-eqb (length r.pages) _ refl) named))
  where
    none : Option Request
    none = None

pub reaped_is : (kind : Kind) (c : Course) (page j : ℕ) (r : ReapedAt kind c page j)
    → reaped_at kind c page j ≡ Some r.request
reaped_is kind c page j r = grind (arith, named_is)

new_one : (xs : List Request) (r : Request) → drop (length xs) (xs ++ (r ∷ [])) ≡ r ∷ []
new_one [] r = refl
new_one (x ∷ xs) r = new_one xs r

pub posted_is : (c : Course) (page j : ℕ) (p : DeflatePostedAt c page j)
    → posted_at c page j ≡ Some p.request
posted_is c page j p = grind (arith, named_is, new_one)

any_between : (test : ℕ → Bool) (i j k : ℕ) → i < j → j < k → test j ≡ true
    → list_any test (between i k) ≡ true
any_between test i j k a b h =
    any_in_range test j (i + 1) (k - (i + 1)) (omega arith) (omega arith) h

-- where the guest told the host, the request came back
back_by : (c : Course) (page asked k : ℕ) (p : DeflatePostedAt c page asked)
    → (IsTrue (tells_host p.before) → (j : ℕ) × (asked < j) × (j < k)
    × (reap : ReapedAt Deflating c page j) × (reap.request.head ≡ p.request.head)
    × (reap.request.pages ≡ p.request.pages))
    → comes_back c page asked k (posted_at c page asked) ≡ true
back_by c page asked k p told = ap (comes_back c page asked k) (posted_is c page asked p)
    ∙ by (tells_host p.before) refl
  where
    by : (b : Bool) → tells_host p.before ≡ b → comes_back c page asked k (Some p.request) ≡ true
    by false e = or_left _ _ (ap (λ (g : Option Guest). not (tells g)) p.is_there ∙ ap not e)
    by true e = let r = told e in or_right _ _ (any_between
        (λ j. is_request (reaped_at Deflating c page j) p.request) asked r.0 k r.1 r.2
        (ap (λ (x : Option Request). is_request x p.request) (reaped_is Deflating c page r.0 r.3)
        ∙ and_from _ _ (eq-eqb _ _ r.4)
        (ap (λ (xs : List ℕ). is_same xs p.request.pages) r.5 ∙ same_list p.request.pages)))

back_is_told : (c : Course) (page i k : ℕ) → WasAskedBack c page i k
    → asked_back c page i k ≡ true
back_is_told c page i k a = any_between _ i a.lent k a.since (omega (arith, a.later, a.before))
    (and_from _ _
    (ap (λ (x : Option Request). is_some x) (reaped_is Inflating c page a.lent a.inflate))
    (any_between _ a.lent a.asked k a.later a.before
    (back_by c page a.asked k a.deflate a.told)))

-- ---- rows

-- a course, and two of its entries
abbrev pub Row : Type 0
Row = Course × (ℕ × ℕ)

abbrev pub IsSafe : Row → Type 0
IsSafe (c, (i, k)) = IsSafeCourse c

abbrev pub IsAskedBack : Row → Type 0
IsAskedBack (c, (i, k)) = WasAskedBack c 16 i k

pub none_asked : (rows : List Row)
    → list_all (λ (r : Row). not (asked_back r.0 16 r.1.0 r.1.1)) rows ≡ true
    → NoneOf IsAskedBack rows
none_asked rows h = none_of IsAskedBack _
    (λ r e a. (let t = back_is_told r.0 16 r.1.0 r.1.1 a in cc)) rows h

pub not_reaped : (kind : Kind) (c : Course) (page j : ℕ) → reaped_at kind c page j ≡ None
    → ReapedAt kind c page j → ⊥
not_reaped kind c page j e r = let bad = sym e ∙ reaped_is kind c page j r in cc

pub not_posted : (c : Course) (page j : ℕ) → posted_at c page j ≡ None
    → DeflatePostedAt c page j → ⊥
not_posted c page j e p = let bad = sym e ∙ posted_is c page j p in cc

-- ---- a page is offered by one entry and handed out by another

abbrev brings_by : Place → Option Guest → Option Guest → Bool
brings_by place (Some g) (Some new) =
    not (is_place place (place_of g.places 16)) && is_place place (place_of new.places 16)
brings_by place _ _ = false

abbrev pub brings : Course → Place → ℕ → Bool
brings c place i = brings_by place (guest_after c i) (guest_after c (i + 1))

-- the one entry brings page 16 to the host and the other hands it out, and it isn't requested back
abbrev pub hands_out : Row → Bool
hands_out (c, (i, k)) = nat_lt i k && (brings c Giving i && (brings c Used k
    && not (asked_back c 16 i k)))

same_place : (p q : Place) → is_place p q ≡ true → q ≡ p
same_place p q h = grind arith

place_itself : (p : Place) → is_place p p ≡ true
place_itself p = grind arith

is_brought : (c : Course) (place : Place) (i : ℕ) → brings c place i ≡ true → BringsTo c 16 place i
is_brought c place i h = by (guest_after c i) (guest_after c (i + 1)) refl refl h where
  by : (a b : Option Guest) → guest_after c i ≡ a → guest_after c (i + 1) ≡ b
      → brings_by place a b ≡ true → BringsTo c 16 place i
  by (Some g) (Some new) e f h =
      let parts = and_parts _ (is_place place (place_of new.places 16)) h in (
        g,
        new,
        e,
        f,
        (λ at. (let t = ap (is_place place) at ∙ place_itself place in cc)),
        same_place place _ parts.1,
      )
  by (Some g) None e f h = absurd cc
  by None b e f h = absurd cc

pub none_hands_out : (rows : List Row) → list_all hands_out rows ≡ true
    → NoneOf IsSafe rows
none_hands_out rows h = none_of IsSafe hands_out (λ r e s.
    (let lt = and_parts (nat_lt r.1.0 r.1.1) _ e in
    let first = and_parts (brings r.0 Giving r.1.0) _ lt.1 in
    let second = and_parts (brings r.0 Used r.1.1) _ first.1 in
    let t = back_is_told r.0 16 r.1.0 r.1.1 (s.told_first 16 r.1.0 r.1.1 (ltb-true r.1.0 r.1.1 lt.0)
    (is_brought r.0 Giving r.1.0 first.0) (is_brought r.0 Used r.1.1 second.0)) in cc))
    rows h
