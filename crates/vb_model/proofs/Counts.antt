-- How many pages move: a list of distinct pages has as many as there are below the end that are
-- among them.
use Rattle.std.proofs.Common.{◌≡◌, ℕ, zero, suc, ◌+◌, ◌<◌, ◌≤◌, Bool, true, false, cond, List, []}
use Rattle.std.proofs.Common.{◌∷◌, ◌++◌, length, get_or, refl, sym, ap, ◌∙◌, arith}
use Rattle.std.specs.Prelude.{◌==◌, ◌||◌, count_by, slice_get, Some, remove}
use Rattle.std.proofs.lemmas.Bool.{eqb-true, eq-eqb, not-true}
use Rattle.vb_virtio.specs.Queues.{Request, is_unvisited}
use Rattle.vb_virtio.specs.Tests.{is_in, one_if, each_from, pages_from, pages_where, AllDistinct}
use Rattle.vb_virtio.proofs.Tables.{count_by-cons}
use Rattle.vb_model.specs.Requests.{Requests, all_requests, naming, posting, outstanding}
use Rattle.vb_model.{specs.declared.places.Place.Place, specs.Pages.{place_of, placed}}
use Rattle.vb_model.{specs.declared.places.Place.TheVariants.Reserved, specs.Requests.pages_named}
use Rattle.vb_model.specs.Device.{visiting}
use Rattle.vb_model.proofs.PageSteps.{after_take, after_finish}

-- how many of the n pages from the first one on are among these
abbrev pub inside : ℕ → ℕ → List ℕ → ℕ
inside first zero pages = 0
inside first (suc n) pages = one_if (is_in first pages) + inside (suc first) n pages

inside-none : (n first : ℕ) → inside first n [] ≡ 0
inside-none zero first = refl
inside-none (suc n) first = omega (arith, inside-none n (suc first))

inside-before : (n first x : ℕ) → x < first → inside first n (x ∷ []) ≡ 0
inside-before zero first x l = refl
inside-before (suc n) first x l = grind (arith, inside-before n (suc first) x (omega arith))

inside-one : (n first x : ℕ) → first ≤ x → x < first + n → inside first n (x ∷ []) ≡ 1
inside-one zero first x a b = absurd (omega arith)
inside-one (suc n) first x a b =
    step (x == first) refl (λ more. inside-one n (suc first) x more (omega arith))
  where
    step : (v : Bool) → (x == first) ≡ v
        → (suc first ≤ x → inside (suc first) n (x ∷ []) ≡ 1) → inside first (suc n) (x ∷ []) ≡ 1
    step true e ih =
        let one : one_if (is_in first (x ∷ [])) ≡ 1 = ap (λ (b : Bool). one_if (b || false)) e in
        let same : x ≡ first = eqb-true x first e in
        omega (arith, one, inside-before n (suc first) x (omega arith))
    step false e ih = grind arith

inside-cons : (n first x : ℕ) (xs : List ℕ) → is_in x xs ≡ false
    → inside first n (x ∷ xs) ≡ inside first n (x ∷ []) + inside first n xs
inside-cons zero first x xs out = refl
inside-cons (suc n) first x xs out =
    omega (arith, here (x == first) refl, inside-cons n (suc first) x xs out)
  where
    here : (v : Bool) → (x == first) ≡ v
        → one_if (is_in first (x ∷ xs)) ≡ one_if (is_in first (x ∷ [])) + one_if (is_in first xs)
    here true e = grind arith
    here false e = grind arith

pub inside-all : (n : ℕ) (pages : List ℕ) → AllDistinct pages
    → ((page : ℕ) → is_in page pages ≡ true → page < n) → inside 0 n pages ≡ length pages
inside-all n [] distinct below = inside-none n 0
inside-all n (x ∷ xs) distinct below =
    let out : is_in x xs ≡ false = not-true (is_in x xs) distinct.0 in
    let first : is_in x (x ∷ xs) ≡ true = ap (λ (b : Bool). b || is_in x xs) (eq-eqb x x refl) in
    let others : inside 0 n xs ≡ length xs =
    inside-all n xs distinct.1 (λ page k. below page (later page k (x == page))) in
    omega (
      arith,
      inside-cons n 0 x xs out,
      inside-one n 0 x (omega arith) (omega (arith, below x first)),
      others,
    )
  where
    later : (page : ℕ) → is_in page xs ≡ true → (b : Bool) → (b || is_in page xs) ≡ true
    later page k true = refl
    later page k false = k

-- ---- pages that pass a test go to a place that doesn't

count-moved : (test : Place → Bool) (pages : List ℕ) (place : Place) (first : ℕ) (xs : List Place)
    → test place ≡ false → ((i : ℕ) → i < length xs → is_in (first + i) pages ≡ true
    → test (get_or xs i Reserved) ≡ true)
    → count_by test (each_from first (λ p old. cond (is_in p pages) place old) xs) +
    inside first (length xs) pages ≡ count_by test xs
count-moved test pages place first [] out ok = refl
count-moved test pages place first (x ∷ xs) out ok = omega (
  arith,
  here (is_in first pages) refl,
  count_by-cons test (cond (is_in first pages) place x)
      (each_from (suc first) (λ p old. cond (is_in p pages) place old) xs),
  count_by-cons test x xs,
  count-moved test pages place (suc first) xs out (λ i l k. ok (suc i) (omega arith) (same i k)),
) where
  same : (i : ℕ) → is_in (suc first + i) pages ≡ true → is_in (first + suc i) pages ≡ true
  same i k = let e : first + suc i ≡ suc first + i = omega arith in
      ap (λ (p : ℕ). is_in p pages) e ∙ k

  first_is : is_in first pages ≡ true → is_in (first + 0) pages ≡ true
  first_is k = let e : first + 0 ≡ first = omega arith in ap (λ (p : ℕ). is_in p pages) e ∙ k

  here : (v : Bool) → is_in first pages ≡ v
      → one_if (test (cond (is_in first pages) place x)) + one_if (is_in first pages)
      ≡ one_if (test x)
  here true e =
      let a : one_if (test (cond (is_in first pages) place x)) ≡ 0 =
      ap (λ (b : Bool). one_if (test (cond b place x))) e ∙ ap one_if out in
      let c : one_if (test x) ≡ 1 = ap one_if (ok 0 (omega arith) (first_is e)) in
      let d : one_if (is_in first pages) ≡ 1 = ap one_if e in omega (arith, a, c, d)
  here false e = grind arith

pub moved_out : (test : Place → Bool) (pages : List ℕ) (place : Place) (places : List Place)
    → test place ≡ false → AllDistinct pages
    → ((page : ℕ) → is_in page pages ≡ true → page < length places)
    → ((page : ℕ) → is_in page pages ≡ true → test (place_of places page) ≡ true)
    → count_by test (placed pages place places) + length pages ≡ count_by test places
moved_out test pages place places out distinct below ok = omega (
  arith,
  count-moved test pages place 0 places out (λ i l k.
      ok i (let e : i ≡ 0 + i = omega arith in ap (λ (p : ℕ). is_in p pages) e ∙ k)),
  inside-all (length places) pages distinct below,
)

-- ---- requests

pub named-append : (xs ys : List Request) → pages_named (xs ++ ys) ≡ pages_named xs + pages_named ys
named-append [] ys = omega arith
named-append (x ∷ xs) ys = omega (arith, named-append xs ys)

pub named-all : (rs : Requests) → pages_named (all_requests rs)
    ≡ pages_named rs.posted + (pages_named rs.taken + pages_named rs.done)
named-all rs =
    omega (arith, named-append rs.posted (rs.taken ++ rs.done), named-append rs.taken rs.done)

pub named-posting : (head : ℕ) (pages : List ℕ) (rs : Requests)
    → pages_named (all_requests (posting head pages rs))
    ≡ pages_named (all_requests rs) + length pages
named-posting head pages rs = grind (arith, named-append)

pub named-take : (r : Request) (rest : List Request) (rs : Requests) → rs.posted ≡ r ∷ rest
    → pages_named (all_requests (after_take r rest rs)) ≡ pages_named (all_requests rs)
named-take r rest rs e = grind (arith, named-append)

named-visiting : (rs : List Request) → pages_named (visiting rs) ≡ pages_named rs
named-visiting [] = refl
named-visiting (r ∷ rs) = step (is_unvisited r) (named-visiting rs) where
  step : (v : Bool) → pages_named (visiting rs) ≡ pages_named rs → pages_named
      (cond v (record r { visited = r.visited + 1 } ∷ rs) (r ∷ visiting rs)) ≡ pages_named (r ∷ rs)
  step true ih = refl
  step false ih = ap (λ (n : ℕ). length r.pages + n) ih

pub named-work : (rs : Requests) → pages_named
    (all_requests (record rs { taken = visiting rs.taken })) ≡ pages_named (all_requests rs)
named-work rs = grind (
  arith,
  named-all rs,
  named-all (record rs { taken = visiting rs.taken }),
  named-visiting rs.taken,
)

named-remove : (rs : List Request) (i : ℕ) (r : Request) → slice_get rs i ≡ Some r
    → pages_named (remove rs i) + length r.pages ≡ pages_named rs
named-remove [] i r e = absurd cc
named-remove (x ∷ xs) zero r e = grind arith
named-remove (x ∷ xs) (suc i) r e = omega (arith, named-remove xs i r e)

pub named-finish : (i : ℕ) (r : Request) (rs : Requests) → slice_get rs.taken i ≡ Some r
    → pages_named (all_requests (after_finish i r rs)) ≡ pages_named (all_requests rs)
named-finish i r rs e = grind (arith, named-remove, named-append)

-- where there is no request, none names the page
pub named_by_none : (page : ℕ) (rs : Requests) → outstanding rs ≤ 0
    → naming page (all_requests rs) ≡ 0
named_by_none page rs few = none rs.posted rs.taken rs.done few where
  none : (posted taken done : List Request) → length posted + (length taken + length done) ≤ 0
      → naming page (posted ++ (taken ++ done)) ≡ 0
  none [] [] [] l = refl
  none [] [] (r ∷ rs) l = absurd (omega arith)
  none [] (r ∷ rs) done l = absurd (omega arith)
  none (r ∷ rs) taken done l = absurd (omega arith)

-- ---- the pages that pass a test

length-pages_from : (first : ℕ) (test : Place → Bool) (xs : List Place)
    → length (pages_from first test xs) ≡ count_by test xs
length-pages_from first test [] = refl
length-pages_from first test (x ∷ xs) =
    at (test x) (length-pages_from (suc first) test xs) ∙ sym (count_by-cons test x xs)
  where
    at : (b : Bool) → length (pages_from (suc first) test xs) ≡ count_by test xs
        → length (cond b (first ∷ pages_from (suc first) test xs)
        (pages_from (suc first) test xs)) ≡ one_if b + count_by test xs
    at true ih = omega arith
    at false ih = omega arith

pub length-pages_where : (test : Place → Bool) (xs : List Place)
    → length (pages_where test xs) ≡ count_by test xs
length-pages_where test xs = length-pages_from 0 test xs
