-- Lists that name nothing twice, and how often a list names something.
use Rattle.std.proofs.Common.{◌≡◌, ℕ, zero, suc, ◌+◌, ◌<◌, ◌≤◌, Bool, true, false, cond, List, []}
use Rattle.std.proofs.{Common.{◌∷◌, ◌++◌, take, refl, ap, subst, arith}, lemmas.Bool.eqb-true}
use Rattle.std.{proofs.lemmas.Bool.{eq-eqb, false_from_ne_true, not_from_false}, specs.Prelude.◌==◌}
use Rattle.vb_virtio.proofs.Tables.{count_by-append, count_by-cons}
use Rattle.vb_virtio.specs.Tests.{times, is_in, one_if, pages_from, pages_where, AllDistinct}

pub times-append : (page : ℕ) (xs ys : List ℕ)
    → times page (xs ++ ys) ≡ times page xs + times page ys
times-append page xs ys = count_by-append (λ (p : ℕ). p == page) xs ys

pub times-cons : (page x : ℕ) (xs : List ℕ)
    → times page (x ∷ xs) ≡ one_if (x == page) + times page xs
times-cons page x xs = count_by-cons (λ (p : ℕ). p == page) x xs

pub times-none : (page : ℕ) (xs : List ℕ) → is_in page xs ≡ false → times page xs ≡ 0
times-none page [] h = refl
times-none page (x ∷ xs) h = grind (arith, times-none page xs)

pub times-take : (page n : ℕ) (xs : List ℕ) → times page (take n xs) ≤ times page xs
times-take page zero xs = omega arith
times-take page (suc n) [] = omega arith
times-take page (suc n) (x ∷ xs) =
    omega (arith, times-cons page x xs, times-cons page x (take n xs), times-take page n xs)

-- rising pages from one on
times_below : {A : Type 0} (test : A → Bool) (xs : List A) (first page : ℕ) → page < first
    → times page (pages_from first test xs) ≡ 0
times_below test [] first page l = refl
times_below test (x ∷ xs) first page l =
    step (test x) (times_below test xs (suc first) page (omega arith))
  where
    step : (v : Bool) → times page (pages_from (suc first) test xs) ≡ 0
        → times page (cond v (first ∷ pages_from (suc first) test xs)
        (pages_from (suc first) test xs)) ≡ 0
    step false ih = ih
    step true ih = grind (arith, times-cons page first (pages_from (suc first) test xs))

times_rising : {A : Type 0} (test : A → Bool) (xs : List A) (first page : ℕ)
    → times page (pages_from first test xs) ≤ 1
times_rising test [] first page = omega arith
times_rising test (x ∷ xs) first page = step (test x) (times_rising test xs (suc first) page) where
  here : (v : Bool) → (first == page) ≡ v → times page (pages_from (suc first) test xs) ≤ 1
      → times page (first ∷ pages_from (suc first) test xs) ≤ 1
  here true e ih = let same : first ≡ page = eqb-true first page e in
      let one : one_if (first == page) ≡ 1 = ap one_if e in
      omega (
        arith,
        times-cons page first (pages_from (suc first) test xs),
        times_below test xs (suc first) page (omega arith),
      )
  here false e ih = let one : one_if (first == page) ≡ 0 = ap one_if e in
      omega (arith, times-cons page first (pages_from (suc first) test xs))

  step : (v : Bool) → times page (pages_from (suc first) test xs) ≤ 1
      → times page (cond v (first ∷ pages_from (suc first) test xs)
      (pages_from (suc first) test xs)) ≤ 1
  step false ih = ih
  step true ih = here (first == page) refl ih

pub distinct_where : {A : Type 0} (test : A → Bool) (xs : List A) (n page : ℕ)
    → times page (take n (pages_where test xs)) ≤ 1
distinct_where test xs n page =
    omega (arith, times-take page n (pages_where test xs), times_rising test xs 0 page)

pub distinct_list : (xs : List ℕ) (page : ℕ) → AllDistinct xs → times page xs ≤ 1
distinct_list [] page h = omega arith
distinct_list (x ∷ xs) page h = step (x == page) refl (distinct_list xs page h.1) where
  step : (v : Bool) → (x == page) ≡ v → times page xs ≤ 1 → times page (x ∷ xs) ≤ 1
  step true e ih = let same : x ≡ page = eqb-true x page e in
      let one : one_if (x == page) ≡ 1 = ap one_if e in
      let out : is_in page xs ≡ false = subst (λ (p : ℕ). is_in p xs ≡ false) same
      (Rattle.std.proofs.lemmas.Bool.not-true (is_in x xs) h.0) in
      omega (arith, times-cons page x xs, times-none page xs out)
  step false e ih = let one : one_if (x == page) ≡ 0 = ap one_if e in
      omega (arith, times-cons page x xs, ih)

pub times-some : (page : ℕ) (xs : List ℕ) → is_in page xs ≡ true → 0 < times page xs
times-some page [] h = absurd cc
times-some page (x ∷ xs) h = step (x == page) refl h (times-some page xs) where
  step : (v : Bool) → (x == page) ≡ v → Rattle.std.specs.Prelude.◌||◌ v (is_in page xs) ≡ true
      → (is_in page xs ≡ true → 0 < times page xs) → 0 < times page (x ∷ xs)
  step true e h ih = let z : one_if (x == page) ≡ 1 = ap one_if e in
      omega (arith, times-cons page x xs)
  step false e h ih = let z : one_if (x == page) ≡ 0 = ap one_if e in
      omega (arith, times-cons page x xs, ih h)

-- a list that names no page more than once
pub distinct_once : (xs : List ℕ) → ((page : ℕ) → times page xs ≤ 1) → AllDistinct xs
distinct_once [] once = tt
distinct_once (x ∷ xs) once = (
  not_from_false (is_in x xs) (false_from_ne_true (is_in x xs) (λ h.
      let one : one_if (x == x) ≡ 1 = ap one_if (eq-eqb x x refl) in
      omega (arith, once x, times-cons x x xs, times-some x xs h))),
  distinct_once xs (λ page. omega (arith, once page, times-cons page x xs)),
)
