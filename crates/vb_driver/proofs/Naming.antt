-- How often requests name a page.
use Rattle.std.proofs.Common.{◌≡◌, ◌∙◌, sym, ap, arith, refl, ℕ, suc, ◌+◌, ◌<◌}
use Rattle.std.proofs.Common.{◌≤◌, Bool, true, false, cond, eqb, not, List, [], ◌∷◌, ◌++◌, length}
use Rattle.std.proofs.{Common.{take, get_or, set, inl, inr, IsTrue}, lemmas.Bool.{cases_eq, ne_eqb}}
use Rattle.std.proofs.lemmas.List.Sums.{sum_by-set, sum_by-take-le, get_or-le-sum_by}
use Rattle.vb_virtio.proofs.Tables.{count_by-cons, count_by-append}
use Rattle.vb_virtio.specs.Tests.{AllDistinct, times, is_in, one_if, pages_from, pages_where}
use Rattle.{vb_model.specs.declared.places.Place.Place, vb_pages.proofs.ListsLemmas.times_in}
use Rattle.{vb_pages.proofs.ListsLemmas.{times_out, one_if_le}, vb_driver.specs.State.naming}

-- a list in which no page is twice
pub once_distinct : (p : ℕ) (xs : List ℕ) → AllDistinct xs → times p xs ≤ 1
once_distinct p [] d = omega arith
once_distinct p (x ∷ xs) d = let ih : times p xs ≤ 1 = once_distinct p xs d.1 in
    let cons : times p (x ∷ xs) ≡ one_if (eqb x p) + times p xs =
    count_by-cons (λ q. eqb q p) x xs in elim (cases_eq x p) [
      | inl same ↦
          let out : is_in p xs ≡ false =
          ap (λ (n : ℕ). is_in n xs) (sym same) ∙ opposite (is_in x xs) d.0 in
          let none : times p xs ≡ 0 = times_out p xs out in
          let most : one_if (eqb x p) ≤ 1 = one_if_le (eqb x p) in omega arith
      | inr ne ↦ (let none : one_if (eqb x p) ≡ 0 = ap one_if (ne_eqb x p ne) in omega arith)
    ] where
      opposite : (b : Bool) → IsTrue (not b) → b ≡ false
      opposite x h = grind arith

-- the pages of a table that pass a test
pub later_none : {A : Type 0} (p k : ℕ) (test : A → Bool) (xs : List A) → p < k
    → times p (pages_from k test xs) ≡ 0
later_none p k test [] lt = refl
later_none p k test (x ∷ xs) lt = grind (arith, later_none p (suc k) test xs (omega arith))

once_from : {A : Type 0} (p k : ℕ) (test : A → Bool) (xs : List A)
    → times p (pages_from k test xs) ≤ 1
once_from p k test [] = omega arith
once_from p k test (x ∷ xs) = at (test x) (once_from p (suc k) test xs) where
  at : (b : Bool) → times p (pages_from (suc k) test xs) ≤ 1
      → times p (cond b (k ∷ pages_from (suc k) test xs) (pages_from (suc k) test xs)) ≤ 1
  at false rest = rest
  at true rest =
      let cons : times p (k ∷ pages_from (suc k) test xs)
      ≡ one_if (eqb k p) + times p (pages_from (suc k) test xs) =
      count_by-cons (λ q. eqb q p) k (pages_from (suc k) test xs) in elim (cases_eq k p) [
        | inl same ↦ (let none : times p (pages_from (suc k) test xs)
            ≡ 0 = later_none p (suc k) test xs (omega arith) in
            let most : one_if (eqb k p) ≤ 1 = one_if_le (eqb k p) in omega arith)
        | inr ne ↦ (let none : one_if (eqb k p) ≡ 0 = ap one_if (ne_eqb k p ne) in omega arith)
      ]

pub once_lowest : {A : Type 0} (p n : ℕ) (test : A → Bool) (xs : List A)
    → times p (take n (pages_where test xs)) ≤ 1
once_lowest p n test xs = grind (
  arith,
  once_from p 0 test xs,
  sum_by-take-le (λ q. cond (eqb q p) 1 0) (pages_where test xs) n,
)

pub once_append : (p : ℕ) (xs ys : List ℕ) → times p xs ≤ 1 → times p ys ≤ 1
    → (is_in p xs ≡ true → is_in p ys ≡ false) → times p (xs ++ ys) ≤ 1
once_append p xs ys a b apart = grind (arith, count_by-append, times_out)

-- ---- the requests of a queue

pub naming_set : (p h : ℕ) (pages : List ℕ) (sent : List (List ℕ)) → h < length sent
    → naming p (set sent h pages) + times p (get_or sent h []) ≡ naming p sent + times p pages
naming_set p h pages sent lt = sum_by-set (times p) sent h pages [] lt

-- a new request names pages that come to the place
pub naming_more : (p h : ℕ) (pages : List ℕ) (sent : List (List ℕ)) (test : Place → Bool)
    (to place : Place) → h < length sent → naming p sent ≤ one_if (test place)
    → (is_in p pages ≡ true → test place ≡ false) → times p pages ≤ 1 → test to ≡ true
    → naming p (set sent h pages) ≤ one_if (test (cond (is_in p pages) to place))
naming_more p h pages sent test to place lt old before once is =
    grind (arith, naming_set, times_out)

-- what a queue names, where its pages don't move
pub naming_same : (p n : ℕ) (pages : List ℕ) (test : Place → Bool) (to place : Place)
    → n ≤ one_if (test place) → (is_in p pages ≡ true → test place ≡ false)
    → n ≤ one_if (test (cond (is_in p pages) to place))
naming_same p n pages test to place old before = search (arith)

-- a request is gone
pub naming_less : (p h : ℕ) (sent : List (List ℕ)) (test : Place → Bool) (to place : Place)
    → h < length sent → naming p sent ≤ one_if (test place)
    → naming p (set sent h []) ≤ one_if (test (cond (is_in p (get_or sent h [])) to place))
naming_less p h sent test to place lt old = grind (arith, naming_set, times_in)

-- a page that a request names has the place of its queue
pub named_place : (p h : ℕ) (sent : List (List ℕ)) (test : Place → Bool) (place : Place)
    → h < length sent → naming p sent ≤ one_if (test place) → is_in p (get_or sent h []) ≡ true
    → test place ≡ true
named_place p h sent test place lt old here = grind (arith, times_in, get_or-le-sum_by)

pub named_once : (p h : ℕ) (sent : List (List ℕ)) (test : Place → Bool) (place : Place)
    → h < length sent → naming p sent ≤ one_if (test place) → times p (get_or sent h []) ≤ 1
named_once p h sent test place lt old = grind (arith, get_or-le-sum_by)
