-- Runs that tell pages of memory.
use Rattle.std.proofs.Common.{◌≡◌, ◌∙◌, ap, sym, subst, refl, arith, ℕ, suc, ◌+◌, ◌<◌, ◌≤◌}
use Rattle.std.proofs.Common.{Bool, true, false, List, [], ◌∷◌, ◌++◌, Option, Some, None}
use Rattle.std.specs.Prelude.{All, ◌==◌, ◌||◌, ◌-◌, if◌then◌else◌}
use Rattle.std.specs.List.{range_with_len}
use Rattle.std.proofs.lemmas.{Bool.eqb-true, List.Folds.list_any-append}
use Rattle.vb_virtio.specs.Tests.{is_in}
use Rattle.vb_virtio.proofs.Ranges.{outside-range}
use Rattle.vb_core.specs.declared.runs.Run.{Run}
use Rattle.vb_core.specs.Runs.{pages_of_run, pages_of_runs, Grows, one_page, Tell}
use Rattle.vb_served.proofs.CutLemmas.{AreInside, No_more, One_more}

one_of : (P : ℕ → Type 0) (n p : ℕ) (in_rest b : Bool) → (n == p) ≡ b → P n →
    (b || in_rest) ≡ true → (in_rest ≡ true → P p) → P p
one_of P n p in_rest true f here g rest = subst P (eqb-true n p f) here
one_of P n p in_rest false f here g rest = rest g

-- what holds of all numbers holds of one of them
pub in_all : (P : ℕ → Type 0) (ns : List ℕ) (p : ℕ) → All P ns → is_in p ns ≡ true → P p
in_all P [] p all e = absurd cc
in_all P (n ∷ ns) p all e = one_of P n p (is_in p ns) (n == p) refl (all 0 n (omega arith)) e
    (in_all P ns p (λ k d lt. all (suc k) d (omega (arith, lt))))

-- each run has some pages
pub data AreSome : List Run → Type 0 where
  None_yet : AreSome []
  And_one : (run : Run) (runs : List Run) → 0 < run.count → AreSome runs → AreSome (run ∷ runs)

joined_by : (b c : Bool) (run : Run) (n : ℕ) (next : Run) →
    (if b then Some (record { first = run.first; count = run.count + 1 })
    else if c then Some (record { first = n; count = run.count + 1 }) else None) ≡ Some next →
    next.count ≡ run.count + 1
joined_by true c run n next e = sym (ap count_of e) where
  count_of : Option Run → ℕ
  count_of None = 0
  count_of (Some r) = r.count
joined_by false true run n next e = sym (ap count_of e) where
  count_of : Option Run → ℕ
  count_of None = 0
  count_of (Some r) = r.count
joined_by false false run n next e = absurd cc

grown_some : (old : Run) (ns : List ℕ) (new : Run) → 0 < old.count → Grows old ns new → 0 < new.count
grown_some old [] new some same = subst (λ (r : Run). 0 < r.count) (sym same) some
grown_some old (n ∷ ns) new some (next, (is, more)) =
    let one : next.count ≡ old.count + 1 =
    joined_by (n == old.first + old.count) (n + 1 == old.first) old n next is in
    grown_some next ns new (omega (arith, one)) more

pub tells_some : (runs : List Run) (ns : List ℕ) → Tell runs ns → AreSome runs
tells_some [] ns tell = None_yet
tells_some (run ∷ runs) ns (part, (rest, (is, (apart, more)))) =
    let (n, (others, (all, grows))) = is.grows in
    And_one run runs (grown_some (one_page n) others run (omega arith) grows)
    (tells_some runs rest more)

in_range : (page start len : ℕ) → start ≤ page → page < start + len →
    is_in page (range_with_len start len) ≡ true
in_range page start len a b = by (is_in page (range_with_len start len)) refl where
  by : (c : Bool) → is_in page (range_with_len start len) ≡ c → c ≡ true
  by true e = refl
  by false e = absurd (outside-range page start len e a b)

in_front : (p : ℕ) (xs ys : List ℕ) → is_in p xs ≡ true → is_in p (xs ++ ys) ≡ true
in_front p xs ys e = list_any-append (λ m. m == p) xs ys ∙ ap (λ (b : Bool). b || is_in p ys) e

or_right : (a : Bool) → (a || true) ≡ true
or_right true = refl
or_right false = refl

behind : (p : ℕ) (xs ys : List ℕ) → is_in p ys ≡ true → is_in p (xs ++ ys) ≡ true
behind p xs ys e = list_any-append (λ m. m == p) xs ys
    ∙ (ap (λ (b : Bool). is_in p xs || b) e ∙ or_right (is_in p xs))

-- runs of pages of memory lie in it
pub are_inside : (n : ℕ) (runs : List Run) → AreSome runs →
    ((p : ℕ) → is_in p (pages_of_runs runs) ≡ true → p < n) → AreInside n runs
are_inside n [] some below = No_more
are_inside n (run ∷ runs) (And_one _ _ first more) below =
    let last = run.first + run.count - 1 in
    let here : is_in last (pages_of_run run) ≡ true =
    in_range last run.first run.count (omega (arith, first)) (omega (arith, first)) in
    let lt : last < n = below last (in_front last (pages_of_run run) (pages_of_runs runs) here) in
    One_more run runs first (omega (arith, lt, first))
    (are_inside n runs more (λ p e. below p (behind p (pages_of_run run) (pages_of_runs runs) e)))
