-- Large pages: which of them go with a part, and how many pages are left.
use Rattle.std.proofs.Common.{◌≡◌, ◌∙◌, ◌⊎◌, inl, inr, ap, sym, subst, arith, ℕ, zero, suc, ◌+◌, ◌-◌, ◌*◌, ◌/◌, ◌≤◌, ◌<◌, Bool, true, false, List, min, max}
use Rattle.std.specs.Prelude.{not, ◌&&◌, ◌||◌, nat_le, nat_lt, count_by}
use Rattle.std.specs.List.{range_with_len}
use Rattle.std.proofs.Math.Nat.{mul-le-mul_left, mul-div-le, lt-mul-div-succ}
use Rattle.std.proofs.lemmas.Bool.{cases_lt, and_parts, and_from, or_left, or_right, or_cases, le-leb, lt-ltb, leb-true, ltb-true, lt-leb, le-ltb}
use Rattle.vb_virtio.specs.Tests.{one_if}
use Rattle.vb_virtio.proofs.Tables.{count_by-cons}
use Rattle.vb_core.specs.Ballooned.{is_ballooned}
use Rattle.vb_monitor.specs.Large.{is_between, is_of_large, AllGiven, GoesWith, Begins, Here, After, Stops, Past, Before, RowGoes, NoneGoes, outside}

-- ---- pages in a row

pub between_is : (a b p : ℕ) → a ≤ p → p < b → is_between a b p ≡ true
between_is a b p l m = and_from (nat_le a p) (nat_lt p b) (le-leb a p l) (lt-ltb p b m)

pub between_says : (a b p : ℕ) → is_between a b p ≡ true → (a ≤ p) × (p < b)
between_says a b p e =
    let both = and_parts (nat_le a p) (nat_lt p b) e in
    (leb-true a p both.0, ltb-true p b both.1)

-- a page before a part, or after it, is given by the set alone
before_part : (first end p : ℕ) (b : Bool) → p < first → (is_between first end p || b) ≡ true →
    b ≡ true
before_part first end p b l given = elim (or_cases (is_between first end p) b given) [
  | inl there ↦ absurd (omega (arith, l, (between_says first end p there).0))
  | inr there ↦ there
]

parts_after : (first end p : ℕ) (b : Bool) → end ≤ p → (is_between first end p || b) ≡ true →
    b ≡ true
parts_after first end p b l given = elim (or_cases (is_between first end p) b given) [
  | inl there ↦ absurd (omega (arith, l, (between_says first end p there).1))
  | inr there ↦ there
]

-- ---- all pages of a large page

abbrev pub InSet : List ℕ → ℕ → ℕ → Type 0
InSet set from end = (p : ℕ) → from ≤ p → p < end → is_ballooned set p ≡ true

pub all_given : (small first end n : ℕ) (set : List ℕ) → InSet set (small * n) first →
    InSet set end (small * (n + 1)) → AllGiven small first end set n
all_given small first end n set before further p there =
    let says = between_says (small * n) (small * (n + 1)) p there in elim (cases_lt p first) [
      | inl l ↦ or_right (is_between first end p) (is_ballooned set p) (before p says.0 l)
      | inr l ↦ elim (cases_lt p end) [
        | inl m ↦ or_left (is_between first end p) (is_ballooned set p) (between_is first end p l m)
        | inr m ↦ or_right (is_between first end p) (is_ballooned set p) (further p m says.1)
      ]
    ]

pub given_before : (small first end n : ℕ) (set : List ℕ) → first ≤ small * (n + 1) →
    AllGiven small first end set n → InSet set (small * n) first
given_before small first end n set starts given p l m = before_part first end p (is_ballooned set p)
    m (given p (between_is (small * n) (small * (n + 1)) p l (omega (arith, m, starts))))

pub given_after : (small first end n : ℕ) (set : List ℕ) → small * n ≤ end →
    AllGiven small first end set n → InSet set end (small * (n + 1))
given_after small first end n set stops given p l m = parts_after first end p (is_ballooned set p)
    l (given p (between_is (small * n) (small * (n + 1)) p (omega (arith, l, stops)) m))

pub ruleset given_steps = (all_given, given_before, given_after)

-- ---- the row that goes

-- the large pages that a part has first and last
pub record Ends (small first end low last : ℕ) : Type 0 where
  pub positive : 0 < small
  pub some : first < end
  pub from : small * low ≤ first
  pub before : first < small * (low + 1)
  pub to : small * last < end
  pub further : end ≤ small * (last + 1)

pub ends_of : (small first end : ℕ) → 0 < small → first < end →
    Ends small first end (first / small) ((end - 1) / small)
ends_of small first end positive some =
    let le = mul-div-le (end - 1) small in
    let lt = lt-mul-div-succ (end - 1) positive in
    record {
      positive = positive;
      some = some;
      from = mul-div-le first small;
      before = lt-mul-div-succ first positive;
      to = omega (arith, le, some);
      further = omega (arith, lt, some);
    }

-- a large page with a page of the part is one of those from the first on and to the last
enters_from : (small first end low last n p : ℕ) → Ends small first end low last →
    p < small * (n + 1) → first ≤ p → low ≤ n
enters_from small first end low last n p is m f = elim (cases_lt n low) [
  | inl lt ↦
      let step : small * (n + 1) ≤ small * low = mul-le-mul_left small (omega (arith, lt)) in
      absurd (omega (arith, step, m, f, is.from))
  | inr le ↦ le
]

enters_to : (small first end low last n p : ℕ) → Ends small first end low last →
    small * n ≤ p → p < end → n ≤ last
enters_to small first end low last n p is l f = elim (cases_lt last n) [
  | inl lt ↦
      let step : small * (last + 1) ≤ small * n = mul-le-mul_left small (omega (arith, lt)) in
      absurd (omega (arith, step, l, f, is.further))
  | inr le ↦ le
]

-- a part has a page of each large page from its first one to its last one
page_of : (small first end low last n : ℕ) → Ends small first end low last → low ≤ n → n ≤ last →
    (p : ℕ) × ((is_of_large small n p ≡ true) × (is_between first end p ≡ true))
page_of small first end low last n is from to =
    let up : small * (low + 1) ≤ small * (n + 1) = mul-le-mul_left small (omega (arith, from)) in
    let on : small * n ≤ small * last = mul-le-mul_left small to in
    let more : small * (n + 1) ≡ small * n + small = omega arith in
    elim (cases_lt first (small * n)) [
      | inl l ↦ (
        small * n,
        (
          between_is (small * n) (small * (n + 1)) (small * n) (omega arith)
              (omega (arith, more, is.positive)),
          between_is first end (small * n) (omega (arith, l)) (omega (arith, on, is.to)),
        ),
      )
      | inr l ↦ (
        first,
        (
          between_is (small * n) (small * (n + 1)) first l (omega (arith, up, is.before)),
          between_is first end first (omega arith) is.some,
        ),
      )
    ]

-- one between them is the part's alone
middle : (small first end low last n : ℕ) (set : List ℕ) → Ends small first end low last →
    low < n → n < last → AllGiven small first end set n
middle small first end low last n set is from to p there =
    let says = between_says (small * n) (small * (n + 1)) p there in
    let down : small * (low + 1) ≤ small * n = mul-le-mul_left small (omega (arith, from)) in
    let up : small * (n + 1) ≤ small * last = mul-le-mul_left small (omega (arith, to)) in
    or_left (is_between first end p) (is_ballooned set p)
    (between_is first end p (omega (arith, down, is.before, says.0))
    (omega (arith, up, is.to, says.1)))

given_at : (small first end low last n : ℕ) (set : List ℕ) → Ends small first end low last →
    low ≤ n → n ≤ last → (n ≡ low → AllGiven small first end set n) →
    (n ≡ last → AllGiven small first end set n) → AllGiven small first end set n
given_at small first end low last n set is from to at_low at_last = elim (cases_lt low n) [
  | inl l ↦ elim (cases_lt n last) [
    | inl m ↦ middle small first end low last n set is l m
    | inr m ↦ at_last (omega (arith, m, to))
  ]
  | inr l ↦ at_low (omega (arith, l, from))
]

goes : (small first end low last n : ℕ) (set : List ℕ) → Ends small first end low last →
    low ≤ n → n ≤ last → (n ≡ low → AllGiven small first end set n) →
    (n ≡ last → AllGiven small first end set n) → GoesWith small first end set n
goes small first end low last n set is from to at_low at_last =
    let found = page_of small first end low last n is from to in record {
      page = found.0;
      there = found.1.0;
      of_part = found.1.1;
      given = given_at small first end low last n set is from to at_low at_last;
    }

-- where a row begins and stops, beside a large page that goes
begin_is : (small first end low a n : ℕ) (set : List ℕ) →
    Begins (AllGiven small first end set low) low a → low ≤ n → AllGiven small first end set n →
    a ≤ n
begin_is small first end low a n set (Here e given) from it = omega (arith, e, from)
begin_is small first end low a n set (After e none) from it = elim (cases_lt low n) [
  | inl l ↦ omega (arith, e, l)
  | inr l ↦
      let same : n ≡ low = omega (arith, l, from) in
      absurd (none (subst (λ (k : ℕ). AllGiven small first end set k) same it))
]

stop_is : (small first end last b n : ℕ) (set : List ℕ) →
    Stops (AllGiven small first end set last) last b → n ≤ last → AllGiven small first end set n →
    n < b
stop_is small first end last b n set (Past e given) to it = omega (arith, e, to)
stop_is small first end last b n set (Before e none) to it = elim (cases_lt n last) [
  | inl l ↦ omega (arith, e, l)
  | inr l ↦
      let same : n ≡ last = omega (arith, l, to) in
      absurd (none (subst (λ (k : ℕ). AllGiven small first end set k) same it))
]

only : (small first end low last a b n : ℕ) (set : List ℕ) → Ends small first end low last →
    Begins (AllGiven small first end set low) low a →
    Stops (AllGiven small first end set last) last b → GoesWith small first end set n →
    (a ≤ n) × (n < b)
only small first end low last a b n set is begins stops it =
    let says = between_says (small * n) (small * (n + 1)) it.page it.there in
    let part = between_says first end it.page it.of_part in (
      begin_is small first end low a n set begins
          (enters_from small first end low last n it.page is says.1 part.0) it.given,
      stop_is small first end last b n set stops
          (enters_to small first end low last n it.page is says.0 part.1) it.given,
    )

from_low : (goes : Type 0) (low a n : ℕ) → Begins goes low a → a ≤ n → low ≤ n
from_low goes low a n (Here e given) l = omega (arith, e, l)
from_low goes low a n (After e none) l = omega (arith, e, l)

to_last : (goes : Type 0) (last b n : ℕ) → Stops goes last b → n < b → n ≤ last
to_last goes last b n (Past e given) l = omega (arith, e, l)
to_last goes last b n (Before e none) l = omega (arith, e, l)

at_low : (small first end low a n : ℕ) (set : List ℕ) →
    Begins (AllGiven small first end set low) low a → a ≤ n → n ≡ low →
    AllGiven small first end set n
at_low small first end low a n set (Here e given) l same =
    subst (λ (k : ℕ). AllGiven small first end set k) (sym same) given
at_low small first end low a n set (After e none) l same = absurd (omega (arith, e, l, same))

at_last : (small first end last b n : ℕ) (set : List ℕ) →
    Stops (AllGiven small first end set last) last b → n < b → n ≡ last →
    AllGiven small first end set n
at_last small first end last b n set (Past e given) l same =
    subst (λ (k : ℕ). AllGiven small first end set k) (sym same) given
at_last small first end last b n set (Before e none) l same = absurd (omega (arith, e, l, same))

pub row_goes : (small first end low last a b : ℕ) (set : List ℕ) → Ends small first end low last →
    Begins (AllGiven small first end set low) low a →
    Stops (AllGiven small first end set last) last b → a < b → RowGoes small first end set a b
row_goes small first end low last a b set is begins stops some = record {
  some = some;
  go = λ n l m. goes small first end low last n set is
      (from_low (AllGiven small first end set low) low a n begins l)
      (to_last (AllGiven small first end set last) last b n stops m)
      (at_low small first end low a n set begins l) (at_last small first end last b n set stops m);
  others = λ n it. only small first end low last a b n set is begins stops it;
}

pub none_goes : (small first end low last a b : ℕ) (set : List ℕ) → Ends small first end low last →
    Begins (AllGiven small first end set low) low a →
    Stops (AllGiven small first end set last) last b → b ≤ a → NoneGoes small first end set
none_goes small first end low last a b set is begins stops none n it =
    let bounds = only small first end low last a b n set is begins stops it in
    omega (arith, none, bounds.0, bounds.1)

-- ---- how many are left

out_by : (a b f : ℕ) → (f < a) ⊎ (b ≤ f) → is_between a b f ≡ false
out_by a b f (inl l) = ap (λ (x : Bool). x && nat_lt f b) (lt-leb a f l)
out_by a b f (inr l) = elim (cases_lt f a) [
  | inl m ↦ ap (λ (x : Bool). x && nat_lt f b) (lt-leb a f m)
  | inr m ↦ ap (λ (x : Bool). x && nat_lt f b) (le-leb a f m) ∙ le-ltb f b l
]

count_outside : (a b f c : ℕ) → a ≤ b → count_by (λ p. not (is_between a b p)) (range_with_len f c)
    ≡ (min a (f + c) - f) + ((f + c) - max b f)
count_outside a b f zero l = omega arith
count_outside a b f (suc c) l =
    let more = count_outside a b (f + 1) c l in
    let step = count_by-cons (λ p. not (is_between a b p)) f (range_with_len (f + 1) c) in
    elim (cases_lt f a) [
      | inl m ↦
          let here = ap (λ (x : Bool). one_if (not x)) (out_by a b f (inl m)) in
          omega (arith, more, step, here, m, l)
      | inr m ↦ elim (cases_lt f b) [
        | inl k ↦
            let here = ap (λ (x : Bool). one_if (not x)) (between_is a b f m k) in
            omega (arith, more, step, here, m, k, l)
        | inr k ↦
            let here = ap (λ (x : Bool). one_if (not x)) (out_by a b f (inr k)) in
            omega (arith, more, step, here, m, k, l)
      ]
    ]

pub outside_is : (first end from further : ℕ) → first ≤ end → from ≤ further → from ≤ end →
    first ≤ further → outside first end from further ≡ (from - first) + (end - further)
outside_is first end from further order row starts stops =
    let count = count_outside from further first (end - first) row in
    omega (arith, count, order, row, starts, stops)
