-- Numbers that rise are once each, in whatever order.
use Rattle.std.proofs.Common.{◌≡◌, refl, sym, ◌∙◌, ap, ℕ, suc, ◌+◌, ◌<◌, ◌≤◌, Bool, true, false}
use Rattle.std.{specs.List.Sorted.{IsPermutation, IsNonDecreasing}, specs.Prelude.{◌==◌, sum_by}}
use Rattle.std.proofs.lemmas.List.Sorted.{sum_by-IsPermutation}
use Rattle.std.{proofs.Common.{List, [], ◌∷◌, arith, zero}, proofs.lemmas.Bool.Decides.nat_tests}
use Rattle.vb_virtio.specs.Tests.{times, one_if}
use Rattle.vb_virtio.proofs.Tables.{count_by-cons}
use Rattle.vb_run.specs.{declared.report.GuestReport.GuestReport, Reports.AreApart, Rising.IsRising}

rising_tail : (x : ℕ) (xs : List ℕ) → IsRising (x ∷ xs) → IsRising xs
rising_tail x xs r i within = r (suc i) (omega (arith, within))

-- all that follow are above the first
above : (x : ℕ) (xs : List ℕ) → IsRising (x ∷ xs) → (n : ℕ) → n ≤ x → times n xs ≡ 0
above x [] r n le = refl
above x (y ∷ ys) r n le = let more : x < y = r 0 (omega arith) in
    let other : (y == n) ≡ false = grind (arith, nat_tests, more, le) in
    rw other (above y ys (rising_tail x (y ∷ ys) r) n (omega (arith, more, le)))

pub rising_once : (xs : List ℕ) → IsRising xs → (n : ℕ) → times n xs ≤ 1
rising_once [] r n = omega arith
rising_once (x ∷ xs) r n = cases (x == n) refl (rising_once xs (rising_tail x xs r) n) where
  split : times n (x ∷ xs) ≡ one_if (x == n) + times n xs
  split = count_by-cons (λ m. m == n) x xs

  cases : (b : Bool) → (x == n) ≡ b → times n xs ≤ 1 → times n (x ∷ xs) ≤ 1
  cases true e less = let same : x ≡ n = grind (arith, nat_tests, e) in
      let none : times n xs ≡ 0 = above x xs r n (omega (arith, same)) in
      let one : one_if (x == n) ≡ 1 = ap one_if e in omega (arith, split, none, one)
  cases false e less =
      let zero_of : one_if (x == n) ≡ 0 = ap one_if e in omega (arith, split, less, zero_of)

times_sum : (n : ℕ) (xs : List ℕ) → times n xs ≡ sum_by (λ m. one_if (m == n)) xs
times_sum n xs = grind arith

-- the order doesn't matter
pub times_permuted : (n : ℕ) (xs ys : List ℕ) → IsPermutation xs ys → times n ys ≡ times n xs
times_permuted n xs ys p =
    times_sum n ys ∙ sum_by-IsPermutation (λ m. one_if (m == n)) xs ys p ∙ sym (times_sum n xs)

pub apart : (reports : List GuestReport) (all sorted : List ℕ)
    → ((frame : ℕ) → times frame all ≡ sum_by (λ r. times frame r.frames.items) reports)
    → IsPermutation all sorted → IsRising sorted → AreApart reports
apart reports all sorted gathered p rising frame =
    grind (arith, times_permuted frame all sorted p, rising_once sorted rising frame)

-- numbers in order that are once each rise
once_rising : (xs : List ℕ) → IsNonDecreasing xs → ((n : ℕ) → times n xs ≤ 1) → IsRising xs
once_rising [] ordered once i within = absurd (omega (arith, within))
once_rising (x ∷ []) ordered once zero within = absurd (omega (arith, within))
once_rising (x ∷ y ∷ ys) ordered once zero within = cases (y == x) refl where
  le : x ≤ y
  le = ordered 0 1 0 (omega arith) (omega (arith, within))

  first : times x (x ∷ y ∷ ys) ≡ one_if (x == x) + times x (y ∷ ys)
  first = count_by-cons (λ m. m == x) x (y ∷ ys)

  second : times x (y ∷ ys) ≡ one_if (y == x) + times x ys
  second = count_by-cons (λ m. m == x) y ys

  own : (x == x) ≡ true
  own = grind (arith, nat_tests)

  cases : (b : Bool) → (y == x) ≡ b → x < y
  cases true e = let one : one_if (x == x) ≡ 1 = ap one_if own in
      let other : one_if (y == x) ≡ 1 = ap one_if e in
      absurd (omega (arith, first, second, one, other, once x))
  cases false e = grind (arith, nat_tests, e, le)
once_rising (x ∷ xs) ordered once (suc i) within =
    once_rising xs (λ j k d le lt. ordered (suc j) (suc k) d (omega (arith, le)) (omega (arith, lt)))
    (λ n. omega (arith, count_by-cons (λ m. m == n) x xs, once n)) i (omega (arith, within))

-- frames in order, of which none is twice in any report, rise
pub rising_apart : (reports : List GuestReport) (all sorted : List ℕ)
    → ((frame : ℕ) → times frame all ≡ sum_by (λ r. times frame r.frames.items) reports)
    → IsPermutation all sorted → IsNonDecreasing sorted → AreApart reports → IsRising sorted
rising_apart reports all sorted gathered p ordered apart = grind (
  arith,
  once_rising sorted ordered
      (λ frame. omega (arith, times_permuted frame all sorted p, gathered frame, apart frame)),
)
