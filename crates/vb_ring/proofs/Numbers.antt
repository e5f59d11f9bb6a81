-- The numbers below a limit that pass a test.
use Rattle.std.proofs.lemmas.List.{length_push, get_or_append_left, get_or_push, length-take}
use Rattle.std.specs.Prelude.{◌≡◌, ◌≢◌, ◌⊎◌, ℕ, zero, suc, ◌+◌, ◌<◌, ◌≤◌, Bool, true, false, []}
use Rattle.std.specs.Prelude.{◌∷◌, ◌++◌, length, slice_index, if◌then◌else◌, refl, slice_get, Some}
use Rattle.vb_virtio.specs.Tests.{one_if}
use Rattle.std.specs.Prelude.{take}
use Rattle.vb_ring.specs.Numbers.{numbers}
use Rattle.std.proofs.lemmas.{List.{take_all, take-append-le}, Option.slice_get-get_or}
use Rattle.std.proofs.{Common.{sym, ◌∙◌, ap, arith, inl, inr, add-one}, lemmas.Bool.cases_eq}

suc_yes : (p : ℕ → Bool) (n : ℕ) (b : Bool) → p n ≡ b → b ≡ true
    → numbers p (suc n) ≡ numbers p n ++ n ∷ []
unfolding numbers
suc_yes p n b e f = ap (λ (v : Bool). if v then numbers p n ++ n ∷ [] else numbers p n) (e ∙ f)

suc_no : (p : ℕ → Bool) (n : ℕ) → p n ≡ false → numbers p (suc n) ≡ numbers p n
unfolding numbers
suc_no p n e = ap (λ (v : Bool). if v then numbers p n ++ n ∷ [] else numbers p n) e

pub numbers_yes : (p : ℕ → Bool) (n : ℕ) → p n ≡ true → numbers p (n + 1) ≡ numbers p n ++ n ∷ []
numbers_yes p n e = ap (numbers p) (add-one n) ∙ suc_yes p n true e refl

pub numbers_no : (p : ℕ → Bool) (n : ℕ) → p n ≡ false → numbers p (n + 1) ≡ numbers p n
numbers_no p n e = ap (numbers p) (add-one n) ∙ suc_no p n e

pub numbers_zero : (p : ℕ → Bool) → numbers p 0 ≡ []
unfolding numbers
numbers_zero p = refl

-- A test answers one of two.
either_way : (b : Bool) → (b ≡ true) ⊎ (b ≡ false)
either_way true = inl refl
either_way false = inr refl

pub numbers_none : (p : ℕ → Bool) (n : ℕ) → ((i : ℕ) → i < n → p i ≡ false) → numbers p n ≡ []
numbers_none p zero h = numbers_zero p
numbers_none p (suc n) h =
    suc_no p n (h n (omega arith)) ∙ numbers_none p n (λ i l. h i (omega arith))

-- What one number more makes of the list.
record Adds (p : ℕ → Bool) (n : ℕ) : Type 0 where
  count : length (numbers p (suc n)) ≡ length (numbers p n) + one_if (p n)
  keeps : (k : ℕ) → k < length (numbers p n)
      → slice_index (numbers p (suc n)) k ≡ slice_index (numbers p n) k
  last : p n ≡ true → slice_index (numbers p (suc n)) (length (numbers p n)) ≡ n

adds : (p : ℕ → Bool) (n : ℕ) → Adds p n
adds p n = grind (arith, suc_yes, length_push, get_or_append_left, get_or_push, suc_no)

-- The last of them is the new one, or one of before.
last_or : (p : ℕ → Bool) (n k : ℕ) → k < length (numbers p (suc n))
    → (k < length (numbers p n)) ⊎ ((p n ≡ true) × (slice_index (numbers p (suc n)) k ≡ n))
last_or p n k lt = grind (arith, adds)

-- Each of them passes, and is below the limit.
pub numbers_pass : (p : ℕ → Bool) (n k : ℕ) → k < length (numbers p n)
    → (slice_index (numbers p n) k < n) × (p (slice_index (numbers p n) k) ≡ true)
numbers_pass p zero k h = absurd (omega (arith, ap length (numbers_zero p)))
numbers_pass p (suc n) k h = elim (last_or p n k h) [
  | inl before ↦ let here = (adds p n).keeps k before in let old = numbers_pass p n k before in
      (omega (arith, here, old.0), ap p here ∙ old.1)
  | inr new ↦ (omega (arith, new.1), ap p new.1 ∙ new.0)
]

-- They rise.
pub numbers_rise : (p : ℕ → Bool) (n j k : ℕ) → j < k → k < length (numbers p n)
    → slice_index (numbers p n) j < slice_index (numbers p n) k
numbers_rise p zero j k l h = absurd (omega (arith, ap length (numbers_zero p)))
numbers_rise p (suc n) j k l h = let a = adds p n in elim (last_or p n k h) [
  | inl before ↦
      omega (arith, a.keeps k before, a.keeps j (omega arith), numbers_rise p n j k l before)
  | inr new ↦
      let low : j < length (numbers p n) = omega (arith, a.count, ap one_if new.0) in
      omega (arith, new.1, a.keeps j low, (numbers_pass p n j low).0)
]

-- Each number below the limit that passes is among them.
pub numbers_has : (p : ℕ → Bool) (n i : ℕ) → i < n → p i ≡ true
    → (k : ℕ) × (k < length (numbers p n)) × (slice_index (numbers p n) k ≡ i)
numbers_has p zero i l h = absurd (omega arith)
numbers_has p (suc n) i l h = let a = adds p n in elim (cases_eq i n) [
  | inl last ↦ let pass : p n ≡ true = ap p (sym last) ∙ h in
      (length (numbers p n), omega (arith, a.count, ap one_if pass), a.last pass ∙ sym last)
  | inr ne ↦ let old = numbers_has p n i (omega (arith, ne)) h in
      (old.0, omega (arith, a.count, old.1), a.keeps old.0 old.1 ∙ old.2)
]

-- The first is the least that passes.
pub numbers_first : (p : ℕ → Bool) (n i : ℕ) → i < n → p i ≡ true → ((j : ℕ) → j < i → p j ≡ false)
    → slice_get (numbers p n) 0 ≡ Some i
numbers_first p n i l h least = let found = numbers_has p n i l h in
    let some : 0 < length (numbers p n) = omega (arith, found.1) in
    let first = numbers_pass p n 0 some in slice_get-get_or (numbers p n) 0 0 some
    ∙ ap Some (elim (cases_eq found.0 0) [
      | inl e ↦ ap (slice_index (numbers p n)) (sym e) ∙ found.2
      | inr ne ↦
          let below : slice_index (numbers p n) 0 < i =
          omega (arith, numbers_rise p n 0 found.0 (omega (arith, ne)) found.1, found.2) in
          (let wrong : true ≡ false = sym first.1 ∙ least (slice_index (numbers p n) 0) below in cc)
    ])

-- Tests that agree have the same numbers.
pub numbers_same : (p s : ℕ → Bool) (n : ℕ) → ((i : ℕ) → i < n → p i ≡ s i)
    → numbers p n ≡ numbers s n
numbers_same p s zero h = numbers_zero p ∙ sym (numbers_zero s)
numbers_same p s (suc n) h =
    grind (arith, either_way, suc_yes, suc_no, numbers_same p s n (λ i l. h i (omega arith)))

length_suc : (p : ℕ → Bool) (n : ℕ)
    → length (numbers p (suc n)) ≡ length (numbers p n) + one_if (p n)
length_suc p n = grind (arith, suc_yes, length_push, suc_no)

pub length-numbers : (p : ℕ → Bool) (n : ℕ) → length (numbers p n) ≤ n
length-numbers p zero = omega (arith, ap length (numbers_zero p))
length-numbers p (suc n) = grind (arith, length_suc p n, length-numbers p n)

-- One more number passes: one more is counted.
pub length_gain : (p s : ℕ → Bool) (n h : ℕ) → h < n → p h ≡ false → s h ≡ true
    → ((i : ℕ) → i ≢ h → p i ≡ s i) → length (numbers s n) ≡ length (numbers p n) + 1
length_gain p s zero h l fail pass same = absurd (omega arith)
length_gain p s (suc n) h l fail pass same = elim (cases_eq h n) [
  | inl e ↦ grind (arith, numbers_same, length_suc)
  | inr ne ↦ omega (
    arith,
    length_suc p n,
    length_suc s n,
    ap one_if (same n (λ e. ne (sym e))),
    length_gain p s n h (omega (arith, ne)) fail pass same,
  )
]

-- No number passes both tests: at most n numbers below n pass one of them.
pub length_two : (p s : ℕ → Bool) (n : ℕ) → ((i : ℕ) → p i ≡ true → s i ≡ false)
    → length (numbers p n) + length (numbers s n) ≤ n
length_two p s zero h = omega (arith, ap length (numbers_zero p), ap length (numbers_zero s))
length_two p s (suc n) h = grind (arith, length_suc p n, length_suc s n, length_two p s n h)

-- Where all numbers below h pass, at least h do.
pub length_all : (p : ℕ → Bool) (n h : ℕ) → h ≤ n → ((i : ℕ) → i < h → p i ≡ true)
    → h ≤ length (numbers p n)
length_all p zero h l all = omega arith
length_all p (suc n) h l all = elim (cases_eq h (suc n)) [
  | inl e ↦ omega (
    arith,
    length_suc p n,
    ap one_if (all n (omega (arith, e))),
    length_all p n n (omega arith) (λ i k. all i (omega (arith, e))),
  )
  | inr ne ↦ omega (arith, length_suc p n, length_all p n h (omega (arith, ne)) all)
]

-- The first numbers of those below n are the numbers below a lower limit.
pub numbers_prefix : (p : ℕ → Bool) (m n : ℕ) → m ≤ n
    → take (length (numbers p m)) (numbers p n) ≡ numbers p m
numbers_prefix p m zero l =
    grind (arith, take_all (length (numbers p 0)) (numbers p 0) (omega arith))
numbers_prefix p m (suc n) l = elim (cases_eq m (suc n)) [
  | inl same ↦ ap (λ k. take (length (numbers p k)) (numbers p (suc n))) same ∙ take_all
      (length (numbers p (suc n))) (numbers p (suc n)) (omega arith) ∙ ap (numbers p) (sym same)
  | inr ne ↦
      let before = numbers_prefix p m n (omega (arith, l, ne)) in
      grind (arith, length-take, either_way, suc_yes, take-append-le, suc_no)
]
