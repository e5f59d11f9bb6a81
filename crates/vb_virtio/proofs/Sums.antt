-- Lists of numbers with one sum.
use Rattle.std.proofs.Common.{◌≡◌, ℕ, zero, suc, ◌<◌, ◌≤◌, List, [], ◌∷◌, length, get_or, sum, refl}
use Rattle.std.{proofs.Common.{◌⊎◌, inl, inr, arith}, proofs.lemmas.Bool.cases_lt}
use Rattle.std.proofs.lemmas.List.Sums.{sum_by-cons}

-- no entry is larger than that of the other list
abbrev pub NowhereMore : List ℕ → List ℕ → Type 0
NowhereMore xs ys = (i : ℕ) → i < length xs → get_or xs i 0 ≤ get_or ys i 0

pub sum-le : (xs ys : List ℕ) → length xs ≡ length ys → NowhereMore xs ys → sum xs ≤ sum ys
sum-le [] [] l h = omega arith
sum-le [] (y ∷ ys) l h = absurd (omega arith)
sum-le (x ∷ xs) [] l h = absurd (omega arith)
sum-le (x ∷ xs) (y ∷ ys) l h = let first : x ≤ y = h 0 (omega arith) in
    let others : sum xs ≤ sum ys = sum-le xs ys (omega arith) (λ i q. h (suc i) (omega arith)) in
    omega (arith, first, others, sum_by-cons (λ (n : ℕ). n) x xs, sum_by-cons (λ (n : ℕ). n) y ys)

pub same_by_sum : (xs ys : List ℕ) → length xs ≡ length ys → NowhereMore xs ys → sum xs ≡ sum ys
    → xs ≡ ys
same_by_sum [] [] l h e = refl
same_by_sum [] (y ∷ ys) l h e = absurd (omega arith)
same_by_sum (x ∷ xs) [] l h e = absurd (omega arith)
same_by_sum (x ∷ xs) (y ∷ ys) l h e = let first : x ≤ y = h 0 (omega arith) in
    let len : length xs ≡ length ys = omega arith in
    let more : NowhereMore xs ys = λ i q. h (suc i) (omega arith) in
    let others : sum xs ≤ sum ys = sum-le xs ys len more in
    let heads : x ≡ y = omega (
      arith,
      first,
      others,
      e,
      sum_by-cons (λ (n : ℕ). n) x xs,
      sum_by-cons (λ (n : ℕ). n) y ys,
    ) in
    let tails : sum xs ≡ sum ys =
    omega (arith, heads, e, sum_by-cons (λ (n : ℕ). n) x xs, sum_by-cons (λ (n : ℕ). n) y ys) in
    let rest : xs ≡ ys = same_by_sum xs ys len more tails in cc

-- somewhere it is larger, or nowhere
pub somewhere_more : (xs ys : List ℕ) → length xs ≡ length ys
    → ((i : ℕ) × (i < length xs) × (get_or ys i 0 < get_or xs i 0)) ⊎ NowhereMore xs ys
somewhere_more [] ys l = inr (λ i q. absurd (omega arith))
somewhere_more (x ∷ xs) [] l = absurd (omega arith)
somewhere_more (x ∷ xs) (y ∷ ys) l = elim (cases_lt y x) [
  | inl more ↦ inl (0, omega arith, more)
  | inr le ↦ elim (somewhere_more xs ys (omega arith)) [
    | inl there ↦ inl (suc there.0, omega (arith, there.1), there.2)
    | inr nowhere ↦ inr (each le nowhere)
  ]
] where
  each : x ≤ y → NowhereMore xs ys → NowhereMore (x ∷ xs) (y ∷ ys)
  each le nowhere zero q = le
  each le nowhere (suc i) q = nowhere i (omega arith)
