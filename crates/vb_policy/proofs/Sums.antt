-- Sums over lists.
use Rattle.std.proofs.Common.{◌≡◌, ℕ, ◌+◌, ◌≤◌, List, [], ◌∷◌, length, get_or, take, max}
use Rattle.std.proofs.Common.{sum_by, All}
use Rattle.std.proofs.Common.{◌<◌, refl, arith}
use Rattle.std.proofs.lemmas.List.Elements.{All-head, All-more, All-tail, All-weaker}
use Rattle.std.proofs.lemmas.List.Sums.{sum_by-cons}

-- a sum of terms that are no larger wherever P holds
pub sums_below : {X : Type 0} (f h : X → ℕ) (P : X → Type 0) → ((x : X) → P x → f x ≤ h x)
    → (xs : List X) → All P xs → sum_by f xs ≤ sum_by h xs
sums_below f h P less [] all = omega arith
sums_below f h P less (x ∷ xs) all = omega (
  arith,
  sum_by-cons f x xs,
  sum_by-cons h x xs,
  less x (All-head P x xs all),
  sums_below f h P less xs (All-tail P x xs all),
)

-- a sum of nothing
pub sum_of_none : {X : Type 0} (xs : List X) → sum_by (λ x. 0) xs ≡ 0
sum_of_none [] = refl
sum_of_none (x ∷ xs) = omega (arith, sum_by-cons (λ x. 0) x xs, sum_of_none xs)

-- one more is no more than the most so far
pub most_so_far : {X : Type 0} (f : X → ℕ) (xs : List X) (i most new : ℕ) (d : X) → i < length xs
    → All (λ x. f x ≤ most) (take i xs) → new ≡ max (f (get_or xs i d)) most
    → All (λ x. f x ≤ new) (take (i + 1) xs)
most_so_far f xs i most new d l all e = All-more (λ x. f x ≤ new) xs i d l
    (All-weaker (λ x. f x ≤ most) (λ x. f x ≤ new) (λ x h. omega (arith, h, e)) (take i xs) all)
    (omega (arith, e))
