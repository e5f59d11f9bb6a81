-- A change of each seat of a list, one after another.
use Rattle.std.proofs.Common.{◌≡◌, ℕ, zero, suc, ◌+◌, ◌<◌, ◌≤◌, List, [], ◌∷◌, length, map, refl, ap, sym, ◌∙◌, arith}
use Rattle.vb_host.specs.declared.seat.Seat.{Seat}
use Rattle.vb_host.specs.Lending.{each_at}
use Rattle.vb_host.proofs.Targeting.{at_length}

-- what is left to do, after the first n
abbrev pub mapped_from : (Seat → Seat) → ℕ → List Seat → List Seat
mapped_from f zero xs = map f xs
mapped_from f (suc n) [] = []
mapped_from f (suc n) (x ∷ xs) = x ∷ mapped_from f n xs

next_mapped : (f : Seat → Seat) (n : ℕ) (xs : List Seat) → n < length xs → mapped_from f n xs ≡ mapped_from f (suc n) (each_at n f xs)
next_mapped f n [] h = absurd (omega arith)
next_mapped f zero (x ∷ xs) h = refl
next_mapped f (suc n) (x ∷ xs) h = ap (λ (ss : List Seat). x ∷ ss) (next_mapped f n xs (omega arith))

pub none_is_left : (f : Seat → Seat) (n : ℕ) (xs : List Seat) → length xs ≤ n → mapped_from f n xs ≡ xs
none_is_left f zero [] h = refl
none_is_left f zero (x ∷ xs) h = absurd (omega arith)
none_is_left f (suc n) [] h = refl
none_is_left f (suc n) (x ∷ xs) h = ap (λ (ss : List Seat). x ∷ ss) (none_is_left f n xs (omega arith))

-- one more, as code does it
pub one_less : (f : Seat → Seat) (n : ℕ) (xs ys all : List Seat) (count : ℕ) → n < length xs → ys ≡ each_at n f xs → mapped_from f n xs ≡ all → length xs ≡ count
    → (mapped_from f (n + 1) ys ≡ all) × (length ys ≡ count)
one_less f n xs ys all count l e a k =
    let next : n + 1 ≡ suc n = omega arith in (
      ap (λ (i : ℕ). mapped_from f i ys) next ∙ (ap (λ (zs : List Seat). mapped_from f (suc n) zs) e ∙ (sym (next_mapped f n xs l) ∙ a)),
      ap (λ (zs : List Seat). length zs) e ∙ (at_length n f xs ∙ k),
    )
