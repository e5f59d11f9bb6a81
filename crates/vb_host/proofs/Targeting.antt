-- All targets, one after another.
use Rattle.std.proofs.Common.{◌≡◌, ℕ, zero, suc, ◌+◌, ◌<◌, ◌≤◌, List, [], ◌∷◌, length, refl, ap, sym, ◌∙◌, arith}
use Rattle.vb_host.specs.declared.seat.Seat.{Seat}
use Rattle.vb_host.specs.Lending.{all_targeted, each_at, value_at}
use Rattle.vb_host.specs.Seats.{retargeted, room_after}

-- what is left to do, after the first n guests
abbrev pub targeted_from : ℕ → ℕ → List Seat → List Seat
targeted_from zero room xs = all_targeted room xs
targeted_from (suc n) room [] = []
targeted_from (suc n) room (x ∷ xs) = x ∷ targeted_from n room xs

pub next_targeted : (n room : ℕ) (xs : List Seat) → n < length xs
    → targeted_from n room xs ≡ targeted_from (suc n) (value_at (room_after room) xs n) (each_at n (retargeted room) xs)
next_targeted n room [] h = absurd (omega arith)
next_targeted zero room (x ∷ xs) h = refl
next_targeted (suc n) room (x ∷ xs) h = ap (λ (ss : List Seat). x ∷ ss) (next_targeted n room xs (omega arith))

pub none_left : (n room : ℕ) (xs : List Seat) → length xs ≤ n → targeted_from n room xs ≡ xs
none_left zero room [] h = refl
none_left zero room (x ∷ xs) h = absurd (omega arith)
none_left (suc n) room [] h = refl
none_left (suc n) room (x ∷ xs) h = ap (λ (ss : List Seat). x ∷ ss) (none_left n room xs (omega arith))

pub at_length : (n : ℕ) (f : Seat → Seat) (xs : List Seat) → length (each_at n f xs) ≡ length xs
at_length n f [] = refl
at_length zero f (x ∷ xs) = refl
at_length (suc n) f (x ∷ xs) = ap (λ (k : ℕ). suc k) (at_length n f xs)

-- one more, as code does it
pub one_targeted : (n room left : ℕ) (xs ys all : List Seat) (count : ℕ) → n < length xs → left ≡ value_at (room_after room) xs n → ys ≡ each_at n (retargeted room) xs
    → targeted_from n room xs ≡ all → length xs ≡ count → (targeted_from (n + 1) left ys ≡ all) × (length ys ≡ count)
one_targeted n room left xs ys all count l e f a k =
    let next : n + 1 ≡ suc n = omega arith in (
      ap (λ (i : ℕ). targeted_from i left ys) next ∙ (ap (λ (j : ℕ). targeted_from (suc n) j ys) e
          ∙ (ap (λ (zs : List Seat). targeted_from (suc n) (value_at (room_after room) xs n) zs) f ∙ (sym (next_targeted n room xs l) ∙ a))),
      ap (λ (zs : List Seat). length zs) f ∙ (at_length n (retargeted room) xs ∙ k),
    )
