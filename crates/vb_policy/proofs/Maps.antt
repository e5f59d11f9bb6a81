-- Numbers at places of lists.
use Rattle.std.proofs.Common.{◌≡◌, ℕ, zero, suc, ◌+◌, ◌<◌, ◌≤◌, List, [], ◌∷◌, length, map}
use Rattle.std.proofs.Common.{get_or, Bool, true, All, arith}
use Rattle.std.proofs.lemmas.List.Elements.{All-head, All-tail}
use Rattle.std.proofs.lemmas.List.Sums.{AllPass-from_list_all}
use Rattle.std.proofs.lemmas.Option.{get_or_from_slice_get, slice_get-map}
use Rattle.std.proofs.Common.{slice_get, Some, option_map, ap, ◌∙◌}
use Rattle.std.specs.List.{list_all}

pub maps_below : {X : Type 0} (f h : X → ℕ) → ((x : X) → f x ≤ h x) → (xs : List X) (i : ℕ)
    → get_or (map f xs) i 0 ≤ get_or (map h xs) i 0
maps_below f h less [] i = omega arith
maps_below f h less (x ∷ xs) zero = less x
maps_below f h less (x ∷ xs) (suc i) = maps_below f h less xs i

-- where each passes a test that tells it
each_below : {X : Type 0} (p : X → Bool) (f h : X → ℕ) (more : ℕ)
    → ((x : X) → p x ≡ true → f x ≤ h x + more) → (xs : List X) (i : ℕ) → i < length xs
    → All (λ x. p x ≡ true) xs → get_or (map f xs) i 0 ≤ get_or (map h xs) i 0 + more
each_below p f h more told [] i l all = absurd (omega (arith, l))
each_below p f h more told (x ∷ xs) zero l all =
    told x (All-head (λ y. p y ≡ true) x xs all)
each_below p f h more told (x ∷ xs) (suc i) l all = each_below p f h more told xs i
    (omega (arith, l)) (All-tail (λ y. p y ≡ true) x xs all)

pub tested_below : {X : Type 0} (p : X → Bool) (f h : X → ℕ) (more : ℕ)
    → ((x : X) → p x ≡ true → f x ≤ h x + more) → (xs : List X) (i : ℕ) → i < length xs
    → list_all p xs ≡ true → get_or (map f xs) i 0 ≤ get_or (map h xs) i 0 + more
tested_below p f h more told xs i l all =
    each_below p f h more told xs i l (AllPass-from_list_all p xs all)

pub map_at : {X : Type 0} (f : X → ℕ) (xs : List X) (i : ℕ) (x : X) → slice_get xs i ≡ Some x
    → get_or (map f xs) i 0 ≡ f x
map_at f xs i x e = get_or_from_slice_get (map f xs) i (f x) 0
    (slice_get-map f xs i ∙ ap (λ o. option_map f o) e)
