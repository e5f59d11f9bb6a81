-- Lists of one element more, and lists that are changed at a place.
pub use Rattle.std.proofs.lemmas.List.Folds.{list_all_more, list_all_at}
use Rattle.std.proofs.Common.{All, Bool, List, Some, [], add-one, ap, arith, get_or, inl, inr}
use Rattle.std.proofs.Common.{length, map, refl, slice_get, slice_set, subst, suc, take, take-suc}
use Rattle.std.proofs.Common.{take_all, true, zero, ℕ, ⊎_elim, ◌++◌, ◌+◌, ◌<◌, ◌∙◌, ◌∷◌, ◌≡◌, ◌≢◌}
use Rattle.std.proofs.{Common.{◌≤◌, ◌⊎◌}, Math.Seq.take-length, lemmas.Bool.and_parts}
use Rattle.std.proofs.lemmas.{List.{map-append, Elements.All-push}, Option.get_or_from_slice_get}
use Rattle.std.{proofs.lemmas.Option.slice_get_within, specs.List.{Contains, list_all}}

-- what is at a place of a list that one element was pushed to
pub get_push : {X : Type 0} (xs : List X) (y : X) (i : ℕ) (z : X)
    → slice_get (xs ++ y ∷ []) i ≡ Some z → (slice_get xs i ≡ Some z) ⊎ ((i ≡ length xs) × (z ≡ y))
get_push [] y zero z h = inr (refl, cc)
get_push [] y (suc i) z h = cc
get_push (x ∷ xs) y zero z h = inl h
get_push (x ∷ xs) y (suc i) z h =
    ⊎_elim (λ p. inl p) (λ p. inr (omega (arith, p.0), p.1)) (get_push xs y i z h)

-- what holds of each element by its place
pub each_push : {X : Type 0} (P : ℕ → X → Type 0) (xs : List X) (y : X)
    → ((i : ℕ) (x : X) → slice_get xs i ≡ Some x → P i x) → P (length xs) y
    → (i : ℕ) (x : X) → slice_get (xs ++ y ∷ []) i ≡ Some x → P i x
each_push P xs y all here i x h =
    ⊎_elim (λ p. all i x p) (λ p. rw (p.0, p.1) here) (get_push xs y i x h)

pub take_next : {X : Type 0} (xs : List X) (n : ℕ) (x : X) → slice_get xs n ≡ Some x
    → take (n + 1) xs ≡ take n xs ++ x ∷ []
take_next xs n x h = grind (
  arith,
  add-one n,
  take-suc xs n x (slice_get_within xs n x h),
  get_or_from_slice_get xs n x x h,
)

pub take_whole : {X : Type 0} (xs : List X) (n : ℕ) → n ≡ length xs → take n xs ≡ xs
take_whole xs n h = ap (λ k. take k xs) h ∙ take-length xs

-- what is at a place of a list that was changed at one
pub get_set : {X : Type 0} (xs : List X) (i j : ℕ) (y z : X) → slice_get (slice_set xs i y) j
    ≡ Some z → ((j ≡ i) × (z ≡ y)) ⊎ ((j ≢ i) × (slice_get xs j ≡ Some z))
get_set [] i j y z h = cc
get_set (x ∷ xs) zero zero y z h = inl (refl, cc)
get_set (x ∷ xs) zero (suc j) y z h = inr (λ e. omega (arith, e), h)
get_set (x ∷ xs) (suc i) zero y z h = inr (λ e. omega (arith, e), h)
get_set (x ∷ xs) (suc i) (suc j) y z h = grind (arith, get_set xs i j y z h)

pub length_set : {X : Type 0} (xs : List X) (i : ℕ) (y : X) → length (slice_set xs i y) ≡ length xs
length_set [] i y = refl
length_set (x ∷ xs) zero y = refl
length_set (x ∷ xs) (suc i) y = ap suc (length_set xs i y)

pub all_next : {X : Type 0} (P : X → Type 0) (xs : List X) (i : ℕ) (x : X) → i < length xs
    → All P (take i xs) → P (get_or xs i x) → All P (take (i + 1) xs)
all_next P xs i x h all here =
    rw (add-one i, take-suc xs i x h) (All-push P (take i xs) (get_or xs i x) all here)

pub all_whole : {X : Type 0} (P : X → Type 0) (xs : List X) (i : ℕ) → length xs ≤ i
    → All P (take i xs) → All P xs
all_whole P xs i h all = subst (All P) (take_all i xs h) all

pub some_same : {X : Type 0} (x y : X) → Some x ≡ Some y → x ≡ y
some_same x y e = cc

-- what is in a list passes the test that all of it does
pub passes_at : {X : Type 0} (test : X → Bool) (xs : List X) (n : ℕ) (x : X)
    → slice_get xs n ≡ Some x → list_all test xs ≡ true → test x ≡ true
passes_at test [] n x e h = cc
passes_at test (y ∷ ys) zero x e h = grind arith
passes_at test (y ∷ ys) (suc n) x e h =
    passes_at test ys n x e (and_parts (test y) (list_all test ys) h).1

-- what is at a place of a list is in it
pub contains_at : {X : Type 0} (xs : List X) (n : ℕ) (x : X) → slice_get xs n ≡ Some x
    → Contains xs x
contains_at xs n x at = (n, slice_get_within xs n x at, get_or_from_slice_get xs n x x at)

-- what holds of all of a list holds of its first element, and of all after it
pub first_of : {X : Type 0} (P : X → Type 0) (xs : List X) (x : X) (rest : List X)
    → xs ≡ x ∷ rest → All P xs → P x
first_of P xs x rest e all = (subst (All P) e all) 0 x (omega arith)

pub rest_of : {X : Type 0} (P : X → Type 0) (xs : List X) (x : X) (rest : List X)
    → xs ≡ x ∷ rest → All P xs → All P rest
rest_of P xs x rest e all = λ k d within. (subst (All P) e all) (suc k) d (omega (arith, within))

-- where two lists are mapped to one, so are what is at a place of them
pub mapped_alike : {X Y Z : Type 0} (f : X → Z) (h : Y → Z) (xs : List X) (ys : List Y) (i : ℕ)
    (x : X) (y : Y) → i < length xs → i < length ys → map f xs ≡ map h ys
    → f (get_or xs i x) ≡ h (get_or ys i y)
mapped_alike f h [] ys i x y lt less same = absurd (omega (arith, lt))
mapped_alike f h (a ∷ xs) [] i x y lt less same = absurd (omega (arith, less))
mapped_alike f h (a ∷ xs) (b ∷ ys) zero x y lt less same = cc
mapped_alike f h (a ∷ xs) (b ∷ ys) (suc i) x y lt less same = let rest : map f xs ≡ map h ys = cc in
    mapped_alike f h xs ys i x y (omega (arith, lt)) (omega (arith, less)) rest

-- one more of a list is mapped
pub map_more : {X Y : Type 0} (f : X → Y) (xs : List X) (n : ℕ) (d : X) → n < length xs
    → map f (take (n + 1) xs) ≡ map f (take n xs) ++ f (get_or xs n d) ∷ []
map_more f xs n d within =
    grind (arith, add-one n, take-suc xs n d within, map-append f (take n xs) (get_or xs n d ∷ []))
