-- Sets of pages: the members in rising order, and the set of a place as a page moves.
use Rattle.std.proofs.Common.{◌≡◌, ◌∙◌, ap, arith, refl, ℕ, zero, suc, ◌+◌, ◌-◌, ◌<◌, ◌≤◌, Bool}
use Rattle.std.proofs.Common.{true, false, cond, List, [], ◌∷◌, ◌++◌, length, take, drop, get_or}
use Rattle.std.proofs.lemmas.List.{get_or-drop, drop-drop, append_assoc, length-append, take_all}
use Rattle.std.{proofs.Common.{set, map, replicate, append-nil}, proofs.lemmas.List.map-set}
use Rattle.vb_virtio.specs.Tests.{pages_from, pages_where}
use Rattle.vb_model.specs.declared.places.Place.{Place}
use Rattle.vb_bits.specs.Sets.{HasNoneFrom, IsLeastFrom}

-- ---- the members in rising order

abbrev members_from : ℕ → List Bool → List ℕ
members_from first flags = pages_from first (λ b. b) flags

-- the flags of a test are those of the pages that pass it
pages_of_flags : {A : Type 0} (test : A → Bool) (first : ℕ) (xs : List A)
    → pages_from first (λ b. b) (map test xs) ≡ pages_from first test xs
pages_of_flags test first [] = refl
pages_of_flags test first (x ∷ xs) =
    ap (λ (l : List ℕ). cond (test x) (first ∷ l) l) (pages_of_flags test (suc first) xs)

-- the pages of a set are those that pass its test
pub pages_of_set : (test : Place → Bool) {flags : List Bool} (places : List Place)
    → flags ≡ map test places → pages_where (λ b. b) flags ≡ pages_where test places
pages_of_set test places are =
    ap (λ (l : List Bool). pages_where (λ b. b) l) are ∙ pages_of_flags test 0 places

none_in : (first : ℕ) (xs : List Bool) → ((k : ℕ) → get_or xs k false ≡ false)
    → members_from first xs ≡ []
none_in first [] none = refl
none_in first (x ∷ xs) none = at x (none zero) (none_in (suc first) xs (λ k. none (suc k))) where
  at : (b : Bool) → b ≡ false → members_from (suc first) xs ≡ []
      → cond b (first ∷ members_from (suc first) xs) (members_from (suc first) xs) ≡ []
  at x e ih = grind arith

first_in : (first k : ℕ) (xs : List Bool) → get_or xs k false ≡ true
    → ((m : ℕ) → m < k → get_or xs m false ≡ false) → members_from first xs
    ≡ (first + k) ∷ members_from (suc (first + k)) (drop (suc k) xs)
first_in first k [] there low = cc
first_in first zero (x ∷ xs) there low = grind arith
first_in first (suc k) (x ∷ xs) there low = at x (low zero (omega arith))
    (first_in (suc first) k xs there (λ m lt. low (suc m) (omega arith))) where
      at : (b : Bool) → b ≡ false → members_from (suc first) xs
          ≡ (suc first + k) ∷ members_from (suc (suc first + k)) (drop (suc k) xs)
          → cond b (first ∷ members_from (suc first) xs) (members_from (suc first) xs)
          ≡ (first + suc k) ∷ members_from (suc (first + suc k)) (drop (suc k) xs)
      at x e ih = grind (arith, drop)

-- the least member from a number on, and those after it
next_member : {flags : List Bool} {from page : ℕ} → IsLeastFrom flags from page
    → members_from from (drop from flags) ≡ page ∷ members_from (page + 1) (drop (page + 1) flags)
next_member {flags} {from} {page} least = let k = page - from in
    let here : from + k ≡ page = omega (arith, least.from) in
    let after : suc (from + k) ≡ page + 1 = omega arith in
    let next : from + suc k ≡ page + 1 = omega arith in first_in from k (drop from flags)
    (get_or-drop from flags k false ∙ (ap (λ (n : ℕ). get_or flags n false) here ∙ least.member))
    (λ m lt. get_or-drop from flags m false ∙ least.least (from + m) (omega arith) (omega arith))
    ∙ (ap (λ (n : ℕ). n ∷ members_from (suc (from + k)) (drop (suc k) (drop from flags))) here
    ∙ (ap (λ (n : ℕ). page ∷ members_from n (drop (suc k) (drop from flags))) after
    ∙ ap (λ (l : List Bool). page ∷ members_from (page + 1) l)
    (drop-drop (suc k) from flags ∙ ap (λ (n : ℕ). drop n flags) next)))

-- ---- a walk along a set

-- these are the first n members, and the others come from this number on
pub record AreFirst (items : List ℕ) (flags : List Bool) (from count : ℕ) : Type 0 where
  pub whole : items ++ members_from from (drop from flags) ≡ pages_where (λ b. b) flags
  pub many : length items ≡ count

pub first_more : {items : List ℕ} {flags : List Bool} {from count page : ℕ}
    → AreFirst items flags from count
    → IsLeastFrom flags from page → AreFirst (items ++ page ∷ []) flags (page + 1) (count + 1)
first_more so_far least = grind (arith, append_assoc, next_member, length-append)

-- there is no further one
pub first_all : {items : List ℕ} {flags : List Bool} {from count : ℕ} (most : ℕ)
    → AreFirst items flags from count
    → HasNoneFrom flags from → count ≤ most → items ≡ take most (pages_where (λ b. b) flags)
first_all most so_far none few = grind (arith, none_in, get_or-drop, append-nil, take_all)

-- ---- the set of a place

-- the set after a page moved
pub set_moved : (test : Place → Bool) {flags now : List Bool}
    (places : List Place) (page : ℕ) (place : Place) {is : Bool} → flags ≡ map test places
    → now ≡ set flags page is → is ≡ test place → now ≡ map test (set places page place)
set_moved test places page place are changed tested = grind (arith, map-set)

-- no page is in the set of a place that the only place isn't
pub none_of : (test : Place → Bool) (x : Place) (n : ℕ) → test x ≡ false
    → replicate n false ≡ map test (replicate n x)
none_of test x zero e = refl
none_of test x (suc n) e = grind (arith, none_of test x n e)
