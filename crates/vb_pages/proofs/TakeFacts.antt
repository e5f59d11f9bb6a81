-- Pages that are taken from the areas and the lists, worked out, and what is left.
use Rattle.std.proofs.Common.{◌≡◌, ◌∙◌, ℕ, zero, suc, ◌^◌, ◌<◌, ◌≤◌, Bool, true, false, List, [], ◌∷◌}
use Rattle.std.proofs.Common.{◌++◌, Some, None, ap, arith, length, refl, replicate, reverse}
use Rattle.std.proofs.Common.{inl, inr, sym, subst, IsPermutation}
use Rattle.std.specs.{Ordering.nat_cmp, List.Sorted.IsSorted}
use Rattle.std.proofs.lemmas.List.{length-reverse, reverse-reverse}
use Rattle.std.proofs.{Math.Pow.pow-lt, lemmas.List.Sorted.{length_permutation, IsPermutation-refl}}
use Rattle.vb_pages.specs.Areas.{has, with_pages, without_pages, block_at, LiesIn, IsChosen}
use Rattle.vb_pages.specs.Areas.{HasNoBlock, TakesBlock}
use Rattle.vb_pages.specs.FreePages.{FreePages, drained, TakesPages, Refills, Tries, Serves, IsSoundFree}
use Rattle.vb_pages.specs.FreePages.{Pops, TakesSingle}
use Rattle.vb_pages.proofs.AreaFacts.{six, free, pair, there_is_a_pair}
use Rattle.vb_pages.proofs.ChoiceFacts.{spread, first_one, first_two, maximal_between, one_in}

-- ---- single pages, one after the other

-- none, and then pages 0 and 5
takes_in_turn : (new : List Bool) → (TakesPages six [] new → new ≡ six)
    × (TakesPages spread (0 ∷ 5 ∷ []) new → new
    ≡ false ∷ false ∷ true ∷ true ∷ false ∷ false ∷ false ∷ false ∷ true ∷ true ∷ [])
unfolding without_pages
takes_in_turn new = (
  λ t. t,
  λ t. t.2.2 ∙ (t.2.1.1 ∙ ap (λ (set : List Bool). without_pages (5 ∷ []) set) t.1.1),
)

-- not a page after another one, nor a part of a block while there is a smaller one
none_is_skipped : (new : List Bool) → (TakesPages spread (5 ∷ []) new → ⊥)
    × (TakesPages spread (2 ∷ []) new → ⊥)
none_is_skipped new = (λ t. behind 5 t.1.0 (omega arith), λ t. behind 2 t.1.0 (omega arith)) where
  behind : (page : ℕ) → ((larger : ℕ) × IsChosen spread 0 (block_at page larger)) → 0 < page → ⊥
  behind page is past =
      let few : is.0 ≤ 0 = is.1.smallest (block_at 0 0) first_one (omega arith) in
      omega (arith, past, is.1.lowest (block_at 0 0) first_one (omega (arith, few)))

-- ---- a list is filled

-- the only page of an area
one_page : TakesBlock (true ∷ []) 0 (Some 0) (false ∷ [])
unfolding without_pages
one_page = ((0, chosen), refl) where
  chosen : IsChosen (true ∷ []) 0 (block_at 0 0)
  chosen = record {
    maximal = maximal_between (true ∷ []) 0 0 (omega arith, refl) (one_in (true ∷ []) 0 refl)
        (λ lt. absurd (omega (arith, lt))) refl;
    sufficient = omega arith;
    smallest = λ c m le. omega arith;
    lowest = λ c m e. omega arith;
  }

-- the one page comes into the list
fills_one : Refills (true ∷ []) (0 ∷ []) (false ∷ [])
fills_one = record {
  taken = 0 ∷ [];
  rising = 0 ∷ [];
  takes = (false ∷ [], one_page, refl);
  most = omega arith;
  all = λ lt start is inside. (let wrong : has (false ∷ []) start ≡ true = inside start (omega arith) (omega arith)
      in by_start start wrong);
  same = IsPermutation-refl (0 ∷ []);
  sorted = λ k d low high. absurd (omega (arith, high));
  list_is = refl;
} where
  by_start : (start : ℕ) → has (false ∷ []) start ≡ true → ⊥
  by_start zero e = cc
  by_start (suc k) e = cc

-- eight come into it, whatever is left
fills_eight : (set new : List Bool) (taken rising : List ℕ) → TakesPages set taken new
    → length taken ≡ 8 → IsPermutation taken rising → IsSorted nat_cmp rising
    → Refills set (reverse rising) new
fills_eight set new taken rising takes count same sorted = record {
  taken = taken;
  rising = rising;
  takes = takes;
  most = omega (arith, count);
  all = λ few. absurd (omega (arith, count, few));
  same = same;
  sorted = sorted;
  list_is = refl;
}

-- n pages are taken as come into the list
as_many : (set new : List Bool) (list : List ℕ) (r : Refills set list new) → length r.taken ≡ length list
as_many set new list r = grind (arith, length-reverse, length_permutation)

nothing_taken : (set new : List Bool) (taken : List ℕ) → length taken ≡ 0 → TakesPages set taken new → new ≡ set
nothing_taken set new [] e t = t
nothing_taken set new (page ∷ pages) e t = absurd (omega (arith, e))

-- no page though there are some; nine pages; two of which the larger one comes out first; and a page
-- that leaves the areas and comes into no list
not_filled : (Refills spread [] spread → ⊥)
    × ((set new : List Bool) (list : List ℕ) → length list ≡ 9 → Refills set list new → ⊥)
    × ((set new : List Bool) → Refills set (2 ∷ 5 ∷ []) new → ⊥)
    × (Refills (true ∷ []) [] (false ∷ []) → ⊥)
not_filled = (
  λ r. r.all (omega (arith, as_many spread spread [] r)) 0 (omega arith, refl) first_one.inside,
  λ set new list e r. omega (arith, e, r.most, as_many set new list r),
  larger_first,
  λ r. (let same : false ∷ [] ≡ true ∷ [] =
      nothing_taken (true ∷ []) (false ∷ []) r.taken (as_many (true ∷ []) (false ∷ []) [] r) r.takes in cc),
) where
  larger_first : (set new : List Bool) → Refills set (2 ∷ 5 ∷ []) new → ⊥
  larger_first set new r =
      let e : r.rising ≡ 5 ∷ 2 ∷ [] =
      sym (reverse-reverse r.rising) ∙ ap (λ (xs : List ℕ). reverse xs) (sym r.list_is) in
      let falls = r.sorted 0 0 (omega arith) (omega (arith, ap (λ (xs : List ℕ). length xs) e)) in
      grind (arith, e, falls)

-- an empty list is filled, and then its last page comes out; and no page comes only where there is none
single : TakesSingle (true ∷ []) [] (Some 0) (false ∷ []) []
single = (0 ∷ [], fills_one, refl)

no_single : (TakesSingle spread [] None spread [] → ⊥)
    × ((new : List Bool) (page : ℕ) → TakesSingle [] [] (Some page) new (1 ∷ 2 ∷ 3 ∷ 4 ∷ 5 ∷ 6 ∷ 7 ∷ 8 ∷ []) → ⊥)
    × (Pops [] None (1 ∷ []) → ⊥)
no_single = (
  λ s. not_filled.0 (subst (λ (list : List ℕ). Refills spread list spread) s.2.0 s.1),
  λ new page s. not_filled.1 [] new s.0 (ap (λ (list : List ℕ). length list) s.2) s.1,
  λ pops. omega (arith, ap (λ (list : List ℕ). length list) pops.1),
)

-- ---- a request is tried

rest_is : (rest : List ℕ) → 3 ∷ 4 ∷ [] ≡ rest ++ 4 ∷ [] → rest ≡ 3 ∷ []
rest_is [] e = absurd (omega (arith, ap (λ (xs : List ℕ). length xs) e))
rest_is (x ∷ []) e = cc
rest_is (x ∷ y ∷ []) e = absurd (omega (arith, ap (λ (xs : List ℕ). length xs) e))
rest_is (x ∷ y ∷ z ∷ more) e = grind arith

-- a page comes from the list of its processor alone, a pair from the areas alone
tries_page : (new : FreePages) → Tries free 0 0 (Some 4) new
    → (new.areas ≡ free.areas) × (new.lists ≡ (3 ∷ []) ∷ [] ∷ (7 ∷ []) ∷ []) × (new.reserved ≡ 2)
tries_page new t =
    (t.1.0, t.2 ∙ ap (λ (rest : List ℕ). rest ∷ [] ∷ (7 ∷ []) ∷ []) (rest_is t.0 t.1.1), t.3)

abbrev areas_of : List Bool → FreePages
areas_of set = record free { areas = set }

-- pages 2 and 3 are a pair, and there is none in the other areas
tries_pair : (new : FreePages) → (Tries (areas_of spread) 0 1 (Some 2) new
    → (new.areas ≡ true ∷ false ∷ false ∷ false ∷ false ∷ true ∷ false ∷ false ∷ true ∷ true ∷ [])
    × (new.lists ≡ free.lists) × (new.reserved ≡ 2))
    × (Tries free 0 1 None new → (new.areas ≡ free.areas) × (new.lists ≡ free.lists) × (new.reserved ≡ 2))
unfolding without_pages
tries_pair new = (λ t. (t.0.1, t.1, t.2), λ t. (t.0.1, t.1, t.2))

-- the page that was put in first, a page while the list has some, and a pair after another, or none
-- though there is one
tries_no_other : (new : FreePages) → (Tries free 0 0 (Some 3) new → ⊥)
    × (Tries (areas_of spread) 0 1 (Some 8) new → ⊥) × (Tries (areas_of six) 0 1 None new → ⊥)
tries_no_other new = (
  λ t. omega (arith, ap last t.1.1, last_of t.0 3),
  λ t. pair_behind t.0.0,
  λ t. there_is_a_pair t.0.0,
) where
  last : List ℕ → ℕ
  last [] = 0
  last (x ∷ []) = x
  last (x ∷ y ∷ more) = last (y ∷ more)

  last_of : (xs : List ℕ) (x : ℕ) → last (xs ++ x ∷ []) ≡ x
  last_of [] x = refl
  last_of (y ∷ []) x = refl
  last_of (y ∷ z ∷ more) x = last_of (z ∷ more) x

  pair_behind : ((larger : ℕ) × IsChosen spread 1 (block_at 8 larger)) → ⊥
  pair_behind is = let some : 1 ≤ is.0 = is.1.sufficient in
      let few : is.0 ≤ 1 = is.1.smallest (block_at 2 1) first_two (omega arith) in
      omega (arith, is.1.lowest (block_at 2 1) first_two (omega (arith, some, few)))

-- ---- a request is tried twice

-- pages 2 and 3 are a pair once the lists are drained
serves_none : (new : FreePages) → (Serves free 0 9 None new
    → HasNoBlock free.areas 9 × HasNoBlock (drained free).areas 9 × (new ≡ drained free))
    × (Serves free 0 1 None new → ⊥) × (Serves (areas_of six) 0 1 None new → ⊥)
unfolding with_pages
serves_none new = (
  λ s. (s.0.0.0, s.1.0.0, s.2),
  λ s. s.1.0.0 2 (omega arith, refl) drained_pair,
  λ s. there_is_a_pair s.0.0.0,
) where
  drained_pair : LiesIn (drained free).areas pair
  drained_pair zero from to = absurd (omega (arith, from))
  drained_pair (suc zero) from to = absurd (omega (arith, from))
  drained_pair (suc (suc zero)) from to = refl
  drained_pair (suc (suc (suc zero))) from to = refl
  drained_pair (suc (suc (suc (suc k)))) from to = absurd (omega (arith, to))

-- the lists are drained where the areas have no pair, and not where they have one
serves_some : (start : ℕ) (new : FreePages)
    → (Serves (areas_of six) 0 1 (Some start) new → new.lists ≡ free.lists)
    × (Serves free 0 1 (Some start) new → new.lists ≡ [] ∷ [] ∷ [] ∷ [])
serves_some start new = (undrained start new, then_drained start new) where
  undrained : (start : ℕ) (new : FreePages) → Serves (areas_of six) 0 1 (Some start) new
      → new.lists ≡ free.lists
  undrained start new (inl first) = first.1
  undrained start new (inr (none, second)) = absurd (there_is_a_pair none.0.0)

  no_neighbours : (page : ℕ) → has free.areas page ≡ true → has free.areas (suc page) ≡ true → ⊥
  no_neighbours zero e also = cc
  no_neighbours (suc zero) e also = cc
  no_neighbours (suc (suc zero)) e also = cc
  no_neighbours (suc (suc (suc zero))) e also = cc
  no_neighbours (suc (suc (suc (suc zero)))) e also = cc
  no_neighbours (suc (suc (suc (suc (suc zero))))) e also = cc
  no_neighbours (suc (suc (suc (suc (suc (suc zero)))))) e also = cc
  no_neighbours (suc (suc (suc (suc (suc (suc (suc zero))))))) e also = cc
  no_neighbours (suc (suc (suc (suc (suc (suc (suc (suc k)))))))) e also = cc

  no_pair : (start : ℕ) → ((larger : ℕ) × IsChosen free.areas 1 (block_at start larger)) → ⊥
  no_pair start is = let some : 0 < is.0 = omega (arith, is.1.sufficient) in
      let more : 1 < 2 ^ is.0 = pow-lt {i = 0} some in
      no_neighbours start (is.1.maximal.inside start (omega arith) (omega (arith, more)))
      (is.1.maximal.inside (suc start) (omega arith) (omega (arith, more)))

  then_drained : (start : ℕ) (new : FreePages) → Serves free 0 1 (Some start) new
      → new.lists ≡ [] ∷ [] ∷ [] ∷ []
  then_drained start new (inl first) = absurd (no_pair start first.0.0)
  then_drained start new (inr (none, second)) = second.1

-- ---- free pages as the allocator keeps them

-- more than four lists, and more than 262,144 pages
unsound : (IsSoundFree (record free { lists = replicate 5 [] }) → ⊥)
    × ((f : FreePages) → length f.areas ≡ 262145 → IsSoundFree f → ⊥)
unsound = (λ s. omega (arith, s.few), λ f e s. omega (arith, e, s.small))
