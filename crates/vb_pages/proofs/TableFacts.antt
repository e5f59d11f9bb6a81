-- Tables of blocks, the sets that represent them, and their lowest blocks, worked out.
use Rattle.std.proofs.Common.{◌≡◌, ℕ, zero, suc, ◌+◌, ◌%◌, ◌^◌, ◌<◌, ◌≤◌, Bool, true, false, List, [], ◌∷◌}
use Rattle.std.proofs.Common.{Option, Some, None, ap, arith, length, refl, replicate, inl, inr}
use Rattle.std.proofs.Common.{subst, sym, ◌∙◌, ◌++◌, map}
use Rattle.vb_pages.specs.Table.{order_at, AreBlocks, room_of, set_of_order, sets_of, is_in_sets}
use Rattle.vb_pages.specs.Table.{table_of, AreSetsOf}
use Rattle.vb_pages.specs.Table.{IsLowestStart}
use Rattle.vb_pages.specs.Tiles.{is_covered, set_of, IsPlaced, IsMerged, IsBuddy, HasRoom, IsTiled}
use Rattle.vb_pages.specs.Areas.{LiesOutside, block_at}
use Rattle.vb_pages.specs.{Tiles.IsLowestListed, declared.block.FreeBlock.FreeBlock}

abbrev or_none : Option ℕ → ℕ
or_none None = 10
or_none (Some order) = order

-- ---- blocks

-- a pair that takes all of a table of two pages
pair : AreBlocks (Some 1 ∷ None ∷ [])
pair = record { bounded = bounded; aligned = aligned; fits = fits } where
  bounded : (start order : ℕ) → order_at (Some 1 ∷ None ∷ []) start ≡ Some order → order ≤ 9
  bounded zero order e = omega (arith, ap or_none e)
  bounded (suc zero) order e = absurd cc
  bounded (suc (suc k)) order e = absurd cc

  aligned : (start order : ℕ) → order_at (Some 1 ∷ None ∷ []) start ≡ Some order
      → start % 2 ^ order ≡ 0
  aligned zero order e = omega arith
  aligned (suc zero) order e = absurd cc
  aligned (suc (suc k)) order e = absurd cc

  fits : (start order : ℕ) → order_at (Some 1 ∷ None ∷ []) start ≡ Some order → start + 2 ^ order ≤ 2
  fits zero order e = subst (λ k. 0 + 2 ^ k ≤ 2) (ap or_none e) (omega arith)
  fits (suc zero) order e = absurd cc
  fits (suc (suc k)) order e = absurd cc

-- an order past 9, a pair that begins with page 1, and one of which the table has half
no_blocks : (AreBlocks (Some 10 ∷ replicate 1023 None) → ⊥) × (AreBlocks (None ∷ Some 1 ∷ None ∷ []) → ⊥)
    × (AreBlocks (Some 1 ∷ []) → ⊥)
no_blocks = (
  λ are. omega (arith, are.bounded 0 10 refl),
  λ are. omega (arith, are.aligned 1 1 refl),
  λ are. omega (arith, are.fits 0 1 refl),
)

-- ---- sets

-- the set of each order for a table of one page, in which that page is a block, or no block is
abbrev sets : Bool → Bool → List (List Bool)
sets page larger = (page ∷ []) ∷ (larger ∷ []) ∷ replicate 8 (false ∷ [])

sets_are : (sets_of (Some 0 ∷ []) ≡ sets true false) × (table_of 1 (sets true false) ≡ Some 0 ∷ [])
    × (sets_of [] ≡ sets false false) × (table_of 0 (sets false false) ≡ [])
unfolding sets_of set_of_order table_of
sets_are = (refl, refl, refl, refl)

-- eight pages: page 1, pages 2 and 3, and pages 4 to 7
abbrev eight : List (Option ℕ)
eight = None ∷ Some 0 ∷ Some 1 ∷ None ∷ Some 2 ∷ None ∷ None ∷ None ∷ []

rooms : map (λ order. room_of order 8) (0 ∷ 1 ∷ 2 ∷ 3 ∷ 4 ∷ []) ≡ 8 ∷ 4 ∷ 2 ∷ 1 ∷ 1 ∷ []
rooms = refl

their_sets : map (λ order. set_of_order order eight) (0 ∷ 1 ∷ 2 ∷ 3 ∷ [])
    ≡ (false ∷ true ∷ replicate 6 false) ∷ (false ∷ true ∷ false ∷ false ∷ []) ∷ (false ∷ true ∷ [])
    ∷ (false ∷ []) ∷ []
unfolding set_of_order
their_sets = refl

-- the first page of each, by its order, and no page besides
in_sets : map (is_in_sets (sets_of eight) 4) (0 ∷ 1 ∷ 2 ∷ 3 ∷ [])
    ++ map (λ page. is_in_sets (sets_of eight) page 1) (1 ∷ 2 ∷ 3 ∷ 4 ∷ 6 ∷ [])
    ≡ false ∷ false ∷ true ∷ false ∷ false ∷ true ∷ false ∷ false ∷ false ∷ []
unfolding sets_of set_of_order
in_sets = refl

there_and_back : table_of 8 (sets_of eight) ≡ eight
unfolding sets_of set_of_order table_of
there_and_back = refl

-- the largest block, and its set
largest : set_of_order 9 (Some 9 ∷ replicate 511 None) ∷ [] ≡ (true ∷ []) ∷ []
unfolding set_of_order
largest = refl

found_by_the_last_set : table_of 1 (replicate 9 (false ∷ []) ++ (true ∷ []) ∷ []) ≡ Some 9 ∷ []
unfolding table_of
found_by_the_last_set = refl

-- which pages are in a block: of order 9 at most
covered : map (is_covered eight) (0 ∷ 1 ∷ 2 ∷ 3 ∷ 4 ∷ 5 ∷ 6 ∷ 7 ∷ [])
    ≡ false ∷ true ∷ true ∷ true ∷ true ∷ true ∷ true ∷ true ∷ []
unfolding is_covered
covered = refl

in_the_largest : is_covered (Some 9 ∷ replicate 511 None) 511
    ∷ is_covered (Some 10 ∷ replicate 1023 None) 1 ∷ [] ≡ true ∷ false ∷ []
unfolding is_covered
in_the_largest = refl

-- too many pages, a set that is missing, one with a number too many, and a block past the end
no_sets : ((all : List (List Bool)) → AreSetsOf 262145 all → ⊥) × (AreSetsOf 1 [] → ⊥)
    × (AreSetsOf 1 ((true ∷ false ∷ []) ∷ replicate 9 (false ∷ [])) → ⊥)
    × (AreSetsOf 1 (sets false true) → ⊥)
unfolding sets_of set_of_order table_of
no_sets = (
  λ all are. omega (arith, are.small),
  λ are. omega (arith, ap (λ (all : List (List Bool)). length all) are.same),
  λ are. omega (arith, ap first_length are.same),
  λ are. omega (arith, are.blocks.fits 0 1 refl),
) where
  first_length : List (List Bool) → ℕ
  first_length [] = 0
  first_length (set ∷ more) = length set

-- ---- the lowest start of a block of an order

-- page 0, pages 2 and 3, and page 4
abbrev three : List (Option ℕ)
three = Some 0 ∷ None ∷ Some 1 ∷ None ∷ Some 0 ∷ []

lowest_start : IsLowestStart three 0 0 (Some 0) × IsLowestStart three 0 1 (Some 4)
    × IsLowestStart three 2 0 None
lowest_start = (
  (refl, omega arith, λ page from e. omega arith),
  (refl, omega arith, from_one),
  none_of_two,
) where
  from_one : (page : ℕ) → 1 ≤ page → order_at three page ≡ Some 0 → 4 ≤ page
  from_one zero from e = absurd (omega (arith, from))
  from_one (suc zero) from e = absurd cc
  from_one (suc (suc zero)) from e = absurd (omega (arith, ap or_none e))
  from_one (suc (suc (suc zero))) from e = absurd cc
  from_one (suc (suc (suc (suc k)))) from e = omega arith

  none_of_two : (page : ℕ) → 0 ≤ page → order_at three page ≡ Some 2 → ⊥
  none_of_two zero from e = omega (arith, ap or_none e)
  none_of_two (suc zero) from e = cc
  none_of_two (suc (suc zero)) from e = omega (arith, ap or_none e)
  none_of_two (suc (suc (suc zero))) from e = cc
  none_of_two (suc (suc (suc (suc zero)))) from e = omega (arith, ap or_none e)
  none_of_two (suc (suc (suc (suc (suc k))))) from e = cc

-- none though there is one, one of another order, one before the page, and one after another
not_lowest_start : (IsLowestStart three 0 4 None → ⊥) × (IsLowestStart three 0 1 (Some 2) → ⊥)
    × (IsLowestStart three 0 1 (Some 0) → ⊥) × (IsLowestStart three 0 0 (Some 4) → ⊥)
not_lowest_start = (
  λ is. is 4 (omega arith) refl,
  λ is. omega (arith, ap or_none is.0),
  λ is. omega (arith, is.1),
  λ is. omega (arith, is.2 0 (omega arith) refl),
)

-- ---- the lowest block of some order at least

abbrev block : ℕ → ℕ → FreeBlock
block start order = record { start = start; order = order }

lowest_listed : IsLowestListed three 0 1 (Some (block 2 1)) × IsLowestListed three 0 5 None
lowest_listed = ((refl, omega arith, omega arith, omega arith, from_one), none_behind) where
  from_one : (start larger : ℕ) → 0 ≤ larger → larger ≤ 9 → 1 ≤ start
      → order_at three start ≡ Some larger → 2 ≤ start
  from_one zero larger some few from e = absurd (omega (arith, from))
  from_one (suc zero) larger some few from e = absurd cc
  from_one (suc (suc k)) larger some few from e = omega arith

  none_behind : (start larger : ℕ) → 0 ≤ larger → larger ≤ 9 → 5 ≤ start
      → order_at three start ≡ Some larger → ⊥
  none_behind zero larger some few from e = omega (arith, from)
  none_behind (suc zero) larger some few from e = omega (arith, from)
  none_behind (suc (suc zero)) larger some few from e = omega (arith, from)
  none_behind (suc (suc (suc zero))) larger some few from e = omega (arith, from)
  none_behind (suc (suc (suc (suc zero)))) larger some few from e = omega (arith, from)
  none_behind (suc (suc (suc (suc (suc k))))) larger some few from e = cc

-- an order past 9 is no block's
no_order_past_nine : IsLowestListed (Some 10 ∷ []) 0 0 None
no_order_past_nine zero larger some few from e = omega (arith, few, ap or_none e)
no_order_past_nine (suc k) larger some few from e = cc

-- none though there is one, another order than its own, too small a block, too large a one, one
-- before the page, and one after a larger one
not_lowest_listed : (IsLowestListed three 1 2 None → ⊥)
    × (IsLowestListed three 0 2 (Some (block 2 0)) → ⊥)
    × (IsLowestListed three 1 0 (Some (block 0 0)) → ⊥)
    × (IsLowestListed (Some 10 ∷ []) 0 0 (Some (block 0 10)) → ⊥)
    × (IsLowestListed three 0 1 (Some (block 0 0)) → ⊥)
    × (IsLowestListed three 0 2 (Some (block 4 0)) → ⊥)
not_lowest_listed = (
  λ is. is 2 1 (omega arith) (omega arith) (omega arith) refl,
  λ is. omega (arith, ap or_none is.0),
  λ is. omega (arith, is.1),
  λ is. omega (arith, is.2),
  λ is. omega (arith, is.3),
  λ is. omega (arith, is.4 2 1 (omega arith) (omega arith) (omega arith) refl),
)

-- ---- blocks that lie side by side

-- a pair; and not one with the page in its midst, nor half of a pair
placed : IsPlaced (Some 1 ∷ None ∷ [])
placed = record { blocks = pair; apart = apart } where
  apart : (start order other k : ℕ) → order_at (Some 1 ∷ None ∷ []) start ≡ Some order
      → start < other → other < start + 2 ^ order → order_at (Some 1 ∷ None ∷ []) other ≡ Some k → ⊥
  apart zero order zero k e from to also = omega (arith, from)
  apart zero order (suc zero) k e from to also = cc
  apart zero order (suc (suc j)) k e from to also = cc
  apart (suc zero) order other k e from to also = cc
  apart (suc (suc i)) order other k e from to also = cc

not_placed : (IsPlaced (Some 1 ∷ Some 0 ∷ []) → ⊥) × (IsPlaced (Some 1 ∷ []) → ⊥)
not_placed = (
  λ is. is.apart 0 1 1 0 refl (omega arith) (omega arith) refl,
  λ is. omega (arith, is.blocks.fits 0 1 refl),
)

-- two pages that are no halves of a pair stay two blocks; two that are, and two pairs that are, don't
merged : IsMerged (None ∷ Some 0 ∷ Some 0 ∷ [])
merged zero order e also even few = cc
merged (suc zero) order e also even few =
    let odd : 1 % 2 ≡ 0 = subst (λ k. 1 % 2 ^ suc k ≡ 0) (sym (ap or_none e)) even in omega (arith, odd)
merged (suc (suc zero)) order e also even few = none_behind order (sym (ap or_none e)) also where
  none_behind : (order : ℕ) → order ≡ 0 → order_at (None ∷ Some 0 ∷ Some 0 ∷ []) (2 + 2 ^ order) ≡ Some order → ⊥
  none_behind zero is also = cc
  none_behind (suc k) is also = omega (arith, is)
merged (suc (suc (suc k))) order e also even few = cc

not_merged : (IsMerged (Some 0 ∷ Some 0 ∷ []) → ⊥) × (IsMerged (Some 1 ∷ None ∷ Some 1 ∷ None ∷ []) → ⊥)
not_merged = (λ is. is 0 0 refl refl refl (omega arith), λ is. is 0 1 refl refl refl (omega arith))

-- each block has order 9
abbrev AreLargest : List (Option ℕ) → Type 0
AreLargest [] = Unit {0}
AreLargest (None ∷ table) = AreLargest table
AreLargest (Some order ∷ table) = (order ≡ 9) × AreLargest table

largest_at : (table : List (Option ℕ)) → AreLargest table → (start order : ℕ)
    → order_at table start ≡ Some order → order ≡ 9
largest_at [] are start order e = absurd cc
largest_at (None ∷ table) are zero order e = absurd cc
largest_at (Some k ∷ table) are zero order e = sym (ap or_none e) ∙ are.0
largest_at (None ∷ table) are (suc start) order e = largest_at table are start order e
largest_at (Some k ∷ table) are (suc start) order e = largest_at table are.1 start order e

-- two of the largest blocks side by side stay two
largest_stay : IsMerged (Some 9 ∷ replicate 511 None ++ Some 9 ∷ replicate 511 None)
largest_stay start order e also even few =
    omega (
      arith,
      few,
      largest_at (Some 9 ∷ replicate 511 None ++ Some 9 ∷ replicate 511 None)
          (refl, (refl, tt)) start order e,
    )

-- pages 4 and 5, and pages 6 and 7, are the halves of a block; no others are with pages 4 and 5
buddies : IsBuddy 4 1 6 × IsBuddy 6 1 4
buddies = (inl (refl, refl), inr ((λ e. omega (arith, e)), refl, refl))

no_buddies : (IsBuddy 4 1 2 → ⊥) × (IsBuddy 4 1 5 → ⊥) × (IsBuddy 6 1 8 → ⊥) × (IsBuddy 2 1 4 → ⊥)
no_buddies = (λ is. grind arith, λ is. grind arith, λ is. grind arith, λ is. grind arith)

-- ---- room for a block

-- pages 0 and 1 of a table in which page 2 is a block
abbrev third : List (Option ℕ)
third = None ∷ None ∷ Some 0 ∷ None ∷ []

room : HasRoom third 0 1
unfolding set_of is_covered
room = record { bounded = omega arith; aligned = refl; fits = omega arith; outside = outside } where
  outside : LiesOutside (set_of third) (block_at 0 1)
  outside zero from to = refl
  outside (suc zero) from to = refl
  outside (suc (suc k)) from to = absurd (omega (arith, to))

-- too large an order, pages 1 and 2, a page past the end, and pages of which one is in a block
no_room : (HasRoom (replicate 1024 None) 0 10 → ⊥) × (HasRoom third 1 1 → ⊥) × (HasRoom third 4 0 → ⊥)
    × (HasRoom third 2 1 → ⊥)
unfolding set_of is_covered
no_room = (
  λ has. omega (arith, has.bounded),
  λ has. omega (arith, has.aligned),
  λ has. omega (arith, has.fits),
  λ has. (let wrong : true ≡ false = has.outside 2 (omega arith) (omega arith) in cc),
)

-- ---- tables as the allocator keeps them

-- one with a block in another, one with both halves of a block, and one of too many pages
not_tiled : (IsTiled (Some 1 ∷ Some 0 ∷ []) → ⊥) × (IsTiled (Some 0 ∷ Some 0 ∷ []) → ⊥)
    × ((table : List (Option ℕ)) → length table ≡ 262145 → IsTiled table → ⊥)
not_tiled = (
  λ is. not_placed.0 is.placed,
  λ is. not_merged.0 is.merged,
  λ table e is. omega (arith, e, is.small),
)
