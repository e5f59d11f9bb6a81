-- Sets of pages, processors' lists and blocks, worked out: of eight pages the first two are reserved.
use Rattle.std.proofs.Common.{◌≡◌, ℕ, zero, suc, ◌<◌, ◌≤◌, true, false, List, [], ◌∷◌, ◌++◌, map, slice_index}
use Rattle.std.{proofs.Common.{length, refl, arith, ap}, specs.Prelude.{Bool, Some, None, nat_lt}}
use Rattle.vb_virtio.specs.Tests.{one_if}
use Rattle.vb_model.specs.Pages.{Block}
use Rattle.vb_pages.specs.Held.{blocks_of}
use Rattle.vb_pages.specs.Areas.{block_at, with_pages, without_pages, unreserved, IsBlock, LiesIn}
use Rattle.vb_pages.specs.FreePages.{FreePages, times_free, free_count, is_free_in, drained, Pops}
use Rattle.vb_pages.specs.PageState.{PageState, freed, is_free_page, is_held_page, is_unreserved}
use Rattle.vb_pages.specs.{Areas.{IsMaximal, HasNoBlock, TakesBlock}, PageState.IsApart}
use Rattle.vb_pages.specs.FreePages.{TakesSingle, spilled, given_back, IsSoundFree, HasRoomFor, list_of}

-- ---- sets of pages

abbrev pub six : List Bool
six = false ∷ false ∷ true ∷ true ∷ true ∷ true ∷ true ∷ true ∷ []

all_but_two : unreserved 8 2 ≡ six
unfolding unreserved
all_but_two = refl

comes : with_pages (1 ∷ 3 ∷ 9 ∷ []) (false ∷ false ∷ true ∷ true ∷ []) ≡ false ∷ true ∷ true ∷ true ∷ []
unfolding with_pages
comes = refl

leaves : without_pages (1 ∷ 3 ∷ 9 ∷ []) (false ∷ true ∷ true ∷ true ∷ [])
    ≡ false ∷ false ∷ true ∷ false ∷ []
unfolding without_pages
leaves = refl

held : blocks_of (None ∷ Some 0 ∷ Some 1 ∷ None ∷ []) ≡ block_at 1 0 ∷ block_at 2 1 ∷ []
unfolding blocks_of
held = refl

-- ---- lists

abbrev pub free : FreePages
free = record {
  areas = false ∷ false ∷ true ∷ false ∷ false ∷ true ∷ false ∷ false ∷ [];
  lists = (3 ∷ 4 ∷ []) ∷ [] ∷ (7 ∷ []) ∷ [];
  reserved = 2;
}

times : map (times_free free) (1 ∷ 2 ∷ 3 ∷ 4 ∷ 6 ∷ 7 ∷ 8 ∷ []) ≡ 0 ∷ 1 ∷ 1 ∷ 1 ∷ 0 ∷ 1 ∷ 0 ∷ []
times = refl

are_free : map (is_free_in free) (1 ∷ 2 ∷ 3 ∷ 6 ∷ []) ≡ false ∷ true ∷ true ∷ false ∷ []
are_free = refl

five : free_count free ≡ 5
five = refl

all_drained : drained free ≡ record {
  areas = false ∷ false ∷ true ∷ true ∷ true ∷ true ∷ false ∷ true ∷ [];
  lists = [] ∷ [] ∷ [] ∷ [];
  reserved = 2;
}
unfolding with_pages
all_drained = refl

-- the page that was put in last comes out first
last_comes_out : Pops (3 ∷ 4 ∷ []) (Some 4) (3 ∷ [])
last_comes_out = refl

first_stays : Pops (3 ∷ 4 ∷ []) (Some 3) (4 ∷ []) → ⊥
first_stays pops = omega (arith, ap (λ (l : List ℕ). slice_index l 0) pops)

nothing_comes_out : Pops (3 ∷ []) None [] → ⊥
nothing_comes_out pops = omega (arith, ap (λ (l : List ℕ). length l) pops.0)

from_its_list : TakesSingle six (3 ∷ 4 ∷ []) (Some 4) six (3 ∷ [])
from_its_list = (refl, refl)

-- a page goes last into its processor's list, and a block into the areas
page_back : given_back 1 6 0 free ≡ record free { lists = (3 ∷ 4 ∷ []) ∷ (6 ∷ []) ∷ (7 ∷ []) ∷ [] }
page_back = refl

block_back : given_back 1 6 1 (record free { lists = [] })
    ≡ record free { areas = false ∷ false ∷ true ∷ false ∷ false ∷ true ∷ true ∷ true ∷ []; lists = [] }
unfolding with_pages
block_back = refl

-- with fifteen pages nothing spills; with sixteen the first eight do
abbrev fifteen : List ℕ
fifteen = 2 ∷ 3 ∷ 4 ∷ 5 ∷ 6 ∷ 7 ∷ 8 ∷ 9 ∷ 10 ∷ 11 ∷ 12 ∷ 13 ∷ 14 ∷ 15 ∷ 16 ∷ []

abbrev listed : List ℕ → FreePages
listed list = record { areas = false ∷ false ∷ false ∷ false ∷ []; lists = list ∷ []; reserved = 2 }

fifteen_stay : spilled 0 (listed fifteen) ≡ listed fifteen
fifteen_stay = refl

sixteen_spill : spilled 0 (listed (fifteen ++ 17 ∷ [])) ≡ record {
  areas = false ∷ false ∷ true ∷ true ∷ [];
  lists = (10 ∷ 11 ∷ 12 ∷ 13 ∷ 14 ∷ 15 ∷ 16 ∷ 17 ∷ []) ∷ [];
  reserved = 2;
}
unfolding with_pages
sixteen_spill = refl

twice_is_unsound : IsSoundFree (record free { lists = (2 ∷ []) ∷ [] }) → ⊥
twice_is_unsound sound = omega (arith, sound.once 2)

full_is_unsound : IsSoundFree (listed (fifteen ++ 17 ∷ [])) → ⊥
full_is_unsound sound = omega (arith, sound.short 0)

-- a block of eight pages isn't one of four
no_room_for_eight : HasRoomFor (listed []) 0 3 → ⊥
no_room_for_eight room = omega (arith, room.1)

-- four processors at most, and 262,144 pages
largest_is_sound : (f : FreePages) → length f.lists ≡ 4 → length f.areas ≡ 262144
    → ((page : ℕ) → times_free f page ≤ one_if (nat_lt page (length f.areas)))
    → ((cpu : ℕ) → length (list_of f cpu) < 16) → IsSoundFree f
largest_is_sound f processors pages once short =
    record { once = once; short = short; few = omega (arith, processors); small = omega (arith, pages) }

-- ---- blocks

-- a block begins at a multiple of its size, and has order 9 at the most
aligned : IsBlock (block_at 4 2)
aligned = (omega arith, refl)

largest : IsBlock (block_at 512 9)
largest = (omega arith, refl)

misaligned : IsBlock (block_at 2 2) → ⊥
misaligned is = (let wrong : false ≡ true = is.1 in absurd cc)

too_large : IsBlock (block_at 0 10) → ⊥
too_large is = omega (arith, is.0)

abbrev pub pair : Block
pair = block_at 2 1

pub pair_is_free : LiesIn six pair
pair_is_free zero from to = absurd (omega (arith, from))
pair_is_free (suc zero) from to = absurd (omega (arith, from))
pair_is_free (suc (suc zero)) from to = refl
pair_is_free (suc (suc (suc zero))) from to = refl
pair_is_free (suc (suc (suc (suc k)))) from to = absurd (omega (arith, to))

-- page 1 isn't free
beside : LiesIn six (block_at 0 1) → ⊥
beside inside = (let wrong : false ≡ true = inside 1 (omega arith) (omega arith) in absurd cc)

-- page 2 is half of a free block, so it is no maximal one, and no request gets it
half : IsMaximal six (block_at 2 0) → ⊥
half maximal =
    omega (arith, maximal.alone pair (omega arith, refl) pair_is_free (omega arith, omega arith))

pub there_is_a_pair : HasNoBlock six 1 → ⊥
there_is_a_pair none = none 2 (omega arith, refl) pair_is_free

nothing_is_taken : TakesBlock six 1 None six → ⊥
nothing_is_taken takes = there_is_a_pair takes.0

-- ---- blocks that are held

abbrev pub state : PageState
state = record { free = free; held = block_at 6 0 ∷ [] }

page_freed : freed 1 (block_at 6 0) state ≡ record { free = given_back 1 6 0 free; held = [] }
page_freed = refl

where_pages_are : map (is_free_page state) (5 ∷ 6 ∷ []) ++ map (is_held_page state) (5 ∷ 6 ∷ [])
    ++ map (is_unreserved state) (1 ∷ 2 ∷ 7 ∷ 8 ∷ [])
    ≡ true ∷ false ∷ false ∷ true ∷ false ∷ true ∷ true ∷ false ∷ []
where_pages_are = refl

free_and_held : IsApart (record state { held = block_at 5 0 ∷ [] }) → ⊥
free_and_held apart = omega (arith, apart 5)

no_room : HasRoomFor free 4 1 → ⊥
no_room room = (let wrong : true ≡ false = room.2 5 (omega arith) (omega arith) in absurd cc)

-- nor is there for pages that are no block, or that lie past the end; for two that aren't free there is
no_other_room : (HasRoomFor free 1 1 → ⊥) × (HasRoomFor free 8 0 → ⊥)
no_other_room =
    (λ room. (let wrong : false ≡ true = room.0.1 in absurd cc), λ room. omega (arith, room.1))

room : HasRoomFor (record free { lists = [] }) 6 1
room = ((omega arith, refl), omega arith, outside) where
  outside : (page : ℕ) → 6 ≤ page → page < 8 → is_free_in (record free { lists = [] }) page ≡ false
  outside page from to = grind arith
