-- Free pages: the areas, and a list for each processor (profile).
use Rattle.std.specs.Prelude.{◌≡◌, ℕ, zero, suc, ◌+◌, ◌^◌, ◌<◌, ◌≤◌, Bool, false, ◌==◌, ◌||◌, ◌⊎◌}
use Rattle.std.specs.Prelude.{nat_lt, List, [], ◌∷◌, ◌++◌, length, map, reverse, take, drop}
use Rattle.std.specs.Prelude.{if◌then◌else◌, Option, Some, None, slice_index_or, slice_set}
use Rattle.std.specs.Prelude.{count_by, IsPermutation}
use Rattle.std.specs.Ordering.{nat_cmp}
use Rattle.std.specs.List.{flat_map}
use Rattle.std.specs.List.Sorted.{IsSorted}
use Rattle.vb_virtio.specs.Tests.{is_in, one_if}
use Rattle.vb_virtio.specs.declared.limits.TheConstants.{MAX_PROCESSORS}
use Rattle.vb_model.specs.Pages.{pages_of}
use Rattle.vb_pages.specs.declared.table.TheConstants.{MAX_PAGES}
use Rattle.vb_pages.specs.declared.lists.TheConstants.{LIST_SIZE, BATCH}
use Rattle.vb_pages.specs.Areas.{has, with_pages, block_at, IsBlock, HasNoBlock, TakesBlock}

pub record FreePages : Type 0 where
  pub areas : List Bool
  pub lists : List (List ℕ)
  -- how many of the first pages are never free
  pub reserved : ℕ

-- the pages of all lists
abbrev pub in_lists : FreePages → List ℕ
in_lists f = flat_map (λ list. list) f.lists

-- in the areas or in a list
abbrev pub is_free_in : FreePages → ℕ → Bool
is_free_in f page = has f.areas page || is_in page (in_lists f)

-- how often the page is free: not at all or once
abbrev pub times_free : FreePages → ℕ → ℕ
times_free f page = one_if (has f.areas page) + count_by (λ p. p == page) (in_lists f)

-- how many pages the areas and the lists have
abbrev pub free_count : FreePages → ℕ
free_count f = count_by (λ flag. flag) f.areas + length (in_lists f)

-- the processor's list: what was put in last is last
abbrev pub list_of : FreePages → ℕ → List ℕ
list_of f cpu = slice_index_or f.lists cpu []

abbrev pub with_list : ℕ → List ℕ → FreePages → FreePages
with_list cpu list f = record f { lists = slice_set f.lists cpu list }

-- all lists go back to the areas
abbrev pub drained : FreePages → FreePages
drained f =
    record f { areas = with_pages (in_lists f) f.areas; lists = map (λ list. []) f.lists }

-- these single pages are taken from the areas, one after the other
abbrev pub TakesPages : List Bool → List ℕ → List Bool → Type 0
TakesPages set [] new = new ≡ set
TakesPages set (page ∷ pages) new = (next : List Bool) × TakesBlock set 0 (Some page) next ×
    TakesPages next pages new

-- how many pages a refill takes, where there are as many
abbrev pub refill_size : ℕ
refill_size = BATCH

-- up to eight single pages are taken, and put into a list so that they come out in rising order
pub record Refills (set : List Bool) (list : List ℕ) (new : List Bool) : Type 0 where
  pub taken : List ℕ
  pub rising : List ℕ
  pub takes : TakesPages set taken new
  pub most : length taken ≤ refill_size
  pub all : length taken < refill_size → HasNoBlock new 0
  pub same : IsPermutation taken rising
  pub sorted : IsSorted nat_cmp rising
  pub list_is : list ≡ reverse rising

-- the page that was put in last comes out of a list
abbrev pub Pops : List ℕ → Option ℕ → List ℕ → Type 0
Pops list None rest = (list ≡ []) × (rest ≡ [])
Pops list (Some page) rest = list ≡ rest ++ page ∷ []

-- a list is refilled if it is empty, and then its last page comes out
abbrev pub TakesSingle : List Bool → List ℕ → Option ℕ → List Bool → List ℕ → Type 0
TakesSingle set [] got new rest = (filled : List ℕ) × Refills set filled new × Pops filled got rest
TakesSingle set (page ∷ pages) got new rest = (new ≡ set) × Pops (page ∷ pages) got rest

-- a page by the processor's list, a larger block from the areas
abbrev pub Tries : FreePages → ℕ → ℕ → Option ℕ → FreePages → Type 0
Tries f cpu zero got new =
    (rest : List ℕ) × TakesSingle f.areas (list_of f cpu) got new.areas rest ×
    (new.lists ≡ slice_set f.lists cpu rest) × (new.reserved ≡ f.reserved)
Tries f cpu (suc order) got new = TakesBlock f.areas (suc order) got new.areas ×
    (new.lists ≡ f.lists) × (new.reserved ≡ f.reserved)

-- where the areas have nothing, all lists are drained, and it is tried once more
abbrev pub Serves : FreePages → ℕ → ℕ → Option ℕ → FreePages → Type 0
Serves f cpu order None new = Tries f cpu order None f ×
    Tries (drained f) cpu order None (drained f) × (new ≡ drained f)
Serves f cpu order (Some start) new =
    Tries f cpu order (Some start) new ⊎ (Tries f cpu order None f ×
    Tries (drained f) cpu order (Some start) new)

-- a list of sixteen sends the eight that were put in first back to the areas
abbrev pub spilled : ℕ → FreePages → FreePages
spilled cpu f =
    if length (list_of f cpu) == LIST_SIZE
    then record f {
      areas = with_pages (take BATCH (list_of f cpu)) f.areas;
      lists = slice_set f.lists cpu (drop BATCH (list_of f cpu));
    }
    else f

-- a block comes back: a page into the processor's list, a larger block into the areas
abbrev pub given_back : ℕ → ℕ → ℕ → FreePages → FreePages
given_back cpu start zero f = spilled cpu (with_list cpu (list_of f cpu ++ start ∷ []) f)
given_back cpu start (suc order) f =
    record f { areas = with_pages (pages_of (block_at start (suc order))) f.areas }

-- no page is free twice, no list is full, and there are as few processors and pages as may be
pub record IsSoundFree (f : FreePages) : Type 0 where
  pub once : (page : ℕ) → times_free f page ≤ one_if (nat_lt page (length f.areas))
  pub short : (cpu : ℕ) → length (list_of f cpu) < LIST_SIZE
  pub few : length f.lists ≤ MAX_PROCESSORS
  pub small : length f.areas ≤ MAX_PAGES

-- the block is there, and none of its pages is free
abbrev pub HasRoomFor : FreePages → ℕ → ℕ → Type 0
HasRoomFor f start order =
    IsBlock (block_at start order)
    × (start + 2 ^ order ≤ length f.areas)
    × ((page : ℕ) → start ≤ page → page < start + 2 ^ order → is_free_in f page ≡ false)
