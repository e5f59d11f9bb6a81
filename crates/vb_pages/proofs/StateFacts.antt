-- What each call does to free and held pages, worked out: of eight pages the first two are reserved.
use Rattle.std.proofs.Common.{◌≡◌, ℕ, zero, suc, ◌<◌, ◌≤◌, true, false, List, [], ◌∷◌}
use Rattle.std.proofs.Common.{Some, None, Ok, Err, ap, arith, refl, sym, subst}
use Rattle.vb_model.specs.Pages.{Block}
use Rattle.vb_pages.specs.Areas.{with_pages, without_pages, block_at, IsMaximal, IsLowestFrom}
use Rattle.vb_pages.specs.FreePages.{FreePages, drained, Serves}
use Rattle.vb_pages.specs.PageState.{PageState, IsWhollyFree, AllocatesBlock, TakesFree, Isolates}
use Rattle.vb_pages.specs.PageState.{IsKept, IsGuestSize, HasRoomIn, is_free_page, is_held_page}
use Rattle.vb_pages.specs.declared.{block.FreeBlock.FreeBlock, fault.PageFault.{PageFault, TheVariants.NoPages}}
use Rattle.vb_pages.proofs.{AreaFacts.{free, pair, state}, ChoiceFacts.{maximal_between, one_in}}

-- ---- blocks that are free

-- page 2 in the areas, and page 3 in a list; page 6 is held
wholly_free : IsWhollyFree state pair
wholly_free zero is = absurd cc
wholly_free (suc zero) is = absurd cc
wholly_free (suc (suc zero)) is = refl
wholly_free (suc (suc (suc zero))) is = refl
wholly_free (suc (suc (suc (suc k)))) is = absurd (grind arith)

not_wholly_free : (IsWhollyFree state (block_at 6 1) → ⊥) × (IsWhollyFree state (block_at 0 2) → ⊥)
not_wholly_free = (
  λ is. (let wrong : false ≡ true = is 6 refl in cc),
  λ is. (let wrong : false ≡ true = is 1 refl in cc),
)

-- ---- a request

-- the block is held from then on, by its start, and the free pages served it
allocates : (new : PageState) → AllocatesBlock state 0 0 (Ok 4) new
    → Serves free 0 0 (Some 4) new.free × (new.held ≡ block_at 4 0 ∷ block_at 6 0 ∷ [])
allocates new a = (
  subst (λ (f : FreePages). Serves free 0 0 (Some 4) f) (sym (ap (λ (s : PageState). s.free) a.2)) a.1,
  ap (λ (s : PageState). s.held) a.2,
)

-- one reason alone refuses it, after all lists were drained, and what is held stays so
refuses : (fault : PageFault) (new : PageState) → AllocatesBlock state 0 9 (Err fault) new
    → (fault ≡ NoPages) × Serves free 0 9 None new.free × (new.free ≡ drained free)
    × (new.held ≡ block_at 6 0 ∷ [])
refuses fault new a = (a.0, a.1, a.1.2, a.2)

-- ---- single pages are taken

-- none is taken, and the lists are drained all the same
takes_free : (new : PageState) → TakesFree state [] new
    → (new.free.areas ≡ false ∷ false ∷ true ∷ true ∷ true ∷ true ∷ false ∷ true ∷ [])
    × (new.free.lists ≡ [] ∷ [] ∷ [] ∷ []) × (new.held ≡ block_at 6 0 ∷ []) × (new.free.reserved ≡ 2)
unfolding with_pages
takes_free new t = (t.0, t.1, t.2, t.3)

-- ---- a block is isolated

-- once the lists are drained, page 7 is a block of its own
last_page : IsMaximal (drained free).areas (block_at 7 0)
unfolding with_pages
last_page = maximal_between (drained free).areas 7 0 (omega arith, refl)
    (one_in (drained free).areas 7 refl) (λ lt. refl) refl

abbrev page_seven : FreeBlock
page_seven = record { start = 7; order = 0 }

-- page 7 leaves the areas, and nothing else changes but what is drained
isolates : (new : PageState) → Isolates state 0 7 (Some page_seven) new
    → (new.free.areas ≡ false ∷ false ∷ true ∷ true ∷ true ∷ true ∷ false ∷ false ∷ [])
    × (new.free.lists ≡ [] ∷ [] ∷ [] ∷ []) × (new.held ≡ block_at 6 0 ∷ []) × (new.free.reserved ≡ 2)
    × IsLowestFrom (drained free).areas 0 7 (block_at 7 0)
unfolding with_pages without_pages
isolates new is = (
  ap (λ (s : PageState). s.free.areas) is.1,
  ap (λ (s : PageState). s.free.lists) is.1,
  ap (λ (s : PageState). s.held) is.1,
  ap (λ (s : PageState). s.free.reserved) is.1,
  is.0,
)

-- and of a pair both pages do
isolates_a_pair : (new : PageState) → Isolates state 1 3 (Some (record { start = 4; order = 1 })) new
    → new.free.areas ≡ false ∷ false ∷ true ∷ true ∷ false ∷ false ∷ false ∷ true ∷ []
unfolding with_pages without_pages
isolates_a_pair new is = ap (λ (s : PageState). s.free.areas) is.1

-- with no block the lists are drained all the same
isolates_none : (new : PageState) → Isolates state 9 0 None new
    → new ≡ record state { free = drained free }
isolates_none new is = is.1

-- none though there is one, one that is too small, one before the page, and half of a pair
isolates_no_other : (new : PageState) → (Isolates state 0 7 None new → ⊥)
    × (Isolates state 1 0 (Some page_seven) new → ⊥) × (Isolates state 0 8 (Some page_seven) new → ⊥)
isolates_no_other new = (
  λ is. is.0 (block_at 7 0) last_page (omega arith) (omega arith),
  λ is. omega (arith, is.0.sufficient),
  λ is. omega (arith, is.0.after),
)

-- ---- what the allocator keeps

-- a page that is free and held, a count that isn't that of the areas, and a held page that is reserved
not_kept : (IsKept free (record { pages = 8; blocks = block_at 5 0 ∷ [] }) → ⊥)
    × (IsKept free (record { pages = 7; blocks = [] }) → ⊥)
    × (IsKept free (record { pages = 8; blocks = block_at 1 0 ∷ [] }) → ⊥)
not_kept = (
  λ is. omega (arith, is.apart 5),
  λ is. omega (arith, is.pages),
  λ is. omega (arith, is.apart 1),
)

-- the most pages and processors, and one more of each
sizes : IsGuestSize 262144 4 × (IsGuestSize 262145 4 → ⊥) × (IsGuestSize 262144 5 → ⊥)
sizes = ((omega arith, omega arith), λ is. omega (arith, is.0), λ is. omega (arith, is.1))

-- ---- room for a block that comes back

-- pages 3, 4 and 7 were taken, and so was page 6 where it isn't held
abbrev taken : List Block → PageState
taken held = record { free = record free { lists = [] }; held = held }

room : HasRoomIn (taken []) (block_at 6 1)
room = ((omega arith, refl), omega arith, omega arith, outside) where
  outside : (page : ℕ) → 6 ≤ page → page < 8
      → (is_free_page (taken []) page ≡ false) × (is_held_page (taken []) page ≡ false)
  outside page from to = grind arith

-- pages that are no block, that are reserved, that are past the end, that are free, and that are held
no_room : (HasRoomIn (taken []) (block_at 3 1) → ⊥) × (HasRoomIn (taken []) (block_at 1 0) → ⊥)
    × (HasRoomIn (taken []) (block_at 8 0) → ⊥) × (HasRoomIn (taken []) (block_at 4 1) → ⊥)
    × (HasRoomIn (taken (block_at 7 0 ∷ [])) (block_at 6 1) → ⊥)
no_room = (
  λ has. (let wrong : false ≡ true = has.0.1 in cc),
  λ has. omega (arith, has.1),
  λ has. omega (arith, has.2),
  λ has. (let wrong : true ≡ false = (has.3 5 (omega arith) (omega arith)).0 in cc),
  λ has. (let wrong : true ≡ false = (has.3 7 (omega arith) (omega arith)).1 in cc),
)
