-- The page areas of a driver: which pages are free, and what comes to them and leaves them.
use Rattle.std.proofs.Common.{◌≡◌, ◌↔◌, ℕ, true, false, List, [], ◌∷◌, map, refl}
use Rattle.std.specs.Prelude.{Ok, Err, Bool, length}
use Rattle.vb_virtio.specs.declared.refusals.Refusal.TheVariants.{BadOrder, BadCpu, NoPages}
use Rattle.vb_model.specs.Pages.{Block, block_at}
use Rattle.vb_pages.specs.{FreePages.FreePages, PageState.{PageState, AllocatesBlock}}
use Rattle.vb_pages.specs.Areas.{with_pages, without_pages}
use Rattle.vb_pages.specs.declared.fault.PageFault.TheVariants.{NoPages as NoFreeBlock}
use Rattle.vb_driver.specs.Areas.{flags_of, is_free_at, has_block, AreFor, Becomes, Allots, all_given}
use Rattle.vb_driver.specs.Areas.{areas_with, areas_without, AreApart, is_covered}
use Rattle.vb_driver.specs.{Reaps.areas_reaped, Requests.areas_asked}
use Rattle.vb_driver.proofs.DriverFacts.{busy}

-- ---- page areas: page 2 is in the areas and page 3 in a list, and both are free

abbrev areas : FreePages
areas = record {
  areas = false ∷ false ∷ true ∷ false ∷ [];
  lists = (3 ∷ []) ∷ [] ∷ [];
  reserved = 1;
}

abbrev state : PageState
state = record { free = areas; held = block_at 1 0 ∷ [] }

free : flags_of areas ≡ false ∷ false ∷ true ∷ true ∷ []
unfolding flags_of
free = refl

-- some block has the page, or none
covered : map (λ page. is_covered page (block_at 2 1 ∷ block_at 6 0 ∷ [])) (1 ∷ 2 ∷ 3 ∷ 6 ∷ [])
    ∷ map (λ page. is_covered page []) (0 ∷ 1 ∷ []) ∷ []
    ≡ (false ∷ true ∷ true ∷ true ∷ []) ∷ (false ∷ false ∷ []) ∷ []
covered = refl

free_at : map (is_free_at (false ∷ true ∷ [])) (0 ∷ 1 ∷ 2 ∷ []) ≡ false ∷ true ∷ false ∷ []
free_at = refl

-- two free pages are a block of two, and the first page of the areas counts
blocks : map (has_block state) (0 ∷ 1 ∷ 2 ∷ []) ∷ map (has_block (record state {
  free = record areas { areas = true ∷ true ∷ false ∷ false ∷ [] };
})) (0 ∷ 1 ∷ 2 ∷ []) ∷ [] ≡ (true ∷ true ∷ false ∷ []) ∷ (true ∷ true ∷ false ∷ []) ∷ []
unfolding flags_of
blocks = refl

only_the_first : has_block (record state {
  free = record { areas = true ∷ true ∷ false ∷ []; lists = []; reserved = 0 };
}) 1 ≡ true
unfolding flags_of
only_the_first = refl

for_the_same_guest : (new : FreePages)
    → AreFor areas new ↔ ((length new.lists ≡ 2) × (new.reserved ≡ 1))
for_the_same_guest new = (
  λ are. (are.processors, are.reserved),
  λ all. record { processors = all.0; reserved = all.1 },
)

becomes : (new : PageState) (flags : List Bool) (held : List Block) → Becomes state new flags held
    ↔ ((flags_of new.free ≡ flags) × (new.held ≡ held) × AreFor areas new.free)
becomes new flags held = (
  λ is. (is.free, is.held, is.same),
  λ all. record { free = all.0; held = all.1; same = all.2 },
)

-- an allocation that is refused for its words leaves all as it is; one with no block drains the lists
allots : (new : PageState) (start : ℕ)
    → (Allots state 0 1 (Ok start) new ↔ AllocatesBlock state 0 1 (Ok start) new)
    × (Allots state 0 1 (Err NoPages) new ↔ AllocatesBlock state 0 1 (Err NoFreeBlock) new)
    × (Allots state 0 10 (Err BadOrder) new ↔ (new ≡ state))
    × (Allots state 2 1 (Err BadCpu) new ↔ (new ≡ state))
allots new start =
    ((λ is. is, λ is. is), (λ is. is, λ is. is), (λ is. is, λ is. is), (λ is. is, λ is. is))

-- pages that come back one by one, all at once, and pages that leave once the lists are drained
given : all_given (0 ∷ 1 ∷ []) state ≡ record state {
  free = record areas { areas = true ∷ true ∷ true ∷ false ∷ [] };
}
unfolding with_pages
given = refl

come_and_leave : areas_with (0 ∷ 3 ∷ []) areas ∷ areas_without (2 ∷ []) areas ∷ []
    ≡ record areas { areas = true ∷ false ∷ true ∷ true ∷ [] }
    ∷ record areas { areas = false ∷ false ∷ false ∷ true ∷ []; lists = [] ∷ [] ∷ [] } ∷ []
unfolding with_pages without_pages
come_and_leave = refl

-- pages that a used report or deflate leaves, and those of a deflate that the host isn't told of
come_back : map (λ q. areas_reaped q (0 ∷ []) (record busy { features = 1 })) (0 ∷ 1 ∷ 4 ∷ [])
    ≡ busy.areas ∷ record busy.areas { areas = true ∷ true ∷ false ∷ [] }
    ∷ record busy.areas { areas = true ∷ true ∷ false ∷ [] } ∷ []
unfolding with_pages
come_back = refl

asked_back : map (λ f. areas_asked (0 ∷ []) (record busy { features = f })) (0 ∷ 1 ∷ [])
    ≡ record busy.areas { areas = true ∷ true ∷ false ∷ [] } ∷ busy.areas ∷ []
unfolding with_pages
asked_back = refl

not_apart : AreApart (record state { held = block_at 3 0 ∷ [] }) → true ≡ false
unfolding flags_of
not_apart are = are.apart 3 refl
