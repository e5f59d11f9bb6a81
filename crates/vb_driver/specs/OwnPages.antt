-- What a driver does with pages of the guest's own: allocations and their return (Gorman, chapter
-- 6).
use Rattle.std.specs.Prelude.{◌≡◌, ℕ, Result, IfOk, OnErr, OnOk, IsTrue}
use Rattle.vb_model.specs.declared.places.Place.TheVariants.{Free, Used}
use Rattle.vb_virtio.specs.declared.refusals.Refusal.{Refusal}
use Rattle.vb_virtio.specs.FirstRefusal.{first_refusal}
use Rattle.vb_model.specs.Pages.{Block, placed, pages_of, is_wholly_free}
use Rattle.vb_model.specs.Driver.{with_block, without_block}
use Rattle.vb_pages.specs.FreePages.{FreePages}
use Rattle.vb_pages.specs.PageState.{freed}
use Rattle.vb_driver.specs.State.{DriverState, IsDriver, page_state}
use Rattle.vb_driver.specs.Areas.{Allots}
use Rattle.vb_driver.specs.Answers.{refusal_in, block_at, alloc_causes, free_causes}

-- A block is used and held, and the page areas are these.
abbrev pub after_alloc : DriverState → FreePages → Block → DriverState
after_alloc d areas b =
    record d {
      places = placed (pages_of b) Used d.places;
      held = with_block b d.held;
      areas = areas;
    }

-- A block is allocated. Which one, and what it does to the areas and the processor's list, `areas`
-- says; where there is none, all lists are drained.
pub record AllocatesBy (d1 d2 : DriverState) (cpu order : ℕ)
    (result : Result ℕ Refusal) : Type 0 where
  pub driver : IsDriver d1
  pub refusal : refusal_in result ≡ first_refusal (alloc_causes d1 cpu order)
  pub refused : OnErr result (d2 ≡ record d1 { areas = d2.areas })
  pub free : IfOk result (λ start. IsTrue (is_wholly_free d1.places (block_at start order)))
  pub state : IfOk result (λ start. d2 ≡ after_alloc d1 d2.areas (block_at start order))
  pub areas : Allots (page_state d1) cpu order result (page_state d2)

-- A block is free again, in the areas or in the processor's list.
abbrev pub after_free : DriverState → ℕ → ℕ → ℕ → DriverState
after_free d cpu start order =
    record d {
      places = placed (pages_of (block_at start order)) Free d.places;
      held = without_block (block_at start order) d.held;
      areas = (freed cpu (block_at start order) (page_state d)).free;
    }

pub record FreesBy {T : Type 0} (d1 d2 : DriverState) (cpu start order : ℕ)
    (result : Result T Refusal) : Type 0 where
  pub driver : IsDriver d1
  pub refusal : refusal_in result ≡ first_refusal (free_causes d1 cpu start order)
  pub refused : OnErr result (d2 ≡ d1)
  pub state : OnOk result (d2 ≡ after_free d1 cpu start order)
