-- A guest's allocation is a step of the definitions.
use Rattle.std.{specs.Prelude.{ℕ, [], Result, Ok, Err, refl}, proofs.Common.{sym, subst, inl, inr}}
use Rattle.{vb_model.specs.{Driver.with_block, Pages.{pages_of, placed}}, vb_ram.specs.Part.Part}
use Rattle.vb_virtio.specs.declared.refusals.Refusal.{Refusal}
use Rattle.vb_model.specs.Guest.{Guest}
use Rattle.vb_model.specs.declared.replies.Reply.TheVariants.{Page}
use Rattle.vb_model.specs.declared.{calls.Call.TheVariants.Alloc, places.Place.TheVariants.Used}
use Rattle.{vb_ram.specs.Pages.Pages, vb_guest.specs.{Steps.StepsAlone, Replies.page_reply}}
use Rattle.vb_driver.specs.{State.{FreePages, DriverState}, Answers.block_at, Calls.AllocatesBy}
use Rattle.vb_guest.{specs.Stands.{Honest, Ties}, proofs.DriverWords.{Sides, driver_of, in_words}}
use Rattle.vb_guest.proofs.Closing.{honest_performed, honest_refused, steps_alone, ties_areas}

by_result : {m : Pages} {p : Part} {g : Guest} (areas : FreePages)
    (sides : Sides) {d2 : DriverState} {cpu order : ℕ} (result : Result ℕ Refusal)
    → AllocatesBy (driver_of g areas sides) d2 cpu order result → Honest m p
    (driver_of g areas sides) g → StepsAlone (Honest m p d2) g (Alloc cpu order) (page_reply result)
by_result {m} {p} {g} areas sides {d2} {cpu} {order} (Err why) did stands =
    let refusal = sym did.refusal in
    steps_alone stands (honest_refused g (Alloc cpu order) why refusal)
    (subst (λ d. Ties m p d g) (sym did.refused) (ties_areas d2.areas stands.ties)) refl
by_result {m} {p} {g} areas sides {d2} {cpu} {order} (Ok start) did stands =
    let ties = stands.ties in
    let new : Guest = record g {
      places = placed (pages_of (block_at start order)) Used g.places;
      held = with_block (block_at start order) g.held;
    } in
    let step = honest_performed g (Alloc cpu order) [] (Page start) new (sym did.refusal)
    (refl, (start, did.free, refl, refl)) in
    let after : DriverState = driver_of new d2.areas sides in
    let there : Ties m p after new = record {
      parts = assumption;
      pages = ties.pages;
      queues = elim ties.queues [ inl idle ↦ inl assumption | inr run ↦ inr assumption ];
    } in
    steps_alone stands step (subst (λ d. Ties m p d new) (sym did.state) there) refl

pub alloc_step : {m : Pages} {p : Part} {d1 d2 : DriverState}
    {g : Guest} {cpu order : ℕ} {result : Result ℕ Refusal} → AllocatesBy d1 d2 cpu order result
    → Honest m p d1 g → StepsAlone (Honest m p d2) g (Alloc cpu order) (page_reply result)
alloc_step {d2} {cpu} {order} {result} did stands =
    in_words (λ d. AllocatesBy d d2 cpu order result) stands did
    (λ areas sides here at. by_result areas sides result at here)
