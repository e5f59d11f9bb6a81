-- A guest's giving back of a block is a step of the definitions.
use Rattle.std.{specs.Prelude.{ℕ, [], Result, Ok, Err, refl}, proofs.Common.{sym, subst, inl, inr}}
use Rattle.vb_model.specs.declared.{calls.Call.TheVariants.Free, replies.Reply.TheVariants.Done}
use Rattle.vb_virtio.specs.declared.refusals.Refusal.{Refusal}
use Rattle.vb_model.specs.Pages.{pages_of, placed}
use Rattle.vb_model.specs.{declared.places.Place.TheVariants.Free as FreePlace, Guest.Guest}
use Rattle.{vb_model.specs.Driver.without_block, vb_ram.specs.{Pages.Pages, Part.Part}}
use Rattle.vb_driver.specs.{State.{FreePages, DriverState}, Calls.{FreesBy, after_free}}
use Rattle.{vb_driver.specs.Answers.block_at, vb_guest.specs.{Steps.StepsAlone, Replies.done_reply}}
use Rattle.vb_guest.{specs.Stands.{Honest, Ties}, proofs.DriverWords.{Sides, driver_of, in_words}}
use Rattle.vb_guest.proofs.Closing.{honest_performed, steps_alone, refused_alone}

by_result : {m : Pages} {p : Part} {g : Guest} (areas : FreePages) (sides : Sides)
    {d2 : DriverState} {cpu start order : ℕ} (result : Result (Unit {0}) Refusal) → FreesBy
    (driver_of g areas sides) d2 cpu start order result → Honest m p (driver_of g areas sides) g
    → StepsAlone (Honest m p d2) g (Free cpu start order) (done_reply result)
by_result areas sides (Err why) did stands =
    refused_alone stands (sym did.refusal) refl refl did.refused
by_result {m} {p} {g} areas sides {cpu} {start} {order} (Ok done) did stands =
    let ties = stands.ties in
    let new : Guest = record g {
      places = placed (pages_of (block_at start order)) FreePlace g.places;
      held = without_block (block_at start order) g.held;
    } in
    let step = honest_performed g (Free cpu start order) [] Done new (sym did.refusal)
    (refl, (refl, refl)) in
    let after : DriverState =
    driver_of new (after_free (driver_of g areas sides) cpu start order).areas sides in
    let there : Ties m p after new = record {
      parts = assumption;
      pages = ties.pages;
      queues = elim ties.queues [ inl idle ↦ inl assumption | inr run ↦ inr assumption ];
    } in
    steps_alone stands step (subst (λ d. Ties m p d new) (sym did.state) there) refl

pub free_step : {m : Pages} {p : Part} {d1 d2 : DriverState} {g : Guest} {cpu start order : ℕ}
    {result : Result (Unit {0}) Refusal} → FreesBy d1 d2 cpu start order result
    → Honest m p d1 g → StepsAlone (Honest m p d2) g (Free cpu start order) (done_reply result)
free_step {d2} {cpu} {start} {order} {result} did stands =
    in_words (λ d. FreesBy d d2 cpu start order result) stands did
    (λ areas sides here at. by_result areas sides result at here)
