-- A guest's new target is a step of the definitions.
use Rattle.std.specs.Prelude.{◌≡◌, ℕ, [], refl}
use Rattle.{std.proofs.Common.{inl, inr}, vb_model.specs.declared.calls.Call.TheVariants.SetTarget}
use Rattle.vb_model.specs.{declared.replies.Reply.TheVariants.Done, Guest.Guest, Step.HonestStep}
use Rattle.{vb_ram.specs.{Pages.Pages, Part.Part}, vb_driver.specs.State.DriverState}
use Rattle.vb_guest.specs.{Stands.{Honest, Ties}, Steps.StepsAlone}
use Rattle.vb_guest.proofs.Closing.{guest_step, honest_performed, still_stands, ties_same}

target_set : (g : Guest) (n : ℕ) → HonestStep g (SetTarget n) [] Done (record g { target = n })
target_set g n =
    honest_performed g (SetTarget n) [] Done (record g { target = n }) refl (refl, (refl, refl))

-- the guest has the new target
pub target_stands : {m1 m2 : Pages} {p1 p2 : Part} {d : DriverState} {g : Guest} (n : ℕ) → m2 ≡ m1
    → p2 ≡ record p1 { target = n } → Honest m1 p1 d g → Honest m2 p2 d (record g { target = n })
target_stands {m1} {p1} {d} {g} n memory part stands = let ties = stands.ties in
    let new : Guest = record g { target = n } in let after : Part = record p1 { target = n } in
    let there : Ties m1 after d new = record {
      parts = assumption;
      pages = ties.pages;
      queues = elim ties.queues [ inl idle ↦ inl assumption | inr run ↦ inr assumption ];
    } in
    still_stands (SetTarget n) [] Done stands (target_set g n) (ties_same memory part refl there)

pub target_step : {m1 m2 : Pages} {p1 p2 : Part} {d : DriverState} {g : Guest} {n : ℕ}
    → m2 ≡ m1 → p2 ≡ record p1 { target = n }
    → Honest m1 p1 d g → StepsAlone (Honest m2 p2 d) g (SetTarget n) Done
target_step {g} {n} memory part stands = record {
  new = record g { target = n };
  stands = target_stands n memory part stands;
  step = guest_step g (SetTarget n) [] Done (record g { target = n })
      stands.ties.parts.guest.honest (target_set g n);
  frames = refl;
}
