-- No reserved page is ever ballooned, in a rogue guest neither.
use Rattle.std.proofs.Common.{arith, false, inl, inr, refl, true, ℕ, ◌∙◌, ◌≡◌}
use Rattle.std.{proofs.lemmas.{Bool.{cases_lt, lt-ltb}, List.get_or_past}, specs.Prelude.Some}
use Rattle.vb_model.proofs.Unchanged.{serve_stays_honest}
use Rattle.vb_model.proofs.{Changes.{Change, changes}, PageSteps.naming-all}
use Rattle.vb_model.specs.{Consistent.IsConsistent, Guest.{Guest, is_ballooned}}
use Rattle.vb_virtio.specs.Layout.{reserved_pages}
use Rattle.vb_model.specs.HostEvents.{WorldStep}
use Rattle.vb_model.specs.Orderly.{IsOrderly}
use Rattle.vb_model.specs.{Pages.{is_reserved, place_of}, StepLaws.HasNoReservedBallooned}
use Rattle.vb_model.specs.{World.{World, guest_at}, declared.calls.Event.Event}
use Rattle.vb_model.specs.declared.{places.Place.{Place, TheVariants.Reserved}, replies.Reply.Reply}

reserved_is : (place : Place) → is_reserved place ≡ true → place ≡ Reserved
reserved_is Reserved e = refl
reserved_is _ e = absurd cc

pub honest_unreserved : (g : Guest) → IsConsistent g → IsOrderly g → HasNoReservedBallooned g
honest_unreserved g c o page l = at_reserved place where
  place : place_of g.places page ≡ Reserved
  place = elim (cases_lt page g.config.pages) [
    | inl there ↦ reserved_is (place_of g.places page)
        (o.unreserved page there ∙ lt-ltb page (reserved_pages g.config.queue_size) l)
    | inr past ↦ get_or_past g.places page Reserved (omega arith)
  ]

  at_reserved : place_of g.places page ≡ Reserved → is_ballooned g.ballooned page ≡ false
  at_reserved e = grind (arith, naming-all page g.inflate, naming-all page g.deflate)

-- of the rogue guests
abbrev pub AllUnreserved : World → Type 0
AllUnreserved w = (n : ℕ) (g : Guest) → guest_at w.guests n ≡ Some g → g.rogue ≡ true
    → HasNoReservedBallooned g

change_unreserved : (w : World) (event : Event) (reply : Reply) (m : ℕ) (new : Guest)
    → AllUnreserved w → Change w event reply m new → new.rogue ≡ true → HasNoReservedBallooned new
change_unreserved w event reply m new h h6 rogue = search (arith, serve_stays_honest)

pub step_unreserved : (w : World) (event : Event) (reply : Reply) (v : World) → AllUnreserved w
    → WorldStep w event reply v → AllUnreserved v
step_unreserved w event reply v h s n g at rogue =
    change_unreserved w event reply n g h (changes w event reply v n g s at) rogue
