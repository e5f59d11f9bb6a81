use Rattle.std.proofs.Common.{◌≡◌, ◌∙◌, sym, ap, ℕ, List}
use Rattle.vb_virtio.specs.Tests.{is_in}
use Rattle.vb_model.specs.Pages.{placed}
use Rattle.vb_model.specs.declared.places.Place.TheVariants.{Lent}
use Rattle.vb_driver.{specs.State.sent_by, specs.contracts.driver.Driver.the_view}
use Rattle.vb_driver.proofs.Moving.{lent_inside, lent_kept}
use Rattle.vb_driver.proofs.driver.Driver.reap_lent.Goals as goal

pub set_all-requires : goal.set_all-requires
set_all-requires g c p here = let d = the_view c.self.inside in let head = c.in-Ok-Some.head in
    let next = rw c.in-Ok-Some.field-0-is at c.in-Ok-Some.ensures.next in
    let items : c.deref.result.now ≡ sent_by d.inflate head = c.deref.ensures.0 ∙ next.2 in
    lent_inside head p next.1 c.self.invariant (ap (is_in p) (sym items) ∙ here)

pub invariant_of-self-2 : goal.invariant_of-self-2
invariant_of-self-2 g c = let d = the_view c.self.inside in let head = c.in-Ok-Some.head in
    let next = rw c.in-Ok-Some.field-0-is at c.in-Ok-Some.ensures.next in
    let items : c.deref.result.now ≡ sent_by d.inflate head = c.deref.ensures.0 ∙ next.2 in
    let moved : c.set_all.new.self ≡ placed (sent_by d.inflate head) Lent d.places =
    c.set_all.ensures ∙ ap (λ (l : List ℕ). placed l Lent d.places) items in rw moved (rw next.3
    (lent_kept head next.1 c.self.invariant))
