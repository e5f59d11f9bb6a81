use Rattle.std.proofs.Common.{◌≡◌, ◌∙◌, sym, ap, arith, refl, ℕ, List, true, false}
use Rattle.vb_model.specs.{declared.places.Place.TheVariants.{Free, Lent}, Pages.{placed, is_lent}}
use Rattle.vb_virtio.specs.Tests.{is_in}
use Rattle.vb_driver.proofs.Moving.{lowest_is, IsOut, is_out}
use Rattle.vb_driver.proofs.{Moving.asked_freed, Counting.at_is, Naming.once_lowest}
use Rattle.vb_driver.specs.{Areas.flags_of, State.{IsDriver, tells_host}, Calls.lowest_lent}
use Rattle.vb_driver.specs.{State.DriverState, Places.marked, contracts.driver.Driver.the_view}
use Rattle.vb_driver.proofs.driver.Driver.ask_and_free.Goals as goal

out_again : (d : DriverState) (count p : ℕ) (pages : List ℕ)
    → IsDriver d → pages ≡ lowest_lent d count → is_in p pages ≡ true → IsOut d p
out_again d count p pages kept is here = is_out Lent kept refl refl refl
    (at_is Lent (lowest_is d.places count is_lent p (ap (is_in p) (sym is) ∙ here)))

pub give_all-requires : goal.give_all-requires
give_all-requires g c = let d = the_view c.self.inside in
    let items : c.deref.result.now ≡ lowest_lent d c.args.count =
    c.deref.ensures.0 ∙ c.lowest_lent.ensures in
    let out = λ (p : ℕ). out_again d c.args.count p c.deref.result.now c.self.invariant items in
    record {
      unreserved = λ p here. (out p here).unreserved;
      inside = λ p here. (out p here).inside;
      taken = λ p here. (out p here).taken;
      uncovered = λ p here. (out p here).uncovered;
      once = λ p. rw items (once_lowest p c.args.count is_lent d.places);
    }

pub set_all-requires : goal.set_all-requires
set_all-requires g c p here = (out_again (the_view c.self.inside) c.args.count p c.deref-2.result.now
    c.self.invariant (c.deref-2.ensures.0 ∙ c.lowest_lent.ensures) here).there

pub invariant_of-self : goal.invariant_of-self
invariant_of-self g c = let d = the_view c.self.inside in
    let areas2 = c.give_all.new.self in
    let untold : tells_host d ≡ false = ap tells_host c.self.view_is ∙ c.requires.untold in
    let lowest : c.lowest_lent.new.pages.items ≡ lowest_lent d c.args.count =
    c.lowest_lent.ensures in
    let items : c.deref.result.now ≡ lowest_lent d c.args.count = c.deref.ensures.0 ∙ lowest in
    let placed_is : c.set_all.new.self ≡ placed (lowest_lent d c.args.count) Free d.places =
    c.set_all.ensures ∙ ap (λ (l : List ℕ). placed l Free d.places)
    (c.deref-2.ensures.0 ∙ lowest) in
    let free : flags_of areas2.free ≡ marked (lowest_lent d c.args.count) true (flags_of d.areas) =
    c.give_all.ensures.state.free ∙ ap (λ (l : List ℕ). marked l true (flags_of d.areas)) items in
    let posts = rw lowest at c.post-head.ensures.posts in
    rw placed_is (rw c.give_all.ensures.state.held
    (asked_freed c.args.count c.self.invariant untold free c.give_all.ensures.state.same posts))

pub returns : goal.returns
returns g c = let posts = rw c.self.invariant.deflate.number at c.post-head.ensures.posts in
    grind (arith, posts)
