use Rattle.std.proofs.Common.{◌≡◌, ◌∙◌, ◌++◌, sym, ap, subst, arith, ℕ, List}
use Rattle.vb_model.specs.{declared.places.Place.{TheVariants.Giving, Place}, Pages.placed}
use Rattle.vb_driver.proofs.{Moving.{offered_kept, others_there, others_free}, Naming.once_distinct}
use Rattle.vb_driver.proofs.Moving.{offered_inside, first_few}
use Rattle.vb_driver.proofs.driver.Driver.offer.Goals as goal
use Rattle.vb_driver.specs.{State.IsDriver, Calls.stranded_first, contracts.driver.Driver.the_view}

pub take_free-requires-clause-free : goal.take_free-requires-clause-free
take_free-requires-clause-free g c = grind (arith, others_there)

pub set_all-requires : goal.set_all-requires
set_all-requires g c p here = grind (arith, others_free, offered_inside)

pub invariant_of-self : goal.invariant_of-self
invariant_of-self g c = let d = the_view c.self.inside in
    let others = c.take_free.new.taken.items in
    let items : c.append.new.pages.items ≡ stranded_first d c.args.count ++ others = search arith in
    let placed_is : c.set_all.new.self
    ≡ placed (stranded_first d c.args.count ++ others) Giving d.places = c.set_all.ensures
    ∙ ap (λ (l : List ℕ). placed l Giving d.places) (c.deref-2.ensures.0 ∙ items) in
    let posts = rw items at c.post-head.ensures.posts in
    let free = others_free d others c.self.invariant.free c.take_free.ensures.free in
    let kept = offered_kept c.args.count others c.self.invariant free
    (λ p. once_distinct p others c.take_free.ensures.distinct)
    c.take_free.ensures.state.free c.take_free.ensures.state.same posts in
    let held : c.take_free.new.self.held ≡ d.held = c.take_free.ensures.state.held in
    subst (λ (ps : List Place). IsDriver (record d {
      places = ps;
      held = c.take_free.new.self.held;
      areas = c.take_free.new.self.free;
      inflate = c.post-head.new.self;
    })) (sym placed_is) (subst (λ (hs : List Rattle.vb_model.specs.Pages.Block). IsDriver
    (record d {
      places = placed (stranded_first d c.args.count ++ others) Giving d.places;
      held = hs;
      areas = c.take_free.new.self.free;
      inflate = c.post-head.new.self;
    })) (sym held) kept)

pub returns : goal.returns
returns g c = let posts = rw c.self.invariant.inflate.number at c.post-head.ensures.posts in
    grind (arith, others_free, first_few, posts)
