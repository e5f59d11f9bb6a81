use Rattle.std.proofs.Common.{arith, ◌≡◌, sym, subst, ℕ, List, true}
use Rattle.vb_model.specs.{declared.places.Place.{TheVariants.Taking, Place}, Pages.placed}
use Rattle.vb_virtio.specs.Queues.{Deflating}
use Rattle.vb_model.specs.Requests.{place_posted}
use Rattle.vb_driver.{specs.State.{RequestSide, DriverState, IsDriver}, proofs.Moving.asked_kept}
use Rattle.vb_driver.specs.{State.tells_host, contracts.driver.Driver.the_view, Calls.areas_asked}
use Rattle.vb_driver.proofs.driver.Driver.ask_and_wait.Goals as goal

-- where the host is told first, the pages are taking, and no area changes
waits : (d : DriverState) (e2 : RequestSide) (pages : List ℕ) → tells_host d ≡ true
    → (let new : DriverState = record d { places = placed pages Taking d.places; deflate = e2 } in new)
    ≡ record d {
      places = placed pages (place_posted (tells_host d) Deflating) d.places;
      areas = areas_asked pages d;
      deflate = e2;
    }
waits d e2 pages told = grind arith

pub invariant_of-self : goal.invariant_of-self
invariant_of-self g c = let d = the_view c.self.inside in
    let posts = rw c.take_lowest_lent.ensures.pages at c.post-head.ensures.posts in
    subst (λ (ps : List Place). IsDriver (record d { places = ps; deflate = c.post-head.new.self }))
    (sym c.take_lowest_lent.ensures.moved)
    (asked_kept c.args.count c.self.invariant posts)

pub returns : goal.returns
returns g c = let posts = rw c.self.invariant.deflate.number at c.post-head.ensures.posts in
    grind (arith, waits, posts)
