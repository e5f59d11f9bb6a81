use Rattle.{std.{specs.Prelude.{◌≡◌, true}, proofs.Common.List}, vb_status.specs.Bits.feature_bits}
use Rattle.std.proofs.{lemmas.List.length-map, Common.{◌∙◌, sym, ap, subst, refl, ℕ, map, length}}
use Rattle.vb_virtio.specs.Tests.{pages_where}
use Rattle.vb_model.specs.declared.places.Place.{Place}
use Rattle.vb_model.specs.declared.places.Place.TheVariants.{Reporting}
use Rattle.vb_model.specs.{Pages.{Block, place_of, is_free, is_reporting}, Life.place_after_reset}
use Rattle.vb_driver.specs.{contracts.driver.Driver.the_view, Calls.with_nothing_out}
use Rattle.vb_driver.specs.{State.{DriverState, IsDriver}, Areas.{AreFor, flags_of}, Places.marked}
use Rattle.vb_driver.proofs.{Resetting.reset_kept, Moving.is_out, Counting.at_is}
use Rattle.vb_driver.proofs.driver.Driver.reset.Goals as goal

pub give_reported-requires : goal.give_reported-requires
give_reported-requires g c = let d = the_view c.self.inside in
    let out = λ (p : ℕ) (here : is_reporting (place_of d.places p) ≡ true).
    is_out Reporting c.self.invariant refl refl refl (at_is Reporting here) in record {
      table = sym (ap length c.self.invariant.free ∙ length-map d.places is_free);
      unreserved = λ p here. (out p here).unreserved;
      taken = λ p here. (out p here).taken;
      uncovered = λ p here. (out p here).uncovered;
    }

pub invariant_of-self : goal.invariant_of-self
invariant_of-self g c = let d = the_view c.self.inside in let areas2 = c.give_reported.new.self in
    let f = feature_bits c.empty-self-inside.result in let given = c.give_reported.ensures.state in
    let renewed : d ≡ with_nothing_out c.args.self.now = c.self.view_is ∙ c.renew.ensures.state in
    subst (λ (v : List Place). IsDriver
    (record d { places = v; held = areas2.held; areas = areas2.free; features = f; actual = 0 }))
    (sym c.strand.ensures) (subst (λ (v : List Block). IsDriver (record d {
      places = map place_after_reset d.places;
      held = v;
      areas = areas2.free;
      features = f;
      actual = 0;
    })) (sym given.held) (subst (λ (v : DriverState). IsDriver (record v {
      places = map place_after_reset v.places;
      areas = areas2.free;
      features = f;
      actual = 0;
    })) (sym renewed) (reset_kept f c.renew.ensures.driver (subst (λ (v : DriverState). flags_of
    areas2.free ≡ marked (pages_where is_reporting v.places) true (flags_of v.areas)) renewed
    given.free) (subst (λ (v : DriverState). AreFor v.areas areas2.free) renewed given.same))))
