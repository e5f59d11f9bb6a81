use Rattle.std.proofs.Common.{◌≡◌, ◌∙◌, ◌<◌, ◌+◌, sym, ap, subst, arith, List, length}
use Rattle.{std.proofs.lemmas.List.get_or_default, vb_model.specs.declared.places.Place.Place}
use Rattle.vb_model.specs.{declared.places.Place.TheVariants.Reserved, Life.place_after_reset}
use Rattle.vb_driver.proofs.Placing.{Changing, changing_more, changed_all}
use Rattle.vb_driver.proofs.places.PlaceTable.strand.Goals as goal

pub loop-page-preserved : goal.loop-page-preserved
loop-page-preserved c = let old = c.args.self.now in let i = c.loop-page.page in
    let size : length c.self.inside.places.items ≡ length old = ap length c.self.view_is in
    let inside : i < length old = omega (arith, c.loop-page-test.true, c.len-pages.ensures) in
    let P : List Place → Type 0 = λ l. Changing old l place_after_reset (i + 1) in
    subst P (sym c.set.ensures)
    (changing_more c.after_reset.result c.loop-page.invariant inside (λ d. c.after_reset.ensures
    ∙ ap place_after_reset (c.place-place.ensures ∙ (c.loop-page.invariant.rest i Reserved
    (omega arith) ∙ get_or_default old i Reserved d inside))))

pub returns : goal.returns
returns c = grind (arith, changed_all)
