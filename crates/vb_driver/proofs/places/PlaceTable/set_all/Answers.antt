use Rattle.std.proofs.Common.{◌∙◌, sym, ap, arith, ℕ, List, length, take, get_or, set}
use Rattle.std.proofs.lemmas.List.{take_more}
use Rattle.vb_model.{specs.declared.places.Place.Place, specs.Pages.placed}
use Rattle.vb_driver.proofs.Placing.{marked_none, marked_more, length-marked, is_in-at}
use Rattle.vb_driver.proofs.places.PlaceTable.set_all.Goals as goal

pub loop-page-init : goal.loop-page-init
loop-page-init c = sym (marked_none c.args.place)

pub set-requires : goal.set-requires
set-requires c =
    let inside = c.requires (get_or c.args.pages.now c.loop-page.page-index 0)
    (is_in-at c.args.pages.now c.loop-page.page-index c.loop-page-test.true) in omega (
      arith,
      inside,
      ap (λ (l : List Place). length l) c.loop-page.invariant,
      length-marked (take c.loop-page.page-index c.args.pages.now) c.args.place c.args.self.now,
    )

pub loop-page-preserved : goal.loop-page-preserved
loop-page-preserved c = let i = c.loop-page.page-index in let x = get_or c.args.pages.now i 0 in
    let inside = c.requires x (is_in-at c.args.pages.now i c.loop-page-test.true) in c.set.ensures
    ∙ (ap (λ (l : List Place). set l x c.args.place) c.loop-page.invariant
    ∙ (sym (marked_more (take i c.args.pages.now) x c.args.place c.args.self.now inside)
    ∙ ap (λ (l : List ℕ). placed l c.args.place c.args.self.now)
    (sym (take_more c.args.pages.now i 0 c.loop-page-test.true))))
