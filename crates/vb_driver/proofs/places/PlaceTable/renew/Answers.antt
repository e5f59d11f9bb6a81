use Rattle.std.proofs.Common.{◌≡◌, ◌∙◌, ◌-◌, ap, arith, min, ℕ, List, length}
use Rattle.{std.specs.List.range_with_len, vb_model.specs.declared.places.Place.Place}
use Rattle.vb_model.specs.declared.places.Place.TheVariants.{Reserved, Free}
use Rattle.{vb_model.specs.Pages.placed, vb_driver.proofs.{Placing.length-marked, Runs.first_table}}
use Rattle.vb_driver.proofs.places.PlaceTable.renew.Goals as goal

pub set_range-requires-2-clause-inside : goal.set_range-requires-2-clause-inside
set_range-requires-2-clause-inside c = grind (arith, length-marked)

pub returns : goal.returns
returns c = let r = c.min-reserved.result in let places = c.args.self.now in
    let all : c.pages-pages.result ≡ length places = c.pages-pages.ensures in
    let low : r - 0 ≡ r = omega arith in c.set_range-2.ensures ∙ (ap (λ (l : List Place). placed
    (range_with_len r (c.pages-pages.result - r)) Free l) (c.set_range.ensures
    ∙ ap (λ (n : ℕ). placed (range_with_len 0 n) Reserved places) low) ∙ (ap (λ (n : ℕ). placed
    (range_with_len r (n - r)) Free (placed (range_with_len 0 r) Reserved places)) all ∙ first_table
    places c.args.reserved (c.min-reserved.ensures ∙ ap (λ (n : ℕ). min c.args.reserved n) all)))
