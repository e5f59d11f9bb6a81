use Rattle.std.proofs.Common.{◌≡◌, ◌∙◌, sym, ap, refl, ℕ, List, take, true}
use Rattle.vb_virtio.specs.Tests.{is_in, pages_where}
use Rattle.vb_model.specs.Pages.{placed, is_lent}
use Rattle.vb_model.specs.declared.places.Place.TheVariants.{Taking}
use Rattle.vb_driver.{proofs.Moving.lowest_is, proofs.Keeping.there_by}
use Rattle.vb_driver.proofs.places.PlaceTable.take_lowest_lent.Goals as goal

pub set_all-requires : goal.set_all-requires
set_all-requires c p here =
    let lowest : c.deref.result.now ≡ take c.args.most (pages_where is_lent c.args.self.now) =
    c.deref.ensures.0 ∙ c.lowest_lent.ensures in
    let there : is_in p (take c.args.most (pages_where is_lent c.args.self.now)) ≡ true =
    ap (is_in p) (sym lowest) ∙ here in
    there_by c.args.self.now p is_lent refl (lowest_is c.args.self.now c.args.most is_lent p there)

pub returns-clause-moved : goal.returns-clause-moved
returns-clause-moved c = c.set_all.ensures ∙ ap (λ (l : List ℕ). placed l Taking c.args.self.now)
    (c.deref.ensures.0 ∙ c.lowest_lent.ensures)
