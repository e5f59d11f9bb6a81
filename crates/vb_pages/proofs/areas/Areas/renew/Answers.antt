use Rattle.std.proofs.Common.{arith, ◌≤◌, ℕ, List, Option, length, ap, subst, ◌∙◌, sym}
use Rattle.std.{specs.Prelude.count_by, proofs.lemmas.List.length-replicate}
use Rattle.vb_pages.{specs.declared.table.TheConstants.MAX_PAGES, specs.Areas.has}
use Rattle.vb_pages.{specs.Tiles.{set_of, IsTiled}, proofs.AreasLemmas.count_none}
use Rattle.vb_pages.proofs.TilesLemmas.{none_tiled, none_set, length-set_of}
use Rattle.vb_pages.proofs.areas.Areas.renew.Goals as goal

pub invariant_of-self : goal.invariant_of-self
invariant_of-self c = let n = length c.self.inside.table in
    let small : n ≤ MAX_PAGES = c.self.invariant.0.small in (
      subst IsTiled (sym c.clear.ensures) (none_tiled n small),
      sym (ap (λ (t : List (Option ℕ)). count_by (λ f. f) (set_of t)) c.clear.ensures
          ∙ count_none n small),
    )

pub fill-requires-clause-pages : goal.fill-requires-clause-pages
fill-requires-clause-pages c = c.pages-pages.ensures ∙ sym (length-set_of c.clear.new.self)

pub fill-requires-clause-empty : goal.fill-requires-clause-empty
fill-requires-clause-empty c p = ap (λ (t : List (Option ℕ)). has (set_of t) p) c.clear.ensures
    ∙ none_set (length c.self.inside.table) p c.self.invariant.0.small

pub returns : goal.returns
returns c = grind (arith, length-replicate, length-set_of)
