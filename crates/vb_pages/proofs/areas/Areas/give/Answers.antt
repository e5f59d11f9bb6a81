use Rattle.std.proofs.Common.{◌≡◌, ◌≤◌, ◌+◌, ◌^◌, List, Bool, length, ap, ◌∙◌, arith}
use Rattle.{std.proofs.lemmas.Bool.eqb-true, vb_pages.specs.Areas.{has, block_at, LiesOutside}}
use Rattle.vb_pages.{specs.Tiles.set_of, proofs.{Sets.count_le, TilesLemmas.length-set_of}}
use Rattle.vb_pages.proofs.{AreasLemmas.count_with_block, areas.Areas.give.Goals.After-self}
use Rattle.vb_pages.proofs.areas.Areas.give.Goals as goal

outside : (c : After-self)
    → LiesOutside (set_of c.self.inside.table) (block_at c.args.start c.args.order)
outside c = let v : set_of c.self.inside.table ≡ c.args.self.now = c.self.view_is in
    λ p l h. ap (λ (x : List Bool). has x p) v ∙ c.requires.outside p l h

fits : (c : After-self) → c.args.start + 2 ^ c.args.order ≤ length (set_of c.self.inside.table)
fits c = let v : set_of c.self.inside.table ≡ c.args.self.now = c.self.view_is in
    omega (arith, ap length v, c.requires.inside)

pub overflow_add-self : goal.overflow_add-self
overflow_add-self c = grind (arith, count_le, length-set_of)

pub put_block-requires-clause-room : goal.put_block-requires-clause-room
put_block-requires-clause-room c = grind (arith, eqb-true, fits, length-set_of, outside)

pub invariant_of-self : goal.invariant_of-self
invariant_of-self c = grind (arith, count_with_block, fits, outside)
