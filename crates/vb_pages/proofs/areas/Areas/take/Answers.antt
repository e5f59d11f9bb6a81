use Rattle.std.{proofs.Common.{◌≡◌, ◌+◌, arith}, specs.Prelude.count_by}
use Rattle.vb_pages.{specs.Tiles.set_of, proofs.AreasLemmas.{count_without_block, taken_inside}}
use Rattle.vb_pages.proofs.areas.Areas.take.Goals.{After-size_of}
use Rattle.vb_pages.proofs.areas.Areas.take.Goals as goal

counted : (c : After-size_of) → count_by (λ f. f) (set_of c.self.inside.table)
    ≡ count_by (λ f. f) (set_of c.take_block.new.table) + c.size_of.result
counted c = grind (arith, count_without_block, taken_inside)

pub overflow_sub-self : goal.overflow_sub-self
overflow_sub-self c = omega (arith, counted c, c.self.invariant.1)

pub invariant_of-self-2 : goal.invariant_of-self-2
invariant_of-self-2 c = grind (arith, counted)
