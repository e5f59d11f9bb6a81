use Rattle.{std.proofs.Common.{◌≡◌, Some, ap, ◌∙◌, arith}, vb_model.specs.Pages.pages_of}
use Rattle.vb_pages.proofs.AreasLemmas.{count_without_block, lowest_is, lowest_none}
use Rattle.vb_pages.proofs.{TilesLemmas.{listed_inside, removed_set}, HalvesLemmas.removed_tiled}
use Rattle.vb_pages.specs.{Areas.{without_pages, block_at}, Table.order_at, Tiles.set_of}
use Rattle.vb_pages.proofs.areas.Areas.isolate.Goals as goal

pub returns-in_err-block : goal.returns-in_err-block
returns-in_err-block c = grind (arith, lowest_none)

pub overflow_sub-self : goal.overflow_sub-self
overflow_sub-self c = let b = c.in_ok-block.block in
    let listed : order_at c.self.inside.table b.start ≡ Some b.order = c.in_ok-block.ensures.0 in
    let n = count_without_block b.start b.order (set_of c.self.inside.table)
    (listed_inside c.self.inside.table c.self.invariant.0.placed b.start b.order listed) in
    omega (arith, n, c.self.invariant.1, c.size_of.ensures.size)

pub invariant_of-self : goal.invariant_of-self
invariant_of-self c = let b = c.in_ok-block.block in
    let t = c.self.inside.table in
    let listed : order_at t b.start ≡ Some b.order = c.in_ok-block.ensures.0 in
    let n = count_without_block b.start b.order (set_of t)
    (listed_inside t c.self.invariant.0.placed b.start b.order listed) in
    let now : set_of c.remove.new.self
    ≡ without_pages (pages_of (block_at b.start b.order)) (set_of t) = ap set_of c.remove.ensures
    ∙ removed_set t b.start b.order c.self.invariant.0.placed listed in grind (arith, removed_tiled)

pub returns : goal.returns
returns c = let b = c.in_ok-block.block in
    let t = c.self.inside.table in
    let v : set_of t ≡ c.args.self.now = c.self.view_is in
    let listed : order_at t b.start ≡ Some b.order = c.in_ok-block.ensures.0 in
    let low = lowest_is t c.args.order c.args.from b c.self.invariant.0 c.in_ok-block.ensures in
    grind (arith, removed_set)
