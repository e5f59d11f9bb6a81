use Rattle.std.proofs.Common.{length}
use Rattle.vb_driver.{specs.Answers.block_at, specs.contracts.driver.Driver.the_view}
use Rattle.vb_driver.proofs.Owning.{freed_was_held, held_block_inside, block_freed_kept}
use Rattle.vb_driver.proofs.driver.Driver.free.Goals as goal

pub set_block-requires-clause-inside : goal.set_block-requires-clause-inside
set_block-requires-clause-inside c = let d = the_view c.self.inside in
    let b = block_at c.args.start c.args.order in held_block_inside b c.self.invariant
    (freed_was_held d.held b (length d.areas.lists) _ c.in-Ok.ensures.refusal)

pub invariant_of-self : goal.invariant_of-self
invariant_of-self c = let d = the_view c.self.inside in
    let b = block_at c.args.start c.args.order in let becomes = c.in-Ok.ensures.state in
    let kept = block_freed_kept b c.self.invariant
    (freed_was_held d.held b (length d.areas.lists) _ c.in-Ok.ensures.refusal) becomes.free
    becomes.held becomes.same c.in-Ok.ensures.apart in rw c.set_block.ensures (rw becomes.held kept)
