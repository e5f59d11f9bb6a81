use Rattle.vb_virtio.specs.Tests.{times}
use Rattle.vb_virtio.proofs.Distinct.{distinct_once}
use Rattle.std.proofs.Common.{arith}
use Rattle.vb_pages.specs.PageState.{PageState, is_free_page}
use Rattle.vb_driver.proofs.Allocating.{count_flags, taken_state, taken_free, taken_once}
use Rattle.vb_driver.proofs.areas.Allocator.take_free.Goals as goal

pub take_free-requires-clause-enough : goal.take_free-requires-clause-enough
take_free-requires-clause-enough c = grind (arith, count_flags)

pub returns-clause-free : goal.returns-clause-free
returns-clause-free c = let s : PageState = c.self.inside.pages in rw (← c.self.view_is)
    (taken_free s c.take_free.new.self c.take_free.new.out.items c.pages_are_apart.ensures
    c.take_free.ensures.left)

pub returns-clause-distinct : goal.returns-clause-distinct
returns-clause-distinct c = let s : PageState = c.self.inside.pages in
    let new : PageState = c.take_free.new.self in distinct_once c.take_free.new.out.items
    (λ p. taken_once (is_free_page new p) (is_free_page s p) (times p c.take_free.new.out.items)
    (c.take_free.ensures.left p))

pub returns-clause-state : goal.returns-clause-state
returns-clause-state c = grind (arith, taken_state)
