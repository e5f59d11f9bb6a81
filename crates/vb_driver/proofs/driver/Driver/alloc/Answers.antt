use Rattle.{std.proofs.Common.{arith, ◌∙◌, sym, ap, List, Ok}, vb_model.specs.Pages.{Block, placed}}
use Rattle.vb_model.specs.{Pages.pages_of, declared.places.Place.{Place, TheVariants.Used}}
use Rattle.vb_driver.{proofs.Owning.{whole_is, allocated_kept}, specs.Answers.block_at}
use Rattle.vb_driver.proofs.Owning.{alloc_tests_same, free_block_inside, unallocated_kept}
use Rattle.vb_driver.specs.{State.DriverState, Calls.AllocatesBy, contracts.driver.Driver.the_view}
use Rattle.vb_driver.proofs.driver.Driver.alloc.Goals as goal

pub set_block-requires-clause-inside : goal.set_block-requires-clause-inside
set_block-requires-clause-inside c = free_block_inside
    (block_at c.in-Ok.start c.args.order) c.self.invariant c.in-Ok.ensures.free

pub invariant_of-self : goal.invariant_of-self
invariant_of-self c = let new = c.alloc.new.self in let b = block_at c.in-Ok.start c.args.order in
    let becomes = c.in-Ok.ensures.state in
    let kept = allocated_kept b c.self.invariant c.in-Ok.ensures.free becomes.free
    becomes.same in rw c.set_block.ensures (rw becomes.held kept)

pub returns-in-Ok : goal.returns-in-Ok
returns-in-Ok c = let d = the_view c.self.inside in let areas = c.alloc.new.self in
    let start = c.in-Ok.start in let order = c.args.order in let b = block_at start order in
    let new : DriverState =
    record d { places = c.set_block.new.self; held = areas.held; areas = areas.free } in
    let allocates : AllocatesBy d new c.args.cpu order (Ok start) = record {
      driver = c.self.invariant;
      refusal = c.in-Ok.ensures.refusal ∙ alloc_tests_same c.args.cpu order c.self.invariant;
      refused = tt;
      free = sym (whole_is d.places b c.self.invariant.free) ∙ c.in-Ok.ensures.free;
      state = ap (λ (v : List Place). record d {
        places = v;
        held = areas.held;
        areas = areas.free;
      }) c.set_block.ensures ∙ ap (λ (v : List Block). record d {
        places = placed (pages_of b) Used d.places;
        held = v;
        areas = areas.free;
      }) c.in-Ok.ensures.state.held;
      areas = c.in-Ok.ensures.areas;
    } in rw (← c.self.view_is) allocates

pub invariant_of-self-in-Err : goal.invariant_of-self-in-Err
invariant_of-self-in-Err c = grind (arith, unallocated_kept)

pub returns-in-Err : goal.returns-in-Err
returns-in-Err c = grind (arith, alloc_tests_same)
