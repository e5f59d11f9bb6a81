use Rattle.std.proofs.Common.{arith, ◌≡◌, ◌∙◌, ap, ℕ, List, true}
use Rattle.{std.proofs.Common.false, vb_model.specs.declared.places.Place.TheVariants.Reporting}
use Rattle.vb_virtio.specs.Tests.{AllDistinct, is_in}
use Rattle.vb_model.specs.Pages.{Block, pages_of_all, placed}
use Rattle.{vb_report.specs.Blocks.blocks_of, vb_driver.specs.Areas.{flags_of, is_free_at}}
use Rattle.vb_driver.specs.{Places.marked, State.IsReportQueue, contracts.driver.Driver.the_view}
use Rattle.vb_driver.proofs.{Owning.unallocated_kept, ReportMoves.reported_kept}
use Rattle.vb_driver.proofs.ReportAreas.{no_blocks, none_chosen, only_drained}
use Rattle.vb_driver.proofs.driver.Driver.report_blocks.Goals as goal

pub invariant_of-self : goal.invariant_of-self
invariant_of-self g c = grind (arith, no_blocks, unallocated_kept, none_chosen)

pub returns-then-is_empty-clause-refused : goal.returns-then-is_empty-clause-refused
returns-then-is_empty-clause-refused g c = grind (arith, no_blocks, only_drained)

pub invariant_of-self-2 : goal.invariant_of-self-2
invariant_of-self-2 g c = let d = the_view c.self.inside in let new = c.choose-blocks.new.self in
    let r2 = c.post-head.new.self in let blocks = blocks_of c.choose-blocks.result.items in
    let same : blocks ≡ r2.blocks = search arith in
    let moved : c.set_blocks.new.self ≡ placed (pages_of_all r2.blocks) Reporting d.places =
    search arith in
    let free : (p : ℕ) → is_in p (pages_of_all r2.blocks) ≡ true
    → is_free_at (flags_of d.areas) p ≡ true = rw (← same) c.choose-blocks.ensures.free in
    let distinct : AllDistinct (pages_of_all r2.blocks) = search arith in
    let taken : flags_of new.free ≡ marked (pages_of_all r2.blocks) false (flags_of d.areas) =
    c.choose-blocks.ensures.state.free
    ∙ ap (λ (l : List Block). marked (pages_of_all l) false (flags_of d.areas)) same in
    let queue : IsReportQueue r2 d.queue_size = rw (← c.self.invariant.report.size)
    c.post-head.ensures.queue in rw moved (rw c.choose-blocks.ensures.state.held
    (reported_kept c.self.invariant free distinct taken c.choose-blocks.ensures.state.same queue))
