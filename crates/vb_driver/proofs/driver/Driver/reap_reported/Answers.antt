use Rattle.std.proofs.Common.{◌≡◌, ◌∙◌, sym, ap, refl, rules, ℕ, List, true}
use Rattle.vb_virtio.specs.Tests.{is_in}
use Rattle.vb_model.specs.declared.places.Place.TheVariants.{Free, Reporting}
use Rattle.{vb_model.specs.Pages.{Block, pages_of_all, placed}, vb_report.specs.Blocks.blocks_of}
use Rattle.vb_driver.proofs.{Moving.{IsOut, is_out}, ReportMoves.{reported_place, reported_once}}
use Rattle.vb_driver.proofs.{ReportMoves.returned_kept, ReportTables.taken_report_queue}
use Rattle.vb_driver.specs.{Areas.flags_of, Places.marked, State.{ReportSide, IsReportQueue}}
use Rattle.vb_driver.specs.{State.{IsDriver, DriverState}, contracts.driver.Driver.the_view}
use Rattle.vb_driver.proofs.driver.Driver.reap_reported.Goals as goal

out_again : (d : DriverState) (p : ℕ) (blocks : List Block)
    → IsDriver d → blocks ≡ d.report.blocks → is_in p (pages_of_all blocks) ≡ true → IsOut d p
out_again d p blocks kept is found = is_out Reporting kept refl refl refl
    (reported_place p kept (ap (λ (l : List Block). is_in p (pages_of_all l)) (sym is) ∙ found))

pub give_blocks-requires : goal.give_blocks-requires
give_blocks-requires g c = let d = the_view c.self.inside in
    let next = rw c.in-Ok-Some.field-0-is at c.in-Ok-Some.ensures.next in
    let blocks : blocks_of c.deref.result.now ≡ d.report.blocks =
    ap blocks_of c.deref.ensures.0 ∙ next.2 in
    let out = λ (p : ℕ). out_again d p
    (blocks_of c.deref.result.now) c.self.invariant blocks in record {
      blocks = search rules;
      unreserved = λ p found. (out p found).unreserved;
      inside = λ p found. (out p found).inside;
      taken = λ p found. (out p found).taken;
      uncovered = λ p found. (out p found).uncovered;
      once = λ p. rw blocks (reported_once p c.self.invariant);
    }

pub set_blocks-requires-clause-inside : goal.set_blocks-requires-clause-inside
set_blocks-requires-clause-inside g c p found = let d = the_view c.self.inside in
    let next = rw c.in-Ok-Some.field-0-is at c.in-Ok-Some.ensures.next in
    (out_again d p (blocks_of c.deref-2.result.now) c.self.invariant
    (ap blocks_of c.deref-2.ensures.0 ∙ next.2) found).there

pub invariant_of-self-2 : goal.invariant_of-self-2
invariant_of-self-2 g c = let d = the_view c.self.inside in let areas2 = c.give_blocks.new.self in
    let r2 = c.take_report_back.new.report in
    let next = rw c.in-Ok-Some.field-0-is at c.in-Ok-Some.ensures.next in
    let given : blocks_of c.deref.result.now ≡ d.report.blocks =
    ap blocks_of c.deref.ensures.0 ∙ next.2 in
    let freed : blocks_of c.deref-2.result.now ≡ d.report.blocks =
    ap blocks_of c.deref-2.ensures.0 ∙ next.2 in
    let moved : c.set_blocks.new.self ≡ placed (pages_of_all d.report.blocks) Free d.places =
    c.set_blocks.ensures ∙ ap (λ (l : List Block). placed (pages_of_all l) Free d.places) freed in
    let free : flags_of areas2.free ≡ marked
    (pages_of_all d.report.blocks) true (flags_of d.areas) = c.give_blocks.ensures.state.free
    ∙ ap (λ (l : List Block). marked (pages_of_all l) true (flags_of d.areas)) given in
    let queue : IsReportQueue r2 d.queue_size = rw next.3
    (taken_report_queue c.self.invariant.report next.1 refl) in rw moved
    (rw c.give_blocks.ensures.state.held (returned_kept c.self.invariant
    free c.give_blocks.ensures.state.same queue (ap (λ (s : ReportSide). s.blocks) next.3)))
