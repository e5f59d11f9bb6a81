use Rattle.std.proofs.Common.{◌≡◌, ◌∙◌, sym, arith, true, false, is_some}
use Rattle.{std.proofs.lemmas.Bool.{false_from_ne_true, both_ways}, vb_ram.specs.Pages.frame_at}
use Rattle.vb_virtio.specs.Layout.{is_start_page}
use Rattle.vb_virtio.proofs.Shapes.{start_reserved}
use Rattle.vb_driver.{specs.Answers.has_frames, proofs.Shapes.{all_frames, frames_there}}
use Rattle.vb_driver.proofs.memory.all_backed.Goals as goal

pub returns-then-not-has_frame-clause-value : goal.returns-then-not-has_frame-clause-value
returns-then-not-has_frame-clause-value g c = let size = c.args.shape.queue_size in
    let mem = g.G.GuestBytes.mem c.args.ram.now in
    let page = c.loop-page.page in
    let start : is_start_page size page ≡ true =
    sym c.is_start_page.ensures ∙ c.if-is_start_page.true in
    let none : is_some (frame_at mem page) ≡ false =
    sym c.has_frame.ensures ∙ c.if-not-has_frame.true in
    sym (false_from_ne_true (has_frames size mem)
    (λ all. both_ways (is_some (frame_at mem page)) none (frames_there size mem all page start)))

pub returns-clause-value : goal.returns-clause-value
returns-clause-value g c = let size = c.args.shape.queue_size in
    sym (all_frames size (g.G.GuestBytes.mem c.args.ram.now) (λ page start.
    c.loop-page.invariant page (omega (
      arith,
      start_reserved size page start,
      c.reserved_pages-page-end.ensures,
      c.loop-page-test.false,
    )) start))

pub returns-clause-backed : goal.returns-clause-backed
returns-clause-backed g c told page start =
    c.loop-page.invariant page (omega (
      arith,
      start_reserved c.args.shape.queue_size page start,
      c.reserved_pages-page-end.ensures,
      c.loop-page-test.false,
    )) start
