use Rattle.std.proofs.Common.{arith, ◌≡◌, ◌<◌, ◌≤◌, sym, subst, ℕ, true, false, length}
use Rattle.vb_virtio.specs.Tests.{is_in}
use Rattle.vb_model.specs.Pages.{pages_of_all}
use Rattle.{vb_pages.specs.PageState.{PageState, reserved_count}, vb_report.specs.Blocks.blocks_of}
use Rattle.vb_driver.specs.Areas.{flags_of, is_free_at, is_covered}
use Rattle.vb_driver.proofs.ReportAreas.{have_room, given_blocks}
use Rattle.vb_driver.proofs.areas.Allocator.give_blocks.Goals as goal

pub give_all-requires : goal.give_all-requires
give_all-requires c = let blocks = c.args.blocks.now in
    let pages = pages_of_all (blocks_of blocks) in
    have_room c.pages_are_apart.ensures c.requires.blocks (subst (λ (v : PageState). (page : ℕ)
    → is_in page pages ≡ true → reserved_count v ≤ page) (sym c.self.view_is) c.requires.unreserved)
    (subst (λ (v : PageState). (page : ℕ) → is_in page pages ≡ true → page < length
    (flags_of v.free)) (sym c.self.view_is) c.requires.inside) (subst (λ (v : PageState). (page : ℕ)
    → is_in page pages ≡ true → is_free_at (flags_of v.free) page ≡ false) (sym c.self.view_is)
    c.requires.taken) (subst (λ (v : PageState). (page : ℕ) → is_in page pages ≡ true
    → is_covered page v.held ≡ false) (sym c.self.view_is) c.requires.uncovered) c.requires.once

pub returns-clause-state : goal.returns-clause-state
returns-clause-state c = grind (arith, given_blocks)
