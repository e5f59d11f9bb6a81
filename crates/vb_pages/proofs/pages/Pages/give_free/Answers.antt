use Rattle.std.{proofs.Common.{◌≡◌, ap, subst, ◌∙◌, sym, refl}, specs.Prelude.◌||◌}
use Rattle.{vb_model.specs.Pages.{covers, pages_of}, vb_pages.proofs.FreeLemmas.free_of}
use Rattle.vb_pages.specs.{Areas.{block_at, with_pages}, FreePages.{FreePages, is_free_in}}
use Rattle.vb_pages.specs.PageState.{PageState, is_free_page, HasRoomIn}
use Rattle.vb_pages.proofs.PagesLemmas.{kept_at, state_of, given_kept, given_gained}
use Rattle.vb_pages.proofs.pages.Pages.give_free.Goals as goal

pub invariant_of-self : goal.invariant_of-self
invariant_of-self c = let f = c.self.inside.free in
    let v : state_of f c.self.inside.held.blocks ≡ c.args.self.now = c.self.view_is in
    kept_at c.give_block.new.self
    (free_of (with_pages (pages_of (block_at c.args.page 0)) f.areas) f.lists f.reserved)
    c.self.inside.held c.self.inside.held c.give_block.ensures.given refl
    (given_kept f c.self.inside.held c.args.page 0 c.give_block.ensures.sound c.self.invariant
    (subst (λ (x : PageState). HasRoomIn x (block_at c.args.page 0)) (sym v) c.requires))

pub returns-clause-gained : goal.returns-clause-gained
returns-clause-gained c p = let f = c.self.inside.free in
    let v : state_of f c.self.inside.held.blocks ≡ c.args.self.now = c.self.view_is in
    ap (λ (x : FreePages). is_free_in x p) c.give_block.ensures.given
    ∙ (given_gained f c.self.inside.held c.args.page 0 c.give_block.ensures.sound
    (subst (λ (x : PageState). HasRoomIn x (block_at c.args.page 0)) (sym v) c.requires) p
    ∙ ap (λ (x : PageState). is_free_page x p || covers p (block_at c.args.page 0)) v)
