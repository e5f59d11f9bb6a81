use Rattle.std.specs.Prelude.{◌||◌}
use Rattle.std.{proofs.Common.{◌≡◌, ◌<◌, true, length, ap, ◌∙◌, sym, arith}, specs.List.list_any}
use Rattle.vb_model.specs.{Driver.without_block, Pages.{covers, is_same_block}}
use Rattle.vb_pages.proofs.{FreeLemmas.given_times, pages.Pages.free.Goals.After-remove}
use Rattle.vb_pages.specs.{Areas.block_at, PageState.{PageState, is_free_page, is_held_block}}
use Rattle.vb_pages.{proofs.HeldLemmas.held_of, specs.FreePages.{FreePages, is_free_in, given_back}}
use Rattle.vb_pages.proofs.PagesLemmas.{kept_at, state_of, free_gained, back_room, back_kept}
use Rattle.vb_pages.proofs.pages.Pages.free.Goals as goal

is_held : (c : After-remove)
    → list_any (λ h. is_same_block h (block_at c.args.start c.args.order)) c.self.inside.held.blocks
    ≡ true
is_held c = sym c.holds.ensures ∙ c.if-not-holds.false

pub give-requires-clause-room : goal.give-requires-clause-room
give-requires-clause-room c = search (arith, back_room, is_held)

pub invariant_of-self : goal.invariant_of-self
invariant_of-self c = let l : c.args.cpu < length c.self.inside.free.lists = omega arith in
    kept_at c.give.new.self (given_back c.args.cpu c.args.start c.args.order c.self.inside.free)
    c.remove.new.self (held_of c.self.inside.held.pages
    (without_block (block_at c.args.start c.args.order) c.self.inside.held.blocks))
    c.give.ensures.given c.remove.ensures.removed
    (back_kept c.self.inside.free c.self.inside.held c.args.start c.args.order c.self.invariant
    (is_held (goal.at.invariant_of-self c).After-remove) c.remove.ensures.block c.args.cpu
    c.give.ensures.sound l)

pub returns-clause-not_held : goal.returns-clause-not_held
returns-clause-not_held c =
    let v : state_of c.self.inside.free c.self.inside.held.blocks ≡ c.args.self.now =
    c.self.view_is in
    let e : is_held_block c.args.self.now (block_at c.args.start c.args.order) ≡ true =
    ap (λ (x : PageState). is_held_block x (block_at c.args.start c.args.order)) (sym v)
    ∙ is_held (goal.at.returns-clause-not_held c).After-remove in grind arith

pub returns-clause-gained : goal.returns-clause-gained
returns-clause-gained c p = let l : c.args.cpu < length c.self.inside.free.lists = omega arith in
    let f = c.self.inside.free in
    let v : state_of f c.self.inside.held.blocks ≡ c.args.self.now = c.self.view_is in
    let room = back_room f c.self.inside.held c.args.start c.args.order c.self.invariant
    (is_held (goal.at.returns-clause-gained c).After-remove) c.remove.ensures.block in
    ap (λ (x : FreePages). is_free_in x p) c.give.ensures.given ∙ (free_gained f
    (given_back c.args.cpu c.args.start c.args.order f) p (block_at c.args.start c.args.order)
    (given_times f c.args.cpu c.args.start c.args.order c.give.ensures.sound l room p)
    ∙ ap (λ (x : PageState). is_free_page x p || covers p (block_at c.args.start c.args.order)) v)
