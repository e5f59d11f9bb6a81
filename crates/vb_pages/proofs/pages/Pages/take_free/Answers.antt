use Rattle.{std.proofs.Common.{◌≡◌, ap, ◌∙◌}, vb_pages.specs.PageState.{PageState, is_free_page}}
use Rattle.vb_pages.proofs.PagesLemmas.{state_of, singles_kept, singles_left, singles_room}
use Rattle.vb_virtio.specs.Tests.{one_if}
use Rattle.vb_pages.proofs.pages.Pages.take_free.Goals as goal

pub invariant_of-self : goal.invariant_of-self
invariant_of-self c = singles_kept c.self.inside.free c.take_pages.new.self c.self.inside.held
    c.take_pages.new.out.items c.take_pages.ensures.sound c.self.invariant
    c.take_pages.ensures.taken c.take_pages.ensures.lists c.take_pages.ensures.reserved

pub returns-clause-left : goal.returns-clause-left
returns-clause-left c p =
    let v : state_of c.self.inside.free c.self.inside.held.blocks ≡ c.args.self.now =
    c.self.view_is in singles_left c.self.inside.free c.take_pages.new.self c.self.inside.held
    c.take_pages.new.out.items c.take_pages.ensures.sound c.self.invariant
    c.take_pages.ensures.taken c.take_pages.ensures.lists p
    ∙ ap (λ (x : PageState). one_if (is_free_page x p)) v

pub returns-clause-room : goal.returns-clause-room
returns-clause-room c p i = singles_room c.self.inside.free c.take_pages.new.self c.self.inside.held
    c.take_pages.new.out.items c.take_pages.ensures.sound c.self.invariant
    c.take_pages.ensures.taken c.take_pages.ensures.lists c.take_pages.ensures.reserved p i
