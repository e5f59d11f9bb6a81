use Rattle.std.proofs.Common.{◌≡◌}
use Rattle.vb_pages.proofs.PagesLemmas.{state_of, isolated_kept, isolated_left, isolated_room}
use Rattle.vb_pages.proofs.pages.Pages.isolate.Goals as goal

pub invariant_of-self : goal.invariant_of-self
invariant_of-self c =
    isolated_kept c.self.inside.free c.isolate.new.self c.self.inside.held c.args.order c.args.from
    c.isolate.result c.isolate.ensures.sound c.self.invariant c.isolate.ensures.isolated

pub returns-clause-left : goal.returns-clause-left
returns-clause-left c =
    let v : state_of c.self.inside.free c.self.inside.held.blocks ≡ c.args.self.now =
    c.self.view_is in rw (← v)
    (isolated_left c.self.inside.free c.isolate.new.self c.self.inside.held c.args.order c.args.from
    c.isolate.result c.isolate.ensures.sound c.self.invariant c.isolate.ensures.isolated)

pub returns-clause-room : goal.returns-clause-room
returns-clause-room c =
    isolated_room c.self.inside.free c.isolate.new.self c.self.inside.held c.args.order c.args.from
    c.isolate.result c.isolate.ensures.sound c.self.invariant c.isolate.ensures.isolated
