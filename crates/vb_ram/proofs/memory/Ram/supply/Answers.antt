use Rattle.std.proofs.Common.{ℕ, ◌<◌, length, set, Some, ap, arith, subst}
use Rattle.vb_ram.{specs.Pages.{Page, Pages, Supplied}, proofs.PageLemmas.supplied}
use Rattle.vb_ram.proofs.memory.Ram.supply.Goals as goal

pub returns-clause-ok : goal.returns-clause-ok
returns-clause-ok c = let there : c.args.page < length c.self.inside.pages.items = omega arith in
    let done = supplied c.self.inside.pages.items c.args.page c.clear.new.self there
    (ap (λ (page : Page). page.bytes) c.clear.ensures) in
    let new = set c.self.inside.pages.items c.args.page (Some c.clear.new.self) in
    let at_now = subst (λ (old : Pages). Supplied old new c.args.page c.clear.new.self.number)
    c.self.view_is done in subst (λ (n : ℕ). Supplied c.args.self.now new c.args.page n)
    (ap (λ (page : Page). page.number) c.clear.ensures) at_now
