use Rattle.std.proofs.Common.{length, sym, ◌∙◌, ap}
use Rattle.vb_ram.{specs.Pages.Page, proofs.Blanks.length-shown}
use Rattle.vb_ram.proofs.frame.Frame.number.Goals as goal

pub returns-clause-whole : goal.returns-clause-whole
returns-clause-whole c = ap (λ (page : Page). length page.bytes) (sym c.self.view_is)
    ∙ length-shown c.self.inside.bytes.items c.self.invariant.few
