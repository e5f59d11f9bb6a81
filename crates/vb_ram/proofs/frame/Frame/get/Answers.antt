use Rattle.std.{proofs.Common.{◌+◌, ℕ, List, sym, ◌∙◌, ap}, specs.Prelude.slice_index}
use Rattle.vb_ram.{specs.Pages.Page, proofs.Blanks.shown-at}
use Rattle.vb_ram.proofs.frame.Frame.get.Goals as goal

pub returns-clause-read : goal.returns-clause-read
returns-clause-read c k lt = let place = c.args.offset + k in
    c.read_bytes.ensures.read k lt ∙ ap (λ (held : List ℕ). slice_index held place)
    c.deref.ensures.value ∙ sym (shown-at c.self.inside.bytes.items place)
    ∙ ap (λ (page : Page). slice_index page.bytes place) c.self.view_is
