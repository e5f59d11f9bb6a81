use Rattle.std.proofs.Common.{◌<◌, length, ◌∙◌, ap, arith}
use Rattle.vb_ram.{specs.Pages.contents_of, proofs.Contents.length-zero_page}
use Rattle.vb_ram.proofs.PageLemmas.{is_memory-set}
use Rattle.vb_ram.proofs.memory.Ram.discard.Goals as goal

pub invariant_of-self : goal.invariant_of-self
invariant_of-self c = let there : c.args.page < length c.self.inside.pages.items = omega arith in
    is_memory-set c.self.inside.pages.len c.self.inside.pages.items c.args.page c.take.new.self
    there c.self.invariant
    (ap (λ w. length (contents_of w)) c.take.ensures.after ∙ length-zero_page)
