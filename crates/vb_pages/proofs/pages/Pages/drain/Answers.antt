use Rattle.std.proofs.Common.{arith, refl}
use Rattle.vb_pages.{specs.FreePages.drained, proofs.FreeLemmas.drained_times}
use Rattle.vb_pages.proofs.PagesLemmas.{kept_at, state_of, drained_kept, free_same}
use Rattle.vb_pages.proofs.pages.Pages.drain.Goals as goal

pub invariant_of-self : goal.invariant_of-self
invariant_of-self c = kept_at c.drain.new.self
    (drained c.self.inside.free) c.self.inside.held c.self.inside.held c.drain.ensures.drained refl
    (drained_kept c.self.inside.free c.self.inside.held c.drain.ensures.sound c.self.invariant)

pub returns-clause-same : goal.returns-clause-same
returns-clause-same c p = grind (arith, state_of, free_same, drained_times)
