use Rattle.vb_pages.proofs.FreeLemmas.{isolated_sound, free_of}
use Rattle.vb_pages.proofs.free.FreePages.isolate.Goals as goal

pub invariant_of-self : goal.invariant_of-self
invariant_of-self c =
    isolated_sound (free_of c.self.inside.areas c.self.inside.lists.items c.self.inside.reserved) c.isolate.new.self
    c.args.order c.args.from c.isolate.result c.self.invariant c.isolate.ensures
