use Rattle.std.proofs.Common.{arith}
use Rattle.vb_pages.proofs.{ServingLemmas.takes_pages_sound, FreeLemmas.free_of}
use Rattle.vb_pages.proofs.free.FreePages.take_pages.Goals as goal

pub invariant_of-self : goal.invariant_of-self
invariant_of-self c = grind (arith, takes_pages_sound, free_of)
