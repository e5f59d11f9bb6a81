use Rattle.{std.proofs.Common.arith, vb_pages.proofs.FreeLemmas.{block_sound, free_of}}
use Rattle.vb_pages.proofs.free.FreePages.give_block.Goals as goal

pub invariant_of-self : goal.invariant_of-self
invariant_of-self c = grind (arith, free_of, block_sound)
