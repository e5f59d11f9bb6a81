use Rattle.std.{proofs.Common.arith, proofs.lemmas.List.length-replicate}
use Rattle.vb_pages.proofs.FreeLemmas.{fresh_sound, flat-replicate, list-replicate, free_of}
use Rattle.vb_pages.proofs.FreeLemmas.{nothing}
use Rattle.vb_pages.proofs.free.FreePages.new.Goals as goal

pub invariant_of-result : goal.invariant_of-result
invariant_of-result c =
    grind (arith, nothing, fresh_sound, length-replicate, flat-replicate, list-replicate, free_of)
