use Rattle.std.{proofs.Common.{arith, length, subst, sym}, proofs.lemmas.List.length-replicate}
use Rattle.vb_pages.{proofs.HeldLemmas.{held_of, same_held, blocks-none}, specs.Table.AreBlocks}
use Rattle.vb_pages.proofs.TableLemmas.{no_blocks}
use Rattle.vb_pages.proofs.held.Held.clear.Goals as goal

pub invariant_of-self : goal.invariant_of-self
invariant_of-self c = subst AreBlocks (sym c.clear.ensures) (no_blocks (length c.self.inside.table))

pub returns : goal.returns
returns c = grind (arith, held_of, same_held, length-replicate, blocks-none)
