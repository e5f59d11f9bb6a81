use Rattle.std.{proofs.Common.{arith, subst, sym}, proofs.lemmas.List.length-replicate}
use Rattle.vb_pages.{specs.Table.AreBlocks, proofs.TableLemmas.no_blocks}
use Rattle.vb_pages.proofs.HeldLemmas.{same_held, blocks-none}
use Rattle.vb_pages.proofs.held.Held.new.Goals as goal

pub invariant_of-result : goal.invariant_of-result
invariant_of-result c = subst AreBlocks (sym c.in_ok-new.ensures) (no_blocks c.args.pages)

pub returns : goal.returns
returns c = grind (arith, same_held, length-replicate, blocks-none)
