use Rattle.std.proofs.Common.{subst, arith}
use Rattle.vb_pages.{specs.Table.AreBlocks, proofs.TableLemmas.{ten_sets, set_now, length-table_of}}
use Rattle.vb_pages.proofs.table.Table.of_order.Goals as goal

pub index-requires : goal.index-requires
index-requires c = grind (arith, ten_sets)

pub returns-clause-set : goal.returns-clause-set
returns-clause-set c = grind (arith, set_now)

pub returns-clause-blocks : goal.returns-clause-blocks
returns-clause-blocks c = subst AreBlocks c.self.view_is c.self.invariant.blocks

pub returns-clause-small : goal.returns-clause-small
returns-clause-small c = grind (arith, length-table_of)
