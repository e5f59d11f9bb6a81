use Rattle.std.proofs.Common.{None, ◌++◌, length, take, drop, replicate, arith}
use Rattle.std.proofs.lemmas.List.{drop_all, take_all, append-nil}
use Rattle.vb_pages.proofs.TableLemmas.{StandFor, cleared, ten_sets, length-table_of}
use Rattle.vb_pages.proofs.table.Table.clear.Goals.{After-loop-set}
use Rattle.vb_pages.proofs.table.Table.clear.Goals as goal

-- the sets without a member
after : (c : After-loop-set) → StandFor c.self.inside.pages (take c.self.inside.blocks.len
    (c.loop-set.set-items ++ drop (length c.loop-set.set-items) c.self.inside.blocks.items))
    (replicate c.self.inside.pages None)
after c = grind (arith, drop_all, append-nil, take_all, cleared, ten_sets)

pub invariant_of-self : goal.invariant_of-self
invariant_of-self c = (after (goal.at.invariant_of-self c).After-loop-set).kept

pub returns : goal.returns
returns c = grind (arith, after, length-table_of)
