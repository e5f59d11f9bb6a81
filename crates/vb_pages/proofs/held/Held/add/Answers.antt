use Rattle.std.proofs.{Common.{◌≡◌, ◌+◌, ◌^◌, ◌≤◌, None, length, arith}, lemmas.Bool.eqb-true}
use Rattle.{std.proofs.lemmas.{Nat.pow_pos, List.length-set}, vb_pages.specs.Table.order_at}
use Rattle.vb_pages.proofs.{TableLemmas.with_block_added, held.Held.add.Goals.After-self}
use Rattle.vb_pages.proofs.HeldLemmas.{held_of, same_held, blocks-with, uncovered_empty}
use Rattle.vb_pages.proofs.held.Held.add.Goals as goal

fits : (c : After-self) → c.args.start + 2 ^ c.args.order ≤ length c.self.inside.table
fits c = grind (arith, held_of)

empty : (c : After-self) → order_at c.self.inside.table c.args.start ≡ None
empty c = grind (arith, held_of, uncovered_empty)

pub add-requires : goal.add-requires
add-requires c = grind (arith, eqb-true, fits, empty)

pub invariant_of-self : goal.invariant_of-self
invariant_of-self c = grind (arith, with_block_added, eqb-true, fits)

pub returns : goal.returns
returns c = grind (arith, held_of, pow_pos, fits, same_held, length-set, blocks-with, empty)
