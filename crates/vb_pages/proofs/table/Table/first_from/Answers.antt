use Rattle.std.proofs.Common.{◌≡◌, ◌/◌, ◌%◌, ◌+◌, ◌*◌, ◌^◌, Some, ℕ, min, arith}
use Rattle.vb_bits.specs.Sets.{IsLeastFrom}
use Rattle.vb_pages.{specs.Table.IsLowestStart, proofs.TableLemmas.{lowest_none, lowest_some}}
use Rattle.vb_pages.proofs.table.Table.first_from.Goals.{After-first_from}
use Rattle.vb_pages.proofs.table.Table.first_from.Goals as goal

-- the first number of a block that starts at the page or after it
up : (c : After-first_from)
    → c.div_ceil.result ≡ c.args.from / 2 ^ c.args.order + min 1 (c.args.from % 2 ^ c.args.order)
up c = search (arith)

-- the start of a block that was found
found : (c : After-first_from) (b : ℕ) → IsLeastFrom c.of_order-blocks.result.now c.div_ceil.result b
    → IsLowestStart c.args.self.now c.args.order c.args.from (Some (b * c.size_of-size.result))
found c b least = let t = c.args.self.now in
    let k = c.args.order in
    let from = c.args.from in rw c.size_of-size.ensures.size
    (lowest_some t k from b c.of_order-blocks.ensures.blocks (rw (← c.of_order-blocks.ensures.set)
    (rw (← (up c)) least)))

pub overflow_mul-result : goal.overflow_mul-result
overflow_mul-result c = grind (
  arith,
  found (goal.at.overflow_mul-result c).After-first_from c.in-Some.block c.in-Some.ensures,
)

pub returns-in-Some : goal.returns-in-Some
returns-in-Some c =
    found (goal.at.returns-in-Some c).After-first_from c.in-Some.block c.in-Some.ensures

pub returns-in-None : goal.returns-in-None
returns-in-None c = let k = c.args.order in
    let from = c.args.from in lowest_none c.args.self.now k from c.of_order-blocks.ensures.blocks
    (rw (← c.of_order-blocks.ensures.set) (rw (← (up (goal.at.returns-in-None c).After-first_from)) c.in-None.ensures))
