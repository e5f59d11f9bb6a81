use Rattle.std.proofs.Common.{◌≡◌, ◌/◌, ◌<◌, None, Some, Option, List, ℕ, length}
use Rattle.{std.proofs.Common.{set, true, ◌∙◌, ap, arith}, vb_pages.proofs.TableLemmas.StandFor}
use Rattle.vb_pages.proofs.TableLemmas.{added, ten_sets, set_now, block_below, length-set_of_order}
use Rattle.vb_pages.{proofs.table.Table.add.Goals.After-insert, specs.Table.{order_at, table_of}}
use Rattle.vb_pages.proofs.table.Table.add.Goals as goal

pub index_mut-requires : goal.index_mut-requires
index_mut-requires c = grind (arith, ten_sets)

pub insert-requires : goal.insert-requires
insert-requires c = let pages = c.self.inside.pages in
    let sets = c.self.inside.blocks.items in
    let k = c.args.order in
    let s = c.args.start in
    let t = table_of pages sets in
    let v : t ≡ c.args.self.now = c.self.view_is in
    let ten : k < 10 = omega arith in
    let now = set_now pages sets k c.index_mut.result.now c.self.invariant ten
    c.index_mut.ensures.value in grind (arith, block_below, length-set_of_order)

-- the sets with the block
after : (c : After-insert) → StandFor c.self.inside.pages
    (set c.self.inside.blocks.items c.args.order c.insert.new.self)
    (set (table_of c.self.inside.pages c.self.inside.blocks.items) c.args.start (Some c.args.order))
after c = let pages = c.self.inside.pages in
    let sets = c.self.inside.blocks.items in
    let t = table_of pages sets in
    let v : t ≡ c.args.self.now = c.self.view_is in
    let empty : order_at t c.args.start ≡ None =
    ap (λ (u : List (Option ℕ)). order_at u c.args.start) v ∙ c.requires.empty in
    added pages sets c.self.invariant c.args.order c.args.start c.index_mut.result.now
    c.insert.new.self (omega arith) c.requires.aligned (omega (arith, ap length v, c.requires.fits))
    empty c.index_mut.ensures.value (c.insert.ensures.set
    ∙ ap (λ (n : ℕ). set c.index_mut.result.now (c.args.start / n) true) c.size_of.ensures.size)

pub invariant_of-self : goal.invariant_of-self
invariant_of-self c = (after (goal.at.invariant_of-self c).After-insert).kept

pub returns : goal.returns
returns c = grind (arith, after)
