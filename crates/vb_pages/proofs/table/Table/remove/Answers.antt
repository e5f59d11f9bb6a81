use Rattle.std.proofs.Common.{◌≡◌, ◌/◌, ◌<◌, None, Some, Option, List, ℕ, set, false}
use Rattle.{std.proofs.Common.{◌∙◌, ap, arith}, vb_pages.proofs.TableLemmas.{StandFor, removed}}
use Rattle.vb_pages.proofs.TableLemmas.{ten_sets, set_now, block_below, length-set_of_order}
use Rattle.vb_pages.{proofs.table.Table.remove.Goals.After-remove, specs.Table.{order_at, table_of}}
use Rattle.vb_pages.proofs.table.Table.remove.Goals as goal

pub index_mut-requires : goal.index_mut-requires
index_mut-requires c = grind (arith, ten_sets)

pub remove-requires : goal.remove-requires
remove-requires c = let pages = c.self.inside.pages in
    let sets = c.self.inside.blocks.items in
    let k = c.args.order in
    let s = c.args.start in
    let t = table_of pages sets in
    let v : t ≡ c.args.self.now = c.self.view_is in
    let listed : order_at t s ≡ Some k =
    ap (λ (u : List (Option ℕ)). order_at u s) v ∙ c.requires.there in
    let ten : k < 10 = omega arith in
    let now = set_now pages sets k c.index_mut.result.now c.self.invariant ten
    c.index_mut.ensures.value in grind (arith, block_below, length-set_of_order)

-- the sets without the block
after : (c : After-remove) → StandFor c.self.inside.pages
    (set c.self.inside.blocks.items c.args.order c.remove.new.self)
    (set (table_of c.self.inside.pages c.self.inside.blocks.items) c.args.start None)
after c = let pages = c.self.inside.pages in
    let sets = c.self.inside.blocks.items in
    let t = table_of pages sets in
    let v : t ≡ c.args.self.now = c.self.view_is in
    let listed : order_at t c.args.start ≡ Some c.args.order =
    ap (λ (u : List (Option ℕ)). order_at u c.args.start) v ∙ c.requires.there in
    removed pages sets c.self.invariant c.args.order c.args.start c.index_mut.result.now
    c.remove.new.self listed c.index_mut.ensures.value (c.remove.ensures.set
    ∙ ap (λ (n : ℕ). set c.index_mut.result.now (c.args.start / n) false) c.size_of.ensures.size)

pub invariant_of-self : goal.invariant_of-self
invariant_of-self c = (after (goal.at.invariant_of-self c).After-remove).kept

pub returns : goal.returns
returns c = grind (arith, after)
