use Rattle.{std.proofs.lemmas.List.length-set, vb_model.specs.Pages.is_same_block}
use Rattle.std.{proofs.Common.{arith, ◌≡◌, Some, length, ap, subst, sym, ◌∙◌}, specs.List.list_any}
use Rattle.vb_pages.specs.{Table.{order_at, AreBlocks}, Held.{HeldBlocks, blocks_of}}
use Rattle.vb_pages.{proofs.TableLemmas.{is_there, with_block_removed}, specs.Areas.block_at}
use Rattle.vb_pages.proofs.held.Held.remove.Goals.{After-self}
use Rattle.vb_pages.proofs.HeldLemmas.{held_of, same_held, blocks-without, holds_at}
use Rattle.vb_pages.proofs.held.Held.remove.Goals as goal

listed : (c : After-self) → order_at c.self.inside.table c.args.start ≡ Some c.args.order
listed c = let t = c.self.inside.table in
    let v : held_of (length t) (blocks_of t) ≡ c.args.self.now = c.self.view_is in
    holds_at c.args.start c.args.order t (ap (λ (h : HeldBlocks). list_any
    (λ b. is_same_block b (block_at c.args.start c.args.order)) h.blocks) v ∙ c.requires)

pub remove-requires : goal.remove-requires
remove-requires c = let there = listed (goal.at.remove-requires c).After-self in
    record { order = c.self.invariant.bounded c.args.start c.args.order there; there = there }

pub invariant_of-self : goal.invariant_of-self
invariant_of-self c = let t = c.self.inside.table in
    let there = listed (goal.at.invariant_of-self c).After-self in
    subst AreBlocks (sym c.remove.ensures) (with_block_removed t c.args.start
    (is_there t c.args.start c.args.order there) c.self.invariant)

pub returns-clause-block : goal.returns-clause-block
returns-clause-block c = let e = listed (goal.at.returns-clause-block c).After-self in grind arith

pub returns-clause-removed : goal.returns-clause-removed
returns-clause-removed c = grind (arith, held_of, listed, same_held, length-set, blocks-without)
