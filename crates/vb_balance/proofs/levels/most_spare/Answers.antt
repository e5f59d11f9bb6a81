use Rattle.std.proofs.Common.{ℕ, ◌≤◌, ap, arith}
use borrow.Author.Count.{below_more}
use Rattle.vb_virtio.specs.Targets.{Need, spare_at}
use Rattle.vb_balance.proofs.Spares.{spare_of}
use Rattle.vb_balance.proofs.levels.most_spare.Goals as goal

pub loop-need-preserved : goal.loop-need-preserved
loop-need-preserved c =
    let own = spare_of c.args.needs.now c.loop-need.need-index c.need-item.result
    c.loop-need-test.true c.need-item.is in
    below_more (λ (k : ℕ). spare_at c.args.needs.now k ≤ c.max-most.result) c.loop-need.need-index
    (λ k l. omega (arith, c.loop-need.invariant k l, c.max-most.ensures))
    (omega (arith, own, ap (λ (n : Need). n.spare) c.need.view_is, c.max-most.ensures))
