use Rattle.std.proofs.Common.{◌≡◌, ap, arith}
use Rattle.vb_virtio.specs.Targets.{Need}
use Rattle.vb_balance.proofs.Shares.{one_more, gives_at_it, gives_elsewhere}
use Rattle.vb_balance.proofs.sharing.give.Goals as goal
use Rattle.vb_balance.proofs.sharing.give.Goals.{then-need-level, else-need-level}

pub loop-i-preserved : goal.loop-i-preserved
loop-i-preserved c = let n = c.index-needs-i.result in
    let left = c.loop-i.left in
    let target = c.asked-pages.result in
    let after = c.if-need-level.left in
    let same : c.need.inside.spare ≡ n.spare = ap (λ (m : Need). m.spare) c.need.view_is in
    let asked = c.asked-pages.ensures in
    one_more c.args.needs.now c.args.level c.args.rest c.loop-i.i c.loop-i.targets left target after
    n c.loop-i.invariant c.loop-i-test.true c.index-needs-i.is (elim c.if-need-level.branch [
      | then-need-level w ↦ gives_at_it n.spare c.args.level left target after
          (omega (arith, same, w.if-need-level.true))
          (asked.at_it w.if-need-level.true) (omega (arith, w.left-is, w.from-left.ensures))
      | else-need-level w ↦ gives_elsewhere n.spare c.args.level left target after
          (λ e. w.if-need-level.false (omega (arith, same, e)))
          (λ more. omega (arith, same, asked.above (omega (arith, same, more))))
          (λ less. omega (arith, asked.below (omega (arith, same, less)))) w.left-is
    ])
