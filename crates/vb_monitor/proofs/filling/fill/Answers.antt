use Rattle.std.proofs.Common.{◌≡◌, ◌++◌, ◌∷◌, subst, arith, ℕ, take, Some}
use Rattle.vb_monitor.specs.{declared.orders.TheConstants.MAX_CUTS, Orders.cuts_left, Machine.cuts_after}
use Rattle.vb_monitor.proofs.filling.fill.Goals as goal

pub returns-clause-parts : goal.returns-clause-parts
returns-clause-parts c =
    let first = c.args.first.now in
    let last : c.loop-number.number ≡ MAX_CUTS =
    omega (arith, c.loop-number-test.false, c.loop-number.auto.number-end) in
    subst (λ (n : ℕ).
    first.cut ∷ cuts_after first.from first.run c.args.regions.now c.args.runs.now ≡
    take n c.loop-number.cuts ++ cuts_left c.args.regions.now c.args.runs.now
    (Some c.loop-number.found)) last c.loop-number.invariant.parts
