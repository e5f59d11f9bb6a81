use Rattle.std.proofs.Common.{◌≡◌, ◌∙◌, ◌∷◌, ◌++◌, List, map, sym, subst, take}
use Rattle.vb_core.specs.declared.runs.Run.{Run}
use Rattle.vb_monitor.{specs.declared.step.Phase.Phase, specs.Accesses.Discard}
use Rattle.vb_monitor.{specs.Machine.{AheadAt, whole, cuts_after}, specs.Orders.cuts_left}
use Rattle.vb_monitor.proofs.OrderLemmas.{discards_some}
use Rattle.vb_monitor.specs.Steps.{tally_of}
use Rattle.vb_monitor.proofs.orders.discard.Goals as goal

pub returns-in-Some-clause-step : goal.returns-in-Some-clause-step
returns-in-Some-clause-step c after outcome rest h =
    let x = c.in-Discards.discarding in
    let filled = c.fill-filled.result in
    let w = whole c.args.regions.now c.args.kind after outcome in
    let first = take filled.count c.fill-filled.new.cuts in
    subst (λ (p : Phase). AheadAt p w (tally_of c.args.step.now) c.args.device.now
    c.args.room.now (map Discard first ++ rest))
    (sym c.in-Discards.is ∙ c.phase.ensures)
    (discards_some c.args.regions.now (take x.runs c.args.room.now.runs) filled.left c.in-Some.found _ _
    _ _
    (subst (λ (rs : List Run). c.in-Discards.cut ∷ cuts_after x.from x.run c.args.regions.now rs ≡
    first ++ cuts_left c.args.regions.now rs filled.left)
    c.first_runs-named.ensures c.fill-filled.ensures.parts) c.in-Some.is
    (c.discard_next.ensures.step w c.args.device.now c.args.room.now rest h))
