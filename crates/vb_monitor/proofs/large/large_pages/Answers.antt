use Rattle.std.proofs.Common.{◌∙◌, sym, arith}
use Rattle.vb_monitor.{specs.Large.counted, proofs.LargeRows.{LiesIn, lies_at, none_at}}
use Rattle.vb_monitor.proofs.large.large_pages.Goals.{In-Some}
use Rattle.vb_monitor.proofs.large.large_pages.Goals as goal

-- where the row lies
at : (c : In-Some) → LiesIn c.args.size c.args.region.now c.span_of-span.result.first
    c.span_of-span.result.end c.in-Some.row.low c.in-Some.row.high
at c = lies_at c.args.size c.args.region.now c.args.part.now c.counted.result.now _ _ _ _
    (sym c.may_go.ensures.value ∙ c.if-not-may_go.false) c.span_of-span.ensures.first
    c.span_of-span.ensures.end c.in-Some.ensures

pub bytes_of-requires-clause-starts : goal.bytes_of-requires-clause-starts
bytes_of-requires-clause-starts c = (at (goal.at.bytes_of-requires-clause-starts c).In-Some).starts

pub bytes_of-requires-clause-stops : goal.bytes_of-requires-clause-stops
bytes_of-requires-clause-stops c =
    let stops = (at (goal.at.bytes_of-requires-clause-stops c).In-Some).stops in
    omega (arith, stops, c.may_go.ensures.limit c.if-not-may_go.false)

pub overflow_mul-small : goal.overflow_mul-small
overflow_mul-small c =
    let row = at (goal.at.overflow_mul-small c).In-Some in
    omega (arith, row.small_order, row.small_stops, c.may_go.ensures.limit c.if-not-may_go.false)

pub overflow_mul-small-in-Some : goal.overflow_mul-small-in-Some
overflow_mul-small-in-Some c =
    let row = at (goal.at.overflow_mul-small-in-Some c).In-Some in
    omega (arith, row.small_stops, c.may_go.ensures.limit c.if-not-may_go.false)

pub left_of-requires-clause-starts : goal.left_of-requires-clause-starts
left_of-requires-clause-starts c = (at (goal.at.left_of-requires-clause-starts c).In-Some).meets_end

pub left_of-requires-clause-stops : goal.left_of-requires-clause-stops
left_of-requires-clause-stops c = (at (goal.at.left_of-requires-clause-stops c).In-Some).meets_first

pub returns-in-None : goal.returns-in-None
returns-in-None c = none_at c.args.size c.args.region.now c.args.part.now
    (counted c.args.device.now c.args.set.now) _ _ _ _
    (sym c.may_go.ensures.value ∙ c.if-not-may_go.false) c.span_of-span.ensures.first
    c.span_of-span.ensures.end c.counted.ensures c.in-None.ensures c.all_wait-in-None.ensures
