use Rattle.vb_monitor.proofs.LargeLemmas.{ends_of, row_goes, none_goes}
use Rattle.vb_monitor.proofs.large.row_of.Goals as goal

pub returns-then-low-high : goal.returns-then-low-high
returns-then-low-high c = row_goes c.args.small c.args.span.first c.args.span.end _ _
    c.low_of-low.result c.high_of-high.result c.args.set.now
    (ends_of c.args.small c.args.span.first c.args.span.end c.requires.small c.if-span.false)
    c.low_of-low.ensures c.high_of-high.ensures c.if-low-high.true

pub returns-else-low-high : goal.returns-else-low-high
returns-else-low-high c = none_goes c.args.small c.args.span.first c.args.span.end _ _
    c.low_of-low.result c.high_of-high.result c.args.set.now
    (ends_of c.args.small c.args.span.first c.args.span.end c.requires.small c.if-span.false)
    c.low_of-low.ensures c.high_of-high.ensures c.if-low-high.false
