use Rattle.std.proofs.Common.{arith}
use Rattle.vb_monitor.proofs.LargeLemmas.{outside_is}
use Rattle.vb_monitor.proofs.large.left_of.Goals as goal

pub returns : goal.returns
returns c =
    let is = outside_is c.args.span.first c.args.span.end c.args.from c.args.further
    c.requires.order c.requires.row c.requires.starts c.requires.stops in
    omega (arith, is, c.saturating_sub.ensures, c.saturating_sub-2.ensures)
