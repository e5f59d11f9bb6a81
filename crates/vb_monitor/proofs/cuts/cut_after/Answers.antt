use Rattle.std.proofs.Common.{arith, ◌+◌, length}
use Rattle.vb_monitor.proofs.LeftLemmas.{parts_fewer, fewer_after}
use Rattle.vb_monitor.proofs.cuts.cut_after.Goals as goal

pub returns-in-None-clause-fewer : goal.returns-in-None-clause-fewer
returns-in-None-clause-fewer c few =
    fewer_after c.first_cut.result (length c.args.regions.now) (length c.args.runs.now) c.args.run
    c.args.from c.first_cut.ensures.within few

pub returns-in-Some-clause-fewer : goal.returns-in-Some-clause-fewer
returns-in-Some-clause-fewer c few =
    let (below, on, is) = c.in-Some.ensures in
    parts_fewer (length c.args.regions.now) c.args.run c.args.from (c.in-Some.cut.region + 1)
    (omega (arith, on)) (omega (arith, below))
