use Rattle.std.proofs.Common.{arith, length, ◌<◌}
use Rattle.vb_monitor.specs.declared.{room.TheConstants.MAX_RUNS}
use Rattle.vb_monitor.proofs.LeftLemmas.{parts_within, few_taken}
use Rattle.vb_monitor.proofs.discards.discard_on.Goals as goal

pub returns-in-Some-clause-left : goal.returns-in-Some-clause-left
returns-in-Some-clause-left c =
    let (on, below, some, to) = c.in-Some.ensures.within in
    let few : c.in-Some.found.run < MAX_RUNS =
    let most = few_taken c.args.discarding.runs c.args.room.now.runs
    c.first_runs-named.result.now c.first_runs-named.ensures (omega arith) in
    omega (arith, below, most) in
    let less = parts_within (length c.args.regions.now) c.args.discarding.run c.in-Some.found.run
    c.in-Some.found.from on few some to in
    omega (arith, less, c.discard_next.ensures.left c.args.regions.now)
