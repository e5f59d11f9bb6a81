use Rattle.std.proofs.Common.{rules, arith, ◌≡◌, ◌==◌, ◌<◌, false}
use Rattle.vb_monitor.proofs.{LeftLemmas.one_taken, NextLemmas.takes_next}
use Rattle.vb_monitor.specs.Machine.{whole}
use Rattle.vb_monitor.specs.Steps.{tally_of}
use Rattle.vb_monitor.proofs.looks.take.Goals as goal

pub returns-then-step-eq0-2-clause-left : goal.returns-then-step-eq0-2-clause-left
returns-then-step-eq0-2-clause-left c =
    let some : 0 < (tally_of c.args.step.now).chains = search rules in
    omega (arith, one_taken c.args.regions.now (tally_of c.args.step.now).chains some, c.end-then-step-eq0-2.ensures.left)

pub returns-clause-left : goal.returns-clause-left
returns-clause-left c =
    let some : 0 < (tally_of c.args.step.now).chains = search rules in
    omega (arith, one_taken c.args.regions.now (tally_of c.args.step.now).chains some, c.ask_entry.ensures.left)

pub returns-clause-step : goal.returns-clause-step
returns-clause-step c = λ after outcome room log h.
    let some : 0 < (tally_of c.args.step.now).chains = search rules in
    let e : ((tally_of c.args.step.now).pages == 0) ≡ false = search rules in
    takes_next (tally_of c.args.step.now).chains (whole c.args.regions.now c.args.kind after outcome)
    c.args.device.now (tally_of c.args.step.now) log some e (c.ask_entry.ensures.step after outcome room log h)
