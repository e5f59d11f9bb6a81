use Rattle.std.proofs.Common.{◌≡◌, drop}
use Rattle.vb_monitor.specs.Regions.{cuts_from}
use Rattle.vb_monitor.proofs.cuts.next_cut.Given as goal

abbrev pub invariant-loop-number : goal.invariant-loop-number
invariant-loop-number l = cuts_from l.from
    (drop l.from l.regions) l.run ≡ cuts_from l.number (drop l.number l.regions) l.run
