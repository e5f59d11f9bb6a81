use Rattle.std.proofs.Common.{◌≡◌, drop}
use Rattle.vb_monitor.specs.Regions.{cuts_of}
use Rattle.vb_monitor.proofs.cuts.first_cut.Given as goal

abbrev pub invariant-loop-run : goal.invariant-loop-run
invariant-loop-run l = cuts_of l.regions (drop l.from l.runs) ≡ cuts_of l.regions (drop l.run l.runs)
