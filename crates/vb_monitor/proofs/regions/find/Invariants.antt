use Rattle.std.proofs.Common.{◌≡◌, drop}
use Rattle.vb_monitor.specs.Regions.{spot_from}
use Rattle.vb_monitor.proofs.regions.find.Given as goal

abbrev pub invariant-loop-number : goal.invariant-loop-number
invariant-loop-number l = spot_from 0 l.regions l.address l.length
    ≡ spot_from l.number (drop l.number l.regions) l.address l.length
