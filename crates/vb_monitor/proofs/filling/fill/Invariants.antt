use Rattle.std.proofs.Common.{◌≡◌, ◌++◌, ◌∷◌, length, take, Some}
use Rattle.vb_monitor.{specs.declared.orders.TheConstants.MAX_CUTS, specs.Orders.cuts_left, specs.Machine.cuts_after}
use Rattle.vb_monitor.proofs.filling.fill.Given as goal

abbrev pub invariant-loop-number : goal.invariant-loop-number
invariant-loop-number l = record {
  parts : l.first.cut ∷ cuts_after l.first.from l.first.run l.regions l.runs ≡ take l.number l.cuts
      ++ cuts_left l.regions l.runs (Some l.found);
  long : length l.cuts ≡ MAX_CUTS;
}
