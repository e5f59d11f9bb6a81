use Rattle.std.{proofs.Common.{◌≡◌, ◌≤◌, drop}, specs.Prelude.max}
use Rattle.vb_core.specs.declared.settings.TheConstants.{MEMORY_LIMIT}
use Rattle.vb_monitor.specs.Places.{are_regions, end_of}
use Rattle.vb_monitor.proofs.placing.memory_end_of.Given as goal

abbrev pub invariant-loop-number : goal.invariant-loop-number
invariant-loop-number l = record {
  all : are_regions l.regions ≡ are_regions (drop l.number l.regions);
  end : end_of l.regions ≡ max l.end (end_of (drop l.number l.regions));
  low : l.end ≤ MEMORY_LIMIT;
}
