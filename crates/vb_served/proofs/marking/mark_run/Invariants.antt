use Rattle.std.proofs.Common.{◌≡◌, take}
use Rattle.vb_core.specs.Ballooned.{is_entering}
use Rattle.vb_core.specs.Runs.{pages_of_run}
use Rattle.vb_device.specs.Discards.{flagged}
use Rattle.vb_served.proofs.marking.mark_run.Given as goal

abbrev pub invariant-loop-k : goal.invariant-loop-k
invariant-loop-k l =
    l.ballooned ≡ flagged (take l.k (pages_of_run l.run)) (is_entering l.marking) l.initial.ballooned
