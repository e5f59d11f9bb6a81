use Rattle.std.proofs.Common.{◌≡◌, take, map}
use Rattle.vb_core.specs.Report.{run_of}
use Rattle.vb_core.proofs.report.put_runs.Given as goal

abbrev pub invariant-loop-k : goal.invariant-loop-k
invariant-loop-k l = take l.k l.runs ≡ map run_of (take l.k l.pieces)
