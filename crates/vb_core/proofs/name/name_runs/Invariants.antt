use Rattle.std.proofs.Common.{take}
use Rattle.vb_request.specs.Request.{numbers_of}
use Rattle.vb_core.{specs.RunEnds.AreEnds, proofs.NameLemmas.Named_so_far}
use Rattle.vb_core.proofs.name.name_runs.Given as goal

abbrev pub invariant-loop-k : goal.invariant-loop-k
invariant-loop-k l = record {
  named : Named_so_far l.limits.skips l.limits.reserved l.limits.count
      (take l.k (numbers_of l.bytes)) l.k l.runs l.used l.skipped;
  ends : AreEnds l.ends l.used l.runs;
}
