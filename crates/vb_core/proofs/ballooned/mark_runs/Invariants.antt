use Rattle.vb_core.proofs.MarkLemmas.{PutsFirst}
use Rattle.vb_core.specs.Ballooned.{is_entering}
use Rattle.vb_core.proofs.ballooned.mark_runs.Given as goal

abbrev pub invariant-loop-run : goal.invariant-loop-run
invariant-loop-run l = PutsFirst l.runs l.run-index (is_entering l.marking) l.fn.set l.set l.changed
