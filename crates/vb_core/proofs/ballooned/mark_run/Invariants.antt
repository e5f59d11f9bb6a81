use Rattle.vb_core.{specs.Ballooned.{Puts, is_entering}, proofs.MarkLemmas.is_before}
use Rattle.vb_core.proofs.ballooned.mark_run.Given as goal

abbrev pub invariant-loop-word : goal.invariant-loop-word
invariant-loop-word l = Puts (is_before l.run l.word) (is_entering l.marking) l.fn.set l.set l.changed
