use Rattle.vb_core.proofs.UnmarkLemmas.{LosesFirst}
use Rattle.vb_core.proofs.ballooned.unmark.Given as goal

abbrev pub invariant-loop-word : goal.invariant-loop-word
invariant-loop-word l = LosesFirst l.pages l.fn.set l.set l.word l.left
