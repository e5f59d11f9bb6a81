use Rattle.vb_pages.proofs.ServingLemmas.{AreTakenSoFar}
use Rattle.vb_pages.proofs.free.take_singles.Given as goal

abbrev pub invariant-loop-count : goal.invariant-loop-count
invariant-loop-count l = AreTakenSoFar l.fn.areas l._count l.areas l.out.items
