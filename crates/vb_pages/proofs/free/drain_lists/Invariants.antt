use Rattle.vb_pages.proofs.FreeLemmas.{IsDrainedSoFar}
use Rattle.vb_pages.proofs.free.drain_lists.Given as goal

abbrev pub invariant-loop-list : goal.invariant-loop-list
invariant-loop-list l = IsDrainedSoFar l.fn.areas l.fn.lists l.list-index l.areas l.lists
