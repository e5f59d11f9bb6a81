use Rattle.vb_pages.proofs.TilesLemmas.{IsLowestBelow}
use Rattle.vb_pages.proofs.areas.lowest_from.Given as goal

abbrev pub invariant-loop-larger : goal.invariant-loop-larger
invariant-loop-larger l = IsLowestBelow l.table l.order l.from l.larger l.best
