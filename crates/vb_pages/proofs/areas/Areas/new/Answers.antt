use Rattle.{std.proofs.Common.arith, vb_pages.proofs.AreasLemmas.{count_none, length-none_set}}
use Rattle.vb_pages.proofs.TilesLemmas.{none_tiled, none_set}
use Rattle.vb_pages.proofs.areas.Areas.new.Goals as goal

pub invariant_of-areas : goal.invariant_of-areas
invariant_of-areas c = grind (arith, none_tiled, count_none)

pub fill-requires-clause-pages : goal.fill-requires-clause-pages
fill-requires-clause-pages c = grind (arith, length-none_set)

pub fill-requires-clause-empty : goal.fill-requires-clause-empty
fill-requires-clause-empty c p = grind (arith, none_set)
