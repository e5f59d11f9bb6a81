use Rattle.{std.proofs.Common.arith, vb_pages.proofs.HalvesLemmas.rest_upper}
use Rattle.vb_pages.proofs.HalvesLemmas.{rest_empty, rest_tiled, rest_room, rest_set, none_left}
use Rattle.vb_pages.proofs.areas.+put_rest.Goals as goal

pub add-requires-clause-aligned : goal.add-requires-clause-aligned
add-requires-clause-aligned t c = grind (arith, rest_upper)

pub add-requires-clause-empty : goal.add-requires-clause-empty
add-requires-clause-empty t c = grind (arith, rest_empty)

pub put_rest-requires : goal.put_rest-requires
put_rest-requires t c = grind (
  arith,
  rest_tiled c.args.table.now c.args.start c.args.whole c.size_of.result c.requires.tiled c.requires.room (omega arith) c.size_of.ensures.size,
  rest_room c.args.table.now c.args.start c.args.whole c.size_of.result c.requires.tiled c.requires.room (omega arith) c.size_of.ensures.size,
)

pub returns-then-taken-whole-clause-set : goal.returns-then-taken-whole-clause-set
returns-then-taken-whole-clause-set t c = grind (arith, rest_set)

pub returns-else-taken-whole-clause-set : goal.returns-else-taken-whole-clause-set
returns-else-taken-whole-clause-set t c =
    none_left c.args.table.now c.args.start c.args.whole c.args.taken c.requires.room (omega arith)
