use Rattle.{std.proofs.Common.arith, vb_pages.proofs.ListsLemmas.last_inside}
use Rattle.vb_pages.proofs.ListsLemmas.{rest_once, rest_set, last_count, last_length, with_none}
use Rattle.vb_pages.proofs.lists.PageList.+drain.Goals as goal

pub give-requires-clause-inside : goal.give-requires-clause-inside
give-requires-clause-inside t c = grind (
  arith,
  last_inside c.args.areas.now c.args.self.now c.pop.new.self c.in-Some.page c.in-Some.ensures c.requires,
)

pub drain-requires : goal.drain-requires
drain-requires t c = grind (
  arith,
  last_length c.args.areas.now c.args.self.now c.pop.new.self c.in-Some.page c.in-Some.ensures c.requires,
  rest_once c.args.areas.now c.args.self.now c.pop.new.self c.in-Some.page c.in-Some.ensures c.requires,
)

pub returns-in-Some-clause-areas : goal.returns-in-Some-clause-areas
returns-in-Some-clause-areas t c = grind (arith, rest_set)

pub returns-in-Some-clause-count : goal.returns-in-Some-clause-count
returns-in-Some-clause-count t c = grind (
  arith,
  last_length c.args.areas.now c.args.self.now c.pop.new.self c.in-Some.page c.in-Some.ensures c.requires,
  last_count c.args.areas.now c.args.self.now c.pop.new.self c.in-Some.page c.in-Some.ensures c.requires,
)

pub returns-in_default-clause-areas : goal.returns-in_default-clause-areas
returns-in_default-clause-areas t c = grind (arith, with_none)
