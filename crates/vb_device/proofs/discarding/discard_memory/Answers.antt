use Rattle.{std.proofs.{Common.arith, lemmas.List.append-nil}, vb_device.proofs.Discards.loose_more}
use Rattle.std.proofs.lemmas.List.{take_all, FromFn.{length-range_with_len, get_or-range_with_len}}
use Rattle.vb_device.proofs.Discards.{discard_more, discarded_none, all_once, all_discarded}
use Rattle.vb_device.proofs.discarding.discard_memory.Goals as goal

pub loop-page-init : goal.loop-page-init
loop-page-init c = grind (arith, discarded_none, append-nil)

pub discard_page-requires : goal.discard_page-requires
discard_page-requires c = omega (arith, c.loop-page.invariant.room, c.loop-page.invariant.capacity)

pub loop-page-preserved : goal.loop-page-preserved
loop-page-preserved c =
    grind (arith, length-range_with_len, get_or-range_with_len, discard_more, loose_more)

pub returns-clause-mem : goal.returns-clause-mem
returns-clause-mem c = grind (arith, take_all, length-range_with_len, all_discarded)

pub returns-clause-loose : goal.returns-clause-loose
returns-clause-loose c = grind (arith, take_all, length-range_with_len, all_once)
