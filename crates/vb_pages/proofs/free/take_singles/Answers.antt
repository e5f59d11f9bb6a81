use Rattle.std.proofs.Common.{◌+◌, ℕ, List, subst, sym}
use Rattle.vb_pages.proofs.ServingLemmas.{AreTakenSoFar, taken_one, taken_all}
use Rattle.vb_pages.proofs.free.take_singles.Goals as goal

pub unreachable-requires : goal.unreachable-requires
unreachable-requires c = taken_all
    c.args.areas.now c.loop-count.areas c.loop-count._count c.args.count c.loop-count.out.items
    c.loop-count.invariant c.in-None.ensures.0 c.loop-count-test.true c.requires.enough

pub loop-count-preserved : goal.loop-count-preserved
loop-count-preserved c = subst (λ (xs : List ℕ). AreTakenSoFar c.args.areas.now
    (c.loop-count._count + 1) c.take.new.self xs) (sym c.push.ensures.items)
    (taken_one c.args.areas.now c.loop-count.areas c.take.new.self c.loop-count._count
    c.in-Some.page c.loop-count.out.items c.loop-count.invariant c.in-Some.ensures)
