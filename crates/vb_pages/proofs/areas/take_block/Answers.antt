use Rattle.{std.proofs.Common.◌≡◌, vb_pages.specs.{Table.IsLowestStart, Tiles.{HasRoom, IsTiled}}}
use Rattle.std.proofs.Common.{◌≤◌, ℕ, List, Option, Some, None, set, ap, subst, ◌∙◌, sym, arith}
use Rattle.vb_pages.proofs.HalvesLemmas.{removed_tiled, removed_room, none_more, part_left}
use Rattle.vb_pages.proofs.{TilesLemmas.{chosen, none_inside}, areas.take_block.Goals.After-remove}
use Rattle.vb_pages.proofs.areas.take_block.Goals as goal

-- the start that was found, in the table as it was
found : (c : After-remove)
    → IsLowestStart c.args.table.now c.loop-larger.larger 0 (Some c.in-Some.start)
found c = rw (← c.loop-larger.invariant.0) c.in-Some.ensures

left : (c : After-remove) → set c.args.table.now c.in-Some.start None ≡ c.remove.new.self
left c = ap (λ (u : List (Option ℕ)). set u c.in-Some.start None) (sym c.loop-larger.invariant.0)
    ∙ sym c.remove.ensures

pub put_rest-requires-clause-tiled : goal.put_rest-requires-clause-tiled
put_rest-requires-clause-tiled c = grind (arith, left, removed_tiled, found)

pub put_rest-requires-clause-room : goal.put_rest-requires-clause-room
put_rest-requires-clause-room c = let d = (goal.at.put_rest-requires-clause-room c).After-remove in
    subst (λ (u : List (Option ℕ)). HasRoom u c.in-Some.start c.loop-larger.larger) (left d)
    (removed_room c.args.table.now c.in-Some.start c.loop-larger.larger c.requires.tiled.placed
    (found d).0)

pub returns-in-Some-clause-taken : goal.returns-in-Some-clause-taken
returns-in-Some-clause-taken c = let d = (goal.at.returns-in-Some-clause-taken c).After-remove in
    let t = c.args.table.now in
    let s = c.in-Some.start in
    let k = c.loop-larger.larger in
    let o : c.args.order ≤ k = omega arith in (
      (
        k,
        chosen t c.requires.tiled.placed c.requires.tiled.merged c.args.order s k o
            c.loop-larger.invariant.1 (found d),
      ),
      grind (arith, left, part_left, found),
    )

pub loop-larger-preserved : goal.loop-larger-preserved
loop-larger-preserved c = grind (arith, none_more)

pub returns-clause-tiled : goal.returns-clause-tiled
returns-clause-tiled c = subst IsTiled (sym c.loop-larger.invariant.0) c.requires.tiled

pub returns-clause-taken : goal.returns-clause-taken
returns-clause-taken c = grind (arith, none_inside)
