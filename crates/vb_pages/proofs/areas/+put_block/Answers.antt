use Rattle.std.proofs.Common.{◌≡◌, ◌<◌, ◌+◌, List, Option, Some, None, set, min, subst, sym, arith}
use Rattle.{std.proofs.{Common.ℕ, lemmas.Bool.both_ways}, vb_pages.specs.Tiles.{HasRoom, IsTiled}}
use Rattle.vb_pages.proofs.HalvesLemmas.{joined_tiled, joined_room, joined_set, added_tiled}
use Rattle.vb_pages.{proofs.TilesLemmas.{room_empty, added_set, HasNoBuddy}, specs.Table.order_at}
use Rattle.vb_pages.proofs.areas.+put_block.Goals.{else-order-lt-MAX_ORDER-via-then-order-lt-MAX_ORDER+else-is_listed}
use Rattle.vb_pages.proofs.areas.+put_block.Goals.{else-order-lt-MAX_ORDER-via-else-order-lt-MAX_ORDER}
use Rattle.vb_pages.proofs.HalvesLemmas.{no_buddy, no_larger}
use Rattle.vb_pages.proofs.areas.+put_block.Goals as goal

pub put_block-requires : goal.put_block-requires
put_block-requires t c = let table = c.args.table.now in
    let s = c.args.start in
    let k = c.args.order in
    let b = c.buddy_of-buddy.result in
    let listed : order_at table b ≡ Some k = c.is_listed.ensures.0 c.if-is_listed.true in
    let nine : k < 9 = c.if-order-lt-MAX_ORDER.true in
    let now : set table b None ≡ c.remove.new.self = sym c.remove.ensures in
    let low : min s b ≡ c.min.result = sym c.min.ensures in
    let room = joined_room table s k b c.requires.tiled c.requires.room c.buddy_of-buddy.ensures
    listed nine in (
      omega arith,
      (
        subst IsTiled now (joined_tiled table s k b c.requires.tiled c.requires.room
            c.buddy_of-buddy.ensures listed nine),
        subst (λ (n : ℕ). HasRoom c.remove.new.self n (k + 1)) low
            (subst (λ (u : List (Option ℕ)). HasRoom u (min s b) (k + 1)) now room),
      ),
    )

pub add-requires-clause-empty : goal.add-requires-clause-empty
add-requires-clause-empty t c =
    room_empty c.args.table.now c.args.start c.args.order c.requires.tiled.placed c.requires.room

pub returns-then-is_listed-clause-set : goal.returns-then-is_listed-clause-set
returns-then-is_listed-clause-set t c = grind (arith, joined_set)

pub returns-else-order-lt-MAX_ORDER-clause-tiled : goal.returns-else-order-lt-MAX_ORDER-clause-tiled
returns-else-order-lt-MAX_ORDER-clause-tiled t c = let table = c.args.table.now in
    let s = c.args.start in
    let k = c.args.order in
    let alone : HasNoBuddy table s k = elim c.else-order-lt-MAX_ORDER.branch [
      | else-order-lt-MAX_ORDER-via-then-order-lt-MAX_ORDER+else-is_listed w ↦
          no_buddy table s k c.buddy_of-buddy.result c.buddy_of-buddy.ensures
          (λ e. both_ways w.is_listed.result w.if-is_listed.false (w.is_listed.ensures.1 e))
      | else-order-lt-MAX_ORDER-via-else-order-lt-MAX_ORDER w ↦
          no_larger table s k w.if-order-lt-MAX_ORDER.false
    ] in
    subst IsTiled (sym c.add.ensures) (added_tiled table s k c.requires.tiled c.requires.room alone)

pub returns-else-order-lt-MAX_ORDER-clause-set : goal.returns-else-order-lt-MAX_ORDER-clause-set
returns-else-order-lt-MAX_ORDER-clause-set t c = grind (arith, added_set)
