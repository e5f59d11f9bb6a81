use Rattle.std.proofs.Common.{◌≡◌, ◌+◌, ◌/◌, None, Bool, false, [], ◌++◌, replicate, arith, ◌∙◌}
use Rattle.std.{proofs.Common.{ℕ, List, ◌∷◌, map, max, ap}, specs.List.range_with_len}
use Rattle.std.proofs.lemmas.List.FromFn.{map-range_with_len_more, length-map-range_with_len}
use Rattle.{std.proofs.lemmas.List.FromFn.get_or-map-range_with_len, vb_pages.specs.Table.room_of}
use Rattle.vb_pages.proofs.{TableLemmas.{StandFor, none}, table.Table.new.Goals.After-loop-order}
use Rattle.vb_pages.proofs.table.Table.new.Goals as goal

-- a set without a member
abbrev bare : ℕ → ℕ → List Bool
bare pages k = replicate (room_of k pages) false

-- one set more
pushed : (pages k room : ℕ) (old new : List (List Bool)) (row : List Bool)
    → new ≡ old ++ row ∷ [] → row ≡ replicate room false → room ≡ room_of k pages → old
    ≡ map (bare pages) (range_with_len 0 k) → new ≡ map (bare pages) (range_with_len 0 (k + 1))
pushed pages k room old new row e set same before =
    grind (arith, map-range_with_len_more (bare pages) 0 k k (omega arith))

pub loop-order-preserved : goal.loop-order-preserved
loop-order-preserved c =
    let room : c.max-room.result ≡ room_of c.loop-order.order c.args.pages = c.max-room.ensures
    ∙ ap (λ (m : ℕ). max (c.args.pages / m) 1) c.size_of.ensures.size ∙ omega arith in
    pushed c.args.pages c.loop-order.order c.max-room.result c.loop-order.blocks.items
    c.push.new.self.items c.in_ok-new.field-0 c.in_ok-push.ensures.items c.in_ok-new.ensures room
    c.loop-order.invariant

-- all sets are there
all : (c : After-loop-order) → c.loop-order.order ≡ 10
    → StandFor c.args.pages c.loop-order.blocks.items (replicate c.args.pages None)
all c ten = grind (arith, none, length-map-range_with_len, get_or-map-range_with_len)

pub invariant_of-result : goal.invariant_of-result
invariant_of-result c = (all (goal.at.invariant_of-result c).After-loop-order (omega arith)).kept

pub returns : goal.returns
returns c = (all (goal.at.returns c).After-loop-order (omega arith)).table
