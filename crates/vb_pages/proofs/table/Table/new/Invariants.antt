use Rattle.std.{proofs.Common.{◌≡◌, map, replicate, false}, specs.List.range_with_len}
use Rattle.vb_pages.specs.Table.{room_of}
use Rattle.vb_pages.proofs.table.Table.new.Given as goal

-- the sets of the orders that were gone over are there, without a member
abbrev pub invariant-loop-order : goal.invariant-loop-order
invariant-loop-order l =
    l.blocks.items ≡ map (λ k. replicate (room_of k l.pages) false) (range_with_len 0 l.order)
