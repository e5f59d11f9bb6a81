use Rattle.std.proofs.Common.{◌≡◌, ◌+◌, ◌%◌, ◌^◌, ◌≤◌}
use Rattle.vb_pages.proofs.areas.largest_order.Given as goal

-- a block of the order is aligned and fits
abbrev pub invariant-loop-order : goal.invariant-loop-order
invariant-loop-order l = (l.start % 2 ^ l.order ≡ 0) × (l.start + 2 ^ l.order ≤ l.end)
