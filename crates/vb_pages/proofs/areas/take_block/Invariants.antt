use Rattle.{std.proofs.Common.{◌≡◌, ◌<◌, ◌≤◌, ℕ, Some}, vb_pages.specs.Table.order_at}
use Rattle.vb_pages.proofs.areas.take_block.Given as goal

-- the table is as it was, and has no block of the orders that were gone over
abbrev pub invariant-loop-larger : goal.invariant-loop-larger
invariant-loop-larger l = (l.table ≡ l.fn.table) × ((start order : ℕ)
    → l.fn.order ≤ order → order < l.larger → order_at l.fn.table start ≡ Some order → ⊥)
