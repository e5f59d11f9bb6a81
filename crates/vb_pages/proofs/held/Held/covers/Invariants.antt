use Rattle.{std.proofs.Common.{◌≡◌, ◌<◌, ◌-◌, ◌%◌, ◌^◌, ℕ, Some}, vb_pages.specs.Table.order_at}
use Rattle.vb_pages.proofs.held.Held.covers.Given as goal

-- no block of the orders that were gone over
abbrev pub invariant-loop-order : goal.invariant-loop-order
invariant-loop-order l = (k : ℕ) → k < l.order
    → order_at l.self-inside.table (l.page - l.page % 2 ^ k) ≡ Some k → ⊥
