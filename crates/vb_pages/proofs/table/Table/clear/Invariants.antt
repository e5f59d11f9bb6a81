use Rattle.std.proofs.Common.{◌≡◌, ◌<◌, ℕ, List, Bool, false, length, replicate, get_or}
use Rattle.vb_pages.proofs.table.Table.clear.Given as goal

-- the sets that were gone over have no member, and each keeps its bound
abbrev pub invariant-loop-set : goal.invariant-loop-set
invariant-loop-set l = ((k : ℕ) (d : List Bool) → k < l.set-index
    → get_or l.set-items k d ≡ replicate (length (get_or l.set-items k d)) false) × ((k : ℕ)
    (d : List Bool) → length (get_or l.set-items k d) ≡ length (get_or l.initial.set-items k d))
