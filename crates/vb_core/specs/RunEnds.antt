-- Which pages join the last one of some runs.
use Rattle.std.specs.Prelude.{◌≡◌, ℕ, ◌+◌, ◌-◌, ◌<◌, ◌≤◌, ◌^◌, ◌↔◌, List, get_or}
use Rattle.vb_core.specs.declared.runs.Run.{Run}
use Rattle.vb_core.specs.declared.runs.Ends.{Ends}

-- These pages join a run: one follows it, and the other is right before it.
pub record AreEndsOf (ends : Ends) (run : Run) : Type 0 where
  pub behind : ends.behind ≡ run.first + run.count
  pub before : (page : ℕ) → page < 2 ^ 32 → (ends.before ≡ page) ↔ (page + 1 ≡ run.first)

-- They join the last of the first n runs; where there is none, they are no pages.
pub record AreEnds (ends : Ends) (used : ℕ) (runs : List Run) : Type 0 where
  pub none : used ≡ 0 → (2 ^ 32 ≤ ends.behind) × (2 ^ 32 ≤ ends.before)
  pub some : (d : Run) → 0 < used → AreEndsOf ends (get_or runs (used - 1) d)
