-- What is asked of a running guest's memory, and of who watches it, with what was answered.
use Rattle.std.specs.Prelude.{◌≡◌, ℕ, List, [], ◌∷◌}
use Rattle.vb_core.specs.declared.kinds.Kind.{Kind}
use Rattle.vb_core.specs.declared.runs.Run.{Run}
use Rattle.vb_core.specs.declared.name.Named.{Named}
use Rattle.vb_core.specs.declared.statistics.Statistic.{Statistic}
use Rattle.vb_monitor.specs.declared.regions.Spot.{Spot}
use Rattle.vb_monitor.specs.declared.cuts.Cut.{Cut}

-- An access. Memory is the guest's to write at any moment, so two reads of a place may answer
-- differently.
pub data Access : Type 0 where
  ReadWord : (at : Spot) (answer : ℕ) → Access
  CopyBytes : (at : Spot) (answer : List ℕ) → Access
  Acquire : Access
  Release : Access
  Full : Access
  TellPages : (kind : Kind) (runs : List Run) (named : Named) → Access
  TellFigures : (figures : List Statistic) → Access
  TellId : (id : ℕ) → Access
  Pause : Access
  Discard : (cut : Cut) → Access
  WriteNumber : (at : Spot) (number : ℕ) → Access
  WriteWord : (at : Spot) (word : ℕ) → Access

-- These accesses, in this order, make one memory of another: `goes` says what each one may make.
abbrev pub Steps : {S : Type 0} → (S → Access → S → Type 0) → S → List Access → S → Type 0
Steps {S} goes old [] new = new ≡ old
Steps {S} goes old (x ∷ xs) new = (next : S) × goes old x next × Steps goes next xs new

-- There are accesses that make one memory of another, and of these a fact holds.
pub record Makes {S : Type 0} (goes : S → Access → S → Type 0) (old new : S)
    (fact : List Access → Type 0) : Type 0 where
  pub log : List Access
  pub steps : Steps goes old log new
  pub is : fact log
