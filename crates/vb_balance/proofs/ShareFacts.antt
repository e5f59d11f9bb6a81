-- Worked facts of what guests are given at a level.
use Rattle.std.proofs.Common.{ℕ, List, [], ◌∷◌, refl, arith}
use Rattle.vb_virtio.specs.Targets.{Need}
use Rattle.vb_balance.specs.Levels.{AreGiven}

-- ---- what is given at level 30: one guest is above it, two are at it, and one is below

abbrev needs : List Need
needs = record { pages = 64; spare = 50 } ∷ record { pages = 64; spare = 30 }
    ∷ record { pages = 64; spare = 30 } ∷ record { pages = 64; spare = 29 } ∷ []

-- for those at it 40, 30, 10 or none are left, and of the first two guests the others have no part
forty : AreGiven needs 30 40 4 (50 ∷ 30 ∷ 10 ∷ 0 ∷ []) 0
forty = grind arith

thirty : AreGiven needs 30 30 4 (50 ∷ 30 ∷ 0 ∷ 0 ∷ []) 0
thirty = grind arith

ten : AreGiven needs 30 10 4 (50 ∷ 10 ∷ 0 ∷ 0 ∷ []) 0
ten = grind arith

none : AreGiven needs 30 0 4 (50 ∷ 0 ∷ 0 ∷ 0 ∷ []) 0
none = grind arith

first_two : AreGiven needs 30 40 2 (50 ∷ 30 ∷ 7 ∷ 7 ∷ []) 10
first_two = grind arith

-- nothing is said of a second guest, whether it is above the level, below it or at it
abbrev pair : ℕ → ℕ → List Need
pair one other = record { pages = 64; spare = one } ∷ record { pages = 64; spare = other } ∷ []

first_alone : AreGiven (pair 29 50) 30 5 1 (0 ∷ 7 ∷ []) 5 × AreGiven (pair 50 29) 30 5 1 (50 ∷ 7 ∷ []) 5
    × AreGiven (pair 50 30) 30 5 1 (50 ∷ 31 ∷ []) 5
first_alone = (grind arith, grind arith, grind arith)

first_in_part : AreGiven (pair 30 30) 30 5 1 (5 ∷ 7 ∷ []) 0
first_in_part = grind arith

-- one page above the level
just_above : AreGiven (pair 31 0) 30 5 2 (31 ∷ 0 ∷ []) 5
just_above = grind arith

-- the second one has a page, and the first one not all that it can give
out_of_turn : (left : ℕ) → AreGiven (pair 30 30) 30 1 2 (0 ∷ 1 ∷ []) left → ⊥
out_of_turn left are = omega (arith, are.in_turn 1 0 (omega arith) (omega arith) refl refl (omega arith))

-- not a target for each, not all from above, some from below, one too many at the level, out of turn,
-- something left though one could give it, and one too few or too many together
not_so : (left : ℕ) → (AreGiven needs 30 40 3 (50 ∷ 30 ∷ 10 ∷ []) left → ⊥)
    × (AreGiven needs 30 40 4 (49 ∷ 30 ∷ 10 ∷ 0 ∷ []) left → ⊥)
    × (AreGiven needs 30 40 4 (50 ∷ 30 ∷ 9 ∷ 1 ∷ []) left → ⊥)
    × (AreGiven needs 30 40 4 (50 ∷ 31 ∷ 9 ∷ 0 ∷ []) left → ⊥)
    × (AreGiven needs 30 40 4 (50 ∷ 29 ∷ 11 ∷ 0 ∷ []) left → ⊥)
    × (AreGiven needs 30 40 4 (50 ∷ 30 ∷ 9 ∷ 0 ∷ []) 1 → ⊥)
    × (AreGiven needs 30 40 4 (50 ∷ 30 ∷ 9 ∷ 0 ∷ []) 0 → ⊥)
    × (AreGiven needs 30 40 4 (50 ∷ 30 ∷ 11 ∷ 0 ∷ []) 0 → ⊥)
    × (AreGiven needs 30 40 2 (50 ∷ 30 ∷ 10 ∷ 0 ∷ []) 0 → ⊥)
not_so left = (
  λ are. omega (arith, are.one_each),
  λ are. omega (arith, are.above 0 (omega arith) (omega arith)),
  λ are. omega (arith, are.below 3 (omega arith) (omega arith)),
  λ are. omega (arith, are.within 1 (omega arith) refl),
  λ are. omega (arith, are.in_turn 2 1 (omega arith) (omega arith) refl refl (omega arith)),
  λ are. omega (arith, are.all_of_it (omega arith) 2 (omega arith) refl),
  λ are. omega (arith, are.shared),
  λ are. omega (arith, are.shared),
  λ are. omega (arith, are.shared),
)
