-- Worked facts of what guests can spare, and of levels.
use Rattle.std.proofs.Common.{◌≡◌, ℕ, ◌≤◌, List, [], ◌∷◌, map, refl, arith}
use Rattle.vb_virtio.specs.Targets.{Need, spare_of}
use Rattle.vb_balance.specs.Levels.{spared_from, IsLevel}

-- two guests of 64 pages that can spare n
abbrev needs_of : ℕ → ℕ → List Need
needs_of a b = record { pages = 64; spare = a } ∷ record { pages = 64; spare = b } ∷ []

-- ---- spare pages: of 64 pages 16 are reserved

spares : spare_of 64 16 0 48 16 ∷ spare_of 64 16 4 44 16 ∷ spare_of 64 16 4 44 1000
    ∷ spare_of 64 16 10 48 0 ∷ spare_of 64 16 4 0 0 ∷ spare_of 16 17 4 4 0 ∷ [] ≡ 32 ∷ 32 ∷ 4 ∷ 48
    ∷ 4 ∷ 0 ∷ []
spares = refl

-- ---- levels

from_each_level : map (spared_from (needs_of 40 30)) (0 ∷ 30 ∷ 31 ∷ 40 ∷ 41 ∷ []) ≡ 70 ∷ 70 ∷ 40
    ∷ 40 ∷ 0 ∷ []
from_each_level = refl

-- where 60 are missing, the one above 30 gives all that it can
level_of_sixty : IsLevel (needs_of 40 30) 60 30
level_of_sixty = record { fits = omega arith; enough = omega arith }

not_a_higher_level : IsLevel (needs_of 40 30) 60 31 → ⊥
not_a_higher_level l = let e : 60 ≤ 40 = l.enough in absurd (omega arith)

not_a_lower_level : IsLevel (needs_of 40 30) 60 29 → ⊥
not_a_lower_level l = let f : 70 ≤ 60 = l.fits in absurd (omega arith)
