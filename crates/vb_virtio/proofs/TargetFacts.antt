-- Worked facts of what is missing, and of targets.
use Rattle.std.specs.Prelude.{ℕ, List, [], ◌∷◌, ◌≡◌, map, ◌≤◌, sum}
use Rattle.std.proofs.Common.{arith, inl, refl}
use Rattle.vb_virtio.proofs.Differ.{differ}
use Rattle.vb_virtio.specs.Targets.{Need, missing, AreTargets, shortage, GivesBefore}

-- ---- how much is missing

-- two guests of 64 pages that can spare n
abbrev pub needs_of : ℕ → ℕ → List Need
needs_of a b = record { pages = 64; spare = a } ∷ record { pages = 64; spare = b } ∷ []

missing_frames : map (missing (needs_of 40 30)) (0 ∷ 40 ∷ 100 ∷ 127 ∷ 128 ∷ 200 ∷ []) ≡ 128 ∷ 88
    ∷ 28 ∷ 1 ∷ 0 ∷ 0 ∷ []
missing_frames = refl

-- short is what is missing beyond all spare
short_by : map (shortage (needs_of 40 30)) (40 ∷ 57 ∷ 58 ∷ 100 ∷ 128 ∷ []) ≡ 18 ∷ 1 ∷ 0 ∷ 0 ∷ 0 ∷ []
short_by = refl

no_guest : missing [] 0 ∷ shortage [] 0 ∷ [] ≡ 0 ∷ 0 ∷ []
no_guest = refl

-- ---- targets of two guests

abbrev pub TargetsAre : List Need → ℕ → ℕ → ℕ → Type 0
TargetsAre needs frames a b = AreTargets needs frames (a ∷ b ∷ [])

-- the first can spare as much as the second at least, and gives alone
pub first_alone : (a b frames t : ℕ) → b ≤ a → t ≤ a → sum (t ∷ 0 ∷ []) ≡ missing (needs_of a b) frames
    → TargetsAre (needs_of a b) frames t 0
first_alone a b frames t most some e = search arith

-- the guest that can spare most gives first, and here alone; or nothing is missing
one_gives : TargetsAre (needs_of 40 30) 100 28 0
one_gives = first_alone 40 30 100 28 (omega arith) (omega arith) refl

none_gives : TargetsAre (needs_of 40 30) 128 0 0
none_gives = first_alone 40 30 128 0 (omega arith) (omega arith) refl

-- the second gives once the first gives all that it can
both_give : TargetsAre (needs_of 40 30) 60 40 28
both_give = grind arith

-- the higher number, where it can spare more
second_alone : TargetsAre (needs_of 30 40) 100 0 28
second_alone = grind arith

-- Not the one that can spare less, nor half of each; no more than its spare, no less than what is
-- missing, and no more; and a target for each guest.
other_targets : (TargetsAre (needs_of 40 30) 100 0 28 → ⊥)
    × (TargetsAre (needs_of 40 30) 100 14 14 → ⊥) × (TargetsAre (needs_of 40 30) 60 41 27 → ⊥)
    × (TargetsAre (needs_of 40 30) 100 27 0 → ⊥) × (TargetsAre (needs_of 40 30) 100 29 0 → ⊥)
    × (AreTargets (needs_of 40 30) 100 (28 ∷ []) → ⊥)
other_targets = (
  λ t. differ 0 40 refl
      (t.in_order 1 0 (omega arith) (omega arith) (omega arith) (inl (omega arith))),
  λ t. differ 14 40 refl
      (t.in_order 1 0 (omega arith) (omega arith) (omega arith) (inl (omega arith))),
  λ t. omega (arith, t.within 0 (omega arith)),
  λ t. differ 27 28 refl t.enough,
  λ t. differ 29 28 refl t.enough,
  λ t. differ 1 2 refl t.one_each,
)

-- where two can spare as much the lower number gives first
lower_number_gives : TargetsAre (needs_of 30 30) 100 28 0
lower_number_gives = first_alone 30 30 100 28 (omega arith) (omega arith) refl

not_the_higher_number : TargetsAre (needs_of 30 30) 100 0 28 → ⊥
not_the_higher_number t = grind arith

-- more spare before less, and of as much the lower number; none before itself
who_gives_first : GivesBefore (needs_of 30 40) 1 0 × GivesBefore (needs_of 40 30) 0 1
    × GivesBefore (needs_of 30 30) 0 1 × (GivesBefore (needs_of 30 40) 0 1 → ⊥)
    × (GivesBefore (needs_of 40 30) 1 0 → ⊥) × (GivesBefore (needs_of 30 30) 1 0 → ⊥)
    × (GivesBefore (needs_of 30 30) 0 0 → ⊥)
who_gives_first = grind arith

-- of three guests the first gives only once the third, which can spare most, gives all
abbrev three : List Need
three = record { pages = 64; spare = 30 } ∷ record { pages = 64; spare = 20 }
    ∷ record { pages = 64; spare = 40 } ∷ []

not_the_first_of_three : (AreTargets three 142 (20 ∷ 0 ∷ 30 ∷ []) → ⊥)
    × (AreTargets three 142 (0 ∷ 10 ∷ 40 ∷ []) → ⊥)
not_the_first_of_three = (
  λ t. differ 30 40 refl
      (t.in_order 0 2 (omega arith) (omega arith) (omega arith) (inl (omega arith))),
  λ t. differ 0 30 refl
      (t.in_order 1 0 (omega arith) (omega arith) (omega arith) (inl (omega arith))),
)
