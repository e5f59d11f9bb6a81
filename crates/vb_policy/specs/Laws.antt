-- Words of the laws.
use Rattle.std.specs.Prelude.{◌≡◌, ℕ, ◌+◌, ◌-◌, ◌/◌, ◌≤◌, max, List, [], ◌∷◌, map, slice_index}
use Rattle.vb_policy.specs.declared.guest.Division.{Division}
use Rattle.vb_policy.specs.declared.guest.Guest.{Guest}
use Rattle.vb_policy.specs.Divisions.{fair}
use Rattle.vb_policy.specs.Tiers.{through}

-- a number of the guest at a place
abbrev pub value_at : (Guest → ℕ) → List Guest → ℕ → ℕ
value_at f guests i = slice_index (map f guests) i

abbrev pub weight_of : Guest → ℕ
weight_of g = max 1 g.weight

-- the pages by which what a guest keeps may fall at once
abbrev pub unit_of : Guest → ℕ
unit_of g = weight_of g / 4096 + 1

-- what a guest keeps of the tier that a division divides
abbrev pub kept_of : Division → Guest → ℕ
kept_of d g = through d.tier g - fair d g

-- each guest of the second list is one of the first that can give as much or more
abbrev pub CanGiveMore : List Guest → List Guest → Type 0
CanGiveMore [] [] = Unit {0}
CanGiveMore (g ∷ gs) (h ∷ hs) = (h.weight ≡ g.weight) × (h.priority ≡ g.priority)
    × (g.unused ≤ h.unused) × (g.cached ≤ h.cached) × (g.spare ≤ h.spare) × CanGiveMore gs hs
CanGiveMore [] (h ∷ hs) = ⊥
CanGiveMore (g ∷ gs) [] = ⊥

-- the guests with other targets
abbrev pub with_targets : List Guest → List ℕ → List Guest
with_targets [] targets = []
with_targets (g ∷ gs) [] = []
with_targets (g ∷ gs) (t ∷ ts) = record g { target = t } ∷ with_targets gs ts
