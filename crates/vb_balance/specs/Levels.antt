-- The level of spare pages above which each guest gives all that it can (profile).
use Rattle.std.specs.Prelude.{◌≡◌, ℕ, ◌+◌, ◌<◌, ◌≤◌, List, length, nat_le, if◌then◌else◌}
use Rattle.std.specs.Prelude.{slice_index, sum, sum_by, take}
use Rattle.vb_virtio.specs.Targets.{Need, spare_at}

-- what a guest can spare, if it is this many pages at least
abbrev pub spare_from : ℕ → Need → ℕ
spare_from level n = if nat_le level n.spare then n.spare else 0

-- how many pages those guests can spare together that can each spare this many at least
abbrev pub spared_from : List Need → ℕ → ℕ
spared_from needs level = sum_by (spare_from level) needs

-- those above the level can spare no more than is missing, and with those at it enough
pub record IsLevel (needs : List Need) (missing level : ℕ) : Type 0 where
  pub fits : spared_from needs (level + 1) ≤ missing
  pub enough : missing ≤ spared_from needs level

-- The first guests have their targets: those above the level their spare, those below it none, and
-- those at it in turn what they can, as long as something is left for them.
pub record AreGiven (needs : List Need) (level rest count : ℕ) (targets : List ℕ) (left : ℕ) :
    Type 0 where
  pub one_each : length targets ≡ length needs
  pub above : (i : ℕ) → i < count → level < spare_at needs i →
      slice_index targets i ≡ spare_at needs i
  pub below : (i : ℕ) → i < count → spare_at needs i < level → slice_index targets i ≡ 0
  pub within : (i : ℕ) → i < count → spare_at needs i ≡ level → slice_index targets i ≤ level
  pub in_turn : (i j : ℕ) → i < count → j < i → spare_at needs i ≡ level →
      spare_at needs j ≡ level → 0 < slice_index targets i → slice_index targets j ≡ level
  pub all_of_it : 0 < left → (i : ℕ) → i < count → spare_at needs i ≡ level →
      slice_index targets i ≡ level
  pub shared : sum (take count targets) + left ≡ spared_from (take count needs) (level + 1) + rest
