-- What guests need, and what each is asked to give (profile).
-- The headline needs all of it but the last part.
use Rattle.std.specs.Prelude.{ℕ, List, ◌<◌, ◌≡◌, ◌+◌, length, ◌⊎◌, map, ◌-◌, min, ◌≤◌, sum, sum_by}
use Rattle.std.specs.Prelude.{slice_index}

-- what a guest has, and what it can spare
pub record Need : Type 0 where
  pub pages : ℕ
  pub spare : ℕ

-- how many pages more than frames there are
abbrev pub missing : List Need → ℕ → ℕ
missing needs frames = sum_by (λ n. n.pages) needs - frames

abbrev pub spare_at : List Need → ℕ → ℕ
spare_at needs i = slice_index (map (λ n. n.spare) needs) i

pub record AreTargets (needs : List Need) (frames : ℕ) (targets : List ℕ) : Type 0 where
  pub one_each : length targets ≡ length needs
  pub within : (i : ℕ) → i < length needs → slice_index targets i ≤ spare_at needs i
  pub enough : sum targets ≡ missing needs frames
  -- the most spare gives first, then the lowest number: where one gives, those before it give all
  pub in_order : (i j : ℕ) → i < length needs → j < length needs → 0 < slice_index targets i
      → (spare_at needs i < spare_at needs j) ⊎ ((spare_at needs j ≡ spare_at needs i) × (j < i))
      → slice_index targets j ≡ spare_at needs j

-- how much stays missing if all give what they can
abbrev pub shortage : List Need → ℕ → ℕ
shortage needs frames = missing needs frames - sum_by (λ n. n.spare) needs

-- ---- for laws and proofs: what a guest can spare, over plain numbers; who gives before whom

abbrev pub spare_of : (pages reserved ballooned free floor : ℕ) → ℕ
spare_of pages reserved ballooned free floor = min (pages - reserved) (ballooned + (free - floor))

abbrev pub GivesBefore : List Need → ℕ → ℕ → Type 0
GivesBefore needs j i =
    (spare_at needs i < spare_at needs j) ⊎ ((spare_at needs j ≡ spare_at needs i) × (j < i))
