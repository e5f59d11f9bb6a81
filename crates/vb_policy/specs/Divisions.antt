-- How what is missing is divided among the guests.
use Rattle.std.specs.Prelude.{ℕ, ◌-◌, ◌*◌, ◌/◌, ◌<◌, ◌≤◌, max, List, sum_by}
use Rattle.vb_policy.specs.declared.guest.Division.{Division}
use Rattle.vb_policy.specs.declared.guest.Guest.{Guest}
use Rattle.vb_policy.specs.declared.guest.Tier.{Tier}
use Rattle.vb_policy.specs.Tiers.{before, high, low, through}

-- the pages that a guest may keep, where a unit of its weight keeps this many 4096ths of a page
abbrev pub keeps : ℕ → Guest → ℕ
keeps kept g = kept * max 1 g.weight / 4096

-- what a guest gives where a class divides a tier so: all but what it keeps of the tier
abbrev pub share : Tier → ℕ → ℕ → Guest → ℕ
share tier priority kept g = max (low tier priority g) (high tier priority g - keeps kept g)

-- the target that a division has for a guest
abbrev pub fair : Division → Guest → ℕ
fair d g = share d.tier d.priority d.kept g

-- The tier is the first that suffices, in it the class is the lowest that does, and the guests keep
-- the most that leaves enough.
pub record Divides (lack : ℕ) (guests : List Guest) (d : Division) : Type 0 where
  pub tier_first : sum_by (before d.tier) guests < lack
  pub tier : lack ≤ sum_by (through d.tier) guests
  pub class_first : (p : ℕ) → p < d.priority → sum_by (high d.tier p) guests < lack
  pub class : lack ≤ sum_by (high d.tier d.priority) guests
  pub kept : lack ≤ sum_by (fair d) guests
  pub kept_most : (k : ℕ) → lack ≤ sum_by (share d.tier d.priority k) guests → k ≤ d.kept
