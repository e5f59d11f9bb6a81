-- What guests keep and give by a division.
use Rattle.std.proofs.Common.{◌≡◌, ℕ, zero, suc, ◌-◌, ◌*◌, ◌<◌, ◌≤◌, max, List, sum_by, All, arith}
use Rattle.std.proofs.lemmas.List.Sums.{sum_by-le-sum_by}
use Rattle.std.proofs.lemmas.Nat.{le-div, mul-le}
use Rattle.vb_policy.specs.declared.guest.Guest.{Guest}
use Rattle.vb_policy.specs.declared.guest.Tier.{Tier}
use Rattle.vb_policy.specs.Divisions.{keeps, share}
use Rattle.vb_policy.specs.Tiers.{before, high, low}
use Rattle.vb_policy.proofs.Sums.{sums_below}
use Rattle.vb_policy.proofs.Giving.{low-le-before, low-le-high, low-le-next}
use Rattle.vb_policy.proofs.Giving.{through-le, high-le-through}

pub keeps_rise : (j k : ℕ) (g : Guest) → j ≤ k → keeps j g ≤ keeps k g
keeps_rise j k g l = omega (arith, mul-le j (max 1 g.weight) k (max 1 g.weight) l (omega arith))

pub keeps_none : (g : Guest) → keeps 0 g ≡ 0
keeps_none g = omega arith

-- a unit of weight keeps at least what it is said to
pub keeps_enough : (m k : ℕ) (g : Guest) → m * 4096 ≤ k → m ≤ keeps k g
keeps_enough m k g l = le-div m (k * max 1 g.weight) 4096 (omega arith)
    (omega (arith, l, mul-le k 1 k (max 1 g.weight) (omega arith) (omega arith)))

-- ---- of one guest

by_parts : (low high kept more : ℕ) → kept ≤ more → max low (high - more) ≤ max low (high - kept)
by_parts low high kept more l = omega arith

pub share_falls : (t : Tier) (p j k : ℕ) (g : Guest) → j ≤ k → share t p k g ≤ share t p j g
share_falls t p j k g l =
    by_parts (low t p g) (high t p g) (keeps j g) (keeps k g) (keeps_rise j k g l)

pub share-le-high : (t : Tier) (p k : ℕ) (g : Guest) → share t p k g ≤ high t p g
share-le-high t p k g = of_two (low t p g) (high t p g) (keeps k g) (low-le-high t p g) where
  of_two : (low high kept : ℕ) → low ≤ high → max low (high - kept) ≤ high
  of_two low high kept l = omega arith

pub low-le-share : (t : Tier) (p k : ℕ) (g : Guest) → low t p g ≤ share t p k g
low-le-share t p k g = of_two (low t p g) (high t p g) (keeps k g) where
  of_two : (low high kept : ℕ) → low ≤ max low (high - kept)
  of_two low high kept = omega arith

high-le-share : (t : Tier) (p : ℕ) (g : Guest) → high t p g ≤ share t p 0 g
high-le-share t p g = of_two (low t p g) (high t p g) (keeps 0 g) (keeps_none g) where
  of_two : (low high kept : ℕ) → kept ≡ 0 → high ≤ max low (high - kept)
  of_two low high kept l = omega arith

share-le-low : (t : Tier) (p m k : ℕ) (g : Guest) → m * 4096 ≤ k → g.spare ≤ m
    → share t p k g ≤ low t p g
share-le-low t p m k g l h = of_two (low t p g) (high t p g) (keeps k g)
    (omega (arith, h, keeps_enough m k g l, high-le-through t p g, through-le t g)) where
      of_two : (low high kept : ℕ) → high ≤ kept → max low (high - kept) ≤ low
      of_two low high kept l = omega arith

-- ---- of all

pub shares_fall : (t : Tier) (p j k : ℕ) (gs : List Guest) → j ≤ k
    → sum_by (share t p k) gs ≤ sum_by (share t p j) gs
shares_fall t p j k gs l =
    sum_by-le-sum_by (share t p k) (share t p j) gs (λ g. share_falls t p j k g l)

pub none_kept : (t : Tier) (p : ℕ) (gs : List Guest)
    → sum_by (high t p) gs ≤ sum_by (share t p 0) gs
none_kept t p gs = sum_by-le-sum_by (high t p) (share t p 0) gs (high-le-share t p)

pub all_kept : (t : Tier) (p m k : ℕ) (gs : List Guest) → m * 4096 ≤ k → All (λ g. g.spare ≤ m) gs
    → sum_by (share t p k) gs ≤ sum_by (low t p) gs
all_kept t p m k gs l all =
    sums_below (share t p k) (low t p) (λ g. g.spare ≤ m) (λ g h. share-le-low t p m k g l h) gs all

-- what lower classes give is less than is missing
pub before_class : (t : Tier) (p lack : ℕ) (gs : List Guest) → sum_by (before t) gs < lack
    → ((q : ℕ) → q < p → sum_by (high t q) gs < lack) → sum_by (low t p) gs < lack
before_class t zero lack gs first less =
    omega (arith, first, sum_by-le-sum_by (low t 0) (before t) gs (low-le-before t))
before_class t (suc p) lack gs first less = omega (
  arith,
  less p (omega arith),
  sum_by-le-sum_by (low t (suc p)) (high t p) gs (low-le-next t p),
)
