-- What guests give, tier after tier and class after class.
use Rattle.std.proofs.Common.{◌≡◌, ◌⊎◌, ℕ, suc, ◌<◌, ◌≤◌, List, sum_by, All, inl, inr, refl, arith}
use Rattle.std.proofs.lemmas.Bool.Decides.{nat_tests}
use Rattle.std.proofs.lemmas.List.Sums.{sum_by-le-sum_by}
use Rattle.vb_policy.specs.declared.guest.Guest.{Guest}
use Rattle.vb_policy.specs.declared.guest.Tier.{Tier}
use Rattle.vb_policy.specs.declared.guest.Tier.TheVariants.{Unused, Cache, Reserve}
use Rattle.vb_policy.specs.Tiers.{before, high, low, through}
use Rattle.vb_policy.proofs.Sums.{sums_below}

pub before-le : (t : Tier) (g : Guest) → before t g ≤ through t g
before-le Unused g = omega arith
before-le Cache g = omega arith
before-le Reserve g = omega arith

pub through-le : (t : Tier) (g : Guest) → through t g ≤ g.spare
through-le Unused g = omega arith
through-le Cache g = omega arith
through-le Reserve g = omega arith

pub low-le-high : (t : Tier) (p : ℕ) (g : Guest) → low t p g ≤ high t p g
low-le-high t p g = grind (arith, nat_tests, before-le t g)

pub high-le-through : (t : Tier) (p : ℕ) (g : Guest) → high t p g ≤ through t g
high-le-through t p g = grind (arith, nat_tests, before-le t g)

pub before-le-low : (t : Tier) (p : ℕ) (g : Guest) → before t g ≤ low t p g
before-le-low t p g = grind (arith, nat_tests, before-le t g)

pub high_rises : (t : Tier) (p q : ℕ) (g : Guest) → p ≤ q → high t p g ≤ high t q g
high_rises t p q g l = grind (arith, nat_tests, before-le t g)

-- a class keeps what lower ones give
pub high-le-low : (t : Tier) (p q : ℕ) (g : Guest) → p < q → high t p g ≤ low t q g
high-le-low t p q g l = grind (arith, nat_tests, before-le t g)

-- what is given at least is what lower classes give, or is given in the tiers before
pub low-le-next : (t : Tier) (p : ℕ) (g : Guest) → low t (suc p) g ≤ high t p g
low-le-next t p g = grind (arith, nat_tests, before-le t g)

pub low-le-before : (t : Tier) (g : Guest) → low t 0 g ≤ before t g
low-le-before t g = grind (arith, nat_tests, before-le t g)

pub all-le-high : (t : Tier) (p : ℕ) (g : Guest) → g.priority ≤ p → through t g ≤ high t p g
all-le-high t p g l = grind (arith, nat_tests)

-- ---- the same of all guests

pub highs_rise : (t : Tier) (p q : ℕ) (gs : List Guest) → p ≤ q
    → sum_by (high t p) gs ≤ sum_by (high t q) gs
highs_rise t p q gs l = sum_by-le-sum_by (high t p) (high t q) gs (λ g. high_rises t p q g l)

-- the last class gives all
pub last_class : (t : Tier) (p : ℕ) (gs : List Guest) → All (λ g. g.priority ≤ p) gs
    → sum_by (through t) gs ≤ sum_by (high t p) gs
last_class t p gs all =
    sums_below (through t) (high t p) (λ g. g.priority ≤ p) (λ g l. all-le-high t p g l) gs all

-- ---- tiers in order

-- how many tiers are before
abbrev pub rank : Tier → ℕ
rank Unused = 0
rank Cache = 1
rank Reserve = 2

pub which_first : (s t : Tier) → (rank s < rank t) ⊎ ((s ≡ t) ⊎ (rank t < rank s))
which_first Unused Unused = inr (inl refl)
which_first Unused Cache = inl (omega arith)
which_first Unused Reserve = inl (omega arith)
which_first Cache Unused = inr (inr (omega arith))
which_first Cache Cache = inr (inl refl)
which_first Cache Reserve = inl (omega arith)
which_first Reserve Unused = inr (inr (omega arith))
which_first Reserve Cache = inr (inr (omega arith))
which_first Reserve Reserve = inr (inl refl)

pub through-le-before : (s t : Tier) (g : Guest) → rank s < rank t → through s g ≤ before t g
through-le-before Unused Unused g l = absurd (omega (arith, l))
through-le-before Unused Cache g l = omega arith
through-le-before Unused Reserve g l = omega arith
through-le-before Cache Unused g l = absurd (omega (arith, l))
through-le-before Cache Cache g l = absurd (omega (arith, l))
through-le-before Cache Reserve g l = omega arith
through-le-before Reserve t g l = absurd (past t l) where
  past : (t : Tier) → 2 < rank t → ⊥
  past Unused l = omega (arith, l)
  past Cache l = omega (arith, l)
  past Reserve l = omega (arith, l)

pub all-through-le : (t : Tier) (gs : List Guest)
    → sum_by (through t) gs ≤ sum_by (through Reserve) gs
all-through-le t gs = sum_by-le-sum_by (through t) (through Reserve) gs (through-le t)
