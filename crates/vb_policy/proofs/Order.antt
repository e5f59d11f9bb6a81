-- Which guests give first, and how much more than is missing.
use Rattle.std.proofs.Common.{◌≡◌, ℕ, ◌+◌, ◌*◌, ◌/◌, ◌-◌, ◌<◌, ◌≤◌, max, List, [], ◌∷◌, sum_by}
use Rattle.std.proofs.Common.{inl, inr, ap, arith}
use Rattle.std.proofs.lemmas.Bool.{cases_lt}
use Rattle.std.proofs.lemmas.Bool.Decides.{nat_tests}
use Rattle.std.proofs.lemmas.List.Sums.{sum_by-cons}
use Rattle.vb_policy.specs.declared.guest.Division.{Division}
use Rattle.vb_policy.specs.declared.guest.Guest.{Guest}
use Rattle.vb_policy.specs.declared.guest.Tier.{Tier}
use Rattle.vb_policy.specs.Divisions.{Divides, fair, keeps, share}
use Rattle.vb_policy.specs.Laws.{unit_of, weight_of}
use Rattle.vb_policy.specs.Tiers.{before, high, low, through}
use Rattle.vb_policy.proofs.Divisions.{low-le-share, share-le-high}
use Rattle.vb_policy.proofs.Giving.{before-le, before-le-low, high-le-through}
use Rattle.vb_policy.proofs.Giving.{through-le-before, which_first}

pub fair-le-through : (d : Division) (g : Guest) → fair d g ≤ through d.tier g
fair-le-through d g = omega (
  arith,
  share-le-high d.tier d.priority d.kept g,
  high-le-through d.tier d.priority g,
)

pub before-le-fair : (d : Division) (g : Guest) → before d.tier g ≤ fair d g
before-le-fair d g = omega (
  arith,
  before-le-low d.tier d.priority g,
  low-le-share d.tier d.priority d.kept g,
)

-- a guest that gives more than a tier has does so in a later one
pub in_tiers : (d : Division) (t : Tier) (g h : Guest) → through t g < fair d g
    → through t h ≤ fair d h
in_tiers d t g h more = elim (which_first t d.tier) [
  | inl first ↦ omega (arith, through-le-before t d.tier h first, before-le-fair d h)
  | inr other ↦ elim other [
    | inl same ↦ absurd (omega (
      arith,
      more,
      fair-le-through d g,
      ap (λ (u : Tier). through u g) same,
    ))
    | inr last ↦ absurd (omega (
      arith,
      more,
      fair-le-through d g,
      through-le-before d.tier t g last,
      before-le t g,
    ))
  ]
]

above_class : (t : Tier) (p : ℕ) (g : Guest) → p < g.priority → high t p g ≡ before t g
above_class t p g l = grind (arith, nat_tests)

below_class : (t : Tier) (p : ℕ) (g : Guest) → g.priority < p → low t p g ≡ through t g
below_class t p g l = grind (arith, nat_tests)

-- a guest that gives some of the tier is of the class or a lower one
pub in_classes : (d : Division) (g h : Guest) → h.priority < g.priority
    → before d.tier g < fair d g → through d.tier h ≤ fair d h
in_classes d g h l more = elim (cases_lt d.priority g.priority) [
  | inl above ↦ absurd (omega (
    arith,
    more,
    share-le-high d.tier d.priority d.kept g,
    above_class d.tier d.priority g above,
  ))
  | inr within ↦ omega (
    arith,
    below_class d.tier d.priority h (omega (arith, l, within)),
    low-le-share d.tier d.priority d.kept h,
  )
]

-- ---- one step of what is kept

quotients : (k w : ℕ) → (k + 1) * w / 4096 ≤ k * w / 4096 + (w / 4096 + 1)
quotients k w = let e : (k + 1) * w ≡ k * w + w = right_distributes k w in omega (arith, e) where
  right_distributes : (k w : ℕ) → (k + 1) * w ≡ k * w + w
  right_distributes k w = grind arith

share_steps : (t : Tier) (p k : ℕ) (g : Guest) → share t p k g ≤ share t p (k + 1) g + unit_of g
share_steps t p k g = of_two (low t p g) (high t p g) (keeps k g) (keeps (k + 1) g) (unit_of g)
    (quotients k (weight_of g)) where
      of_two : (low high less more unit : ℕ) → more ≤ less + unit
          → max low (high - less) ≤ max low (high - more) + unit
      of_two low high less more unit l = omega (arith, l)

-- a sum of terms that are larger by no more than others
pub sum_within : {X : Type 0} (f h u : X → ℕ) → ((x : X) → f x ≤ h x + u x) → (xs : List X)
    → sum_by f xs ≤ sum_by h xs + sum_by u xs
sum_within f h u less [] = omega arith
sum_within f h u less (x ∷ xs) = omega (
  arith,
  sum_by-cons f x xs,
  sum_by-cons h x xs,
  sum_by-cons u x xs,
  less x,
  sum_within f h u less xs,
)

pub little_more : (lack : ℕ) (gs : List Guest) (d : Division) → Divides lack gs d
    → sum_by (fair d) gs < lack + sum_by unit_of gs
little_more lack gs d is = elim (cases_lt (sum_by (share d.tier d.priority (d.kept + 1)) gs) lack) [
  | inl less ↦ omega (
    arith,
    less,
    sum_within (fair d) (share d.tier d.priority (d.kept + 1)) unit_of
        (share_steps d.tier d.priority d.kept) gs,
  )
  | inr enough ↦ absurd (omega (arith, is.kept_most (d.kept + 1) enough))
]
