-- Divisions that ask for more, and those that ask for less.
use Rattle.std.proofs.Common.{◌≡◌, ◌⊎◌, ℕ, ◌-◌, ◌*◌, ◌/◌, ◌<◌, ◌≤◌, max, List, [], ◌∷◌, sum_by}
use Rattle.std.proofs.Common.{inl, inr, ap, arith}
use Rattle.std.proofs.lemmas.Bool.{cases_lt}
use Rattle.std.proofs.lemmas.Bool.Decides.{nat_tests}
use Rattle.std.proofs.lemmas.List.Sums.{sum_by-cons, sum_by-le-sum_by}
use Rattle.vb_policy.specs.declared.guest.Division.{Division}
use Rattle.vb_policy.specs.declared.guest.Guest.{Guest}
use Rattle.vb_policy.specs.declared.guest.Tier.{Tier}
use Rattle.vb_policy.specs.declared.guest.Tier.TheVariants.{Unused, Cache, Reserve}
use Rattle.vb_policy.specs.Divisions.{Divides, fair, keeps, share}
use Rattle.vb_policy.specs.Laws.{CanGiveMore}
use Rattle.vb_policy.specs.Tiers.{before, high, low, through}
use Rattle.vb_policy.proofs.Divisions.{low-le-share, share-le-high, share_falls}
use Rattle.vb_policy.proofs.Giving.{high-le-low, rank}
use Rattle.vb_policy.proofs.Giving.{through-le-before, which_first}
use Rattle.vb_policy.proofs.Order.{before-le-fair, fair-le-through}

-- one division is of an earlier tier or class, or keeps as much
abbrev pub IsNoLater : Division → Division → Type 0
IsNoLater e d = (rank e.tier < rank d.tier)
    ⊎ ((e.tier ≡ d.tier)
    × ((e.priority < d.priority) ⊎ ((e.priority ≡ d.priority) × (d.kept ≤ e.kept))))

in_class : (e d : Division) (g : Guest) → e.tier ≡ d.tier → e.priority < d.priority
    → fair e g ≤ fair d g
in_class e d g same l = omega (
  arith,
  share-le-high e.tier e.priority e.kept g,
  ap (λ (t : Tier). high t e.priority g) same,
  high-le-low d.tier e.priority d.priority g l,
  low-le-share d.tier d.priority d.kept g,
)

in_kept : (e d : Division) (g : Guest) → e.tier ≡ d.tier → e.priority ≡ d.priority
    → d.kept ≤ e.kept → fair e g ≤ fair d g
in_kept e d g same even l = omega (
  arith,
  ap (λ (t : Tier). share t e.priority e.kept g) same,
  ap (λ (p : ℕ). share d.tier p e.kept g) even,
  share_falls d.tier d.priority d.kept e.kept g l,
)

pub fair_falls : (e d : Division) (g : Guest) → IsNoLater e d → fair e g ≤ fair d g
fair_falls e d g h = elim h [
  | inl first ↦ omega (
    arith,
    fair-le-through e g,
    through-le-before e.tier d.tier g first,
    before-le-fair d g,
  )
  | inr rest ↦ elim rest.1 [
    | inl less ↦ in_class e d g rest.0 less
    | inr even ↦ in_kept e d g rest.0 even.0 even.1
  ]
]

-- ---- guests that can give as much or more

pub record Grow (gs hs : List Guest) : Type 0 where
  pub through : (t : Tier) → sum_by (through t) gs ≤ sum_by (through t) hs
  pub high : (t : Tier) (p : ℕ) → sum_by (high t p) gs ≤ sum_by (high t p) hs
  pub share : (t : Tier) (p k : ℕ) → sum_by (share t p k) gs ≤ sum_by (share t p k) hs

kept_later : (lack less : ℕ) (gs hs : List Guest) (d e : Division) → less ≤ lack → Grow gs hs
    → Divides lack gs d → Divides less hs e → e.tier ≡ d.tier → e.priority ≡ d.priority
    → d.kept ≤ e.kept
kept_later lack less gs hs d e l grow one other same even = other.kept_most d.kept (omega (
  arith,
  l,
  one.kept,
  grow.share d.tier d.priority d.kept,
  ap (λ (t : Tier). sum_by (share t e.priority d.kept) hs) same,
  ap (λ (p : ℕ). sum_by (share d.tier p d.kept) hs) even,
))

class_later : (lack less : ℕ) (gs hs : List Guest) (d e : Division) → less ≤ lack → Grow gs hs
    → Divides lack gs d → Divides less hs e → e.tier ≡ d.tier → IsNoLater e d
class_later lack less gs hs d e l grow one other same = elim (cases_lt d.priority e.priority) [
  | inl more ↦ absurd (omega (
    arith,
    l,
    one.class,
    grow.high d.tier d.priority,
    ap (λ (t : Tier). sum_by (high t d.priority) hs) same,
    other.class_first d.priority more,
  ))
  | inr no_more ↦ elim (cases_lt e.priority d.priority) [
    | inl first ↦ inr (same, inl first)
    | inr no_less ↦
        let even : e.priority ≡ d.priority = omega (arith, no_more, no_less) in
        inr (same, inr (even, kept_later lack less gs hs d e l grow one other same even))
  ]
]

pub no_later : (lack less : ℕ) (gs hs : List Guest) (d e : Division) → less ≤ lack → Grow gs hs
    → Divides lack gs d → Divides less hs e → IsNoLater e d
no_later lack less gs hs d e l grow one other = elim (which_first e.tier d.tier) [
  | inl first ↦ inl first
  | inr rest ↦ elim rest [
    | inl same ↦ class_later lack less gs hs d e l grow one other same
    | inr last ↦ absurd (omega (
      arith,
      l,
      one.tier,
      grow.through d.tier,
      sum_by-le-sum_by (through d.tier) (before e.tier) hs
          (λ g. through-le-before d.tier e.tier g last),
      other.tier_first,
    ))
  ]
]

-- ---- where each can

abbrev pub More : Guest → Guest → Type 0
More g h = (h.weight ≡ g.weight) × (h.priority ≡ g.priority)
    × (g.unused ≤ h.unused) × (g.cached ≤ h.cached) × (g.spare ≤ h.spare)

pub more_through : (t : Tier) (g h : Guest) → More g h → through t g ≤ through t h
more_through Unused g h m = omega (arith, m.2, m.3, m.4)
more_through Cache g h m = omega (arith, m.3, m.4)
more_through Reserve g h m = m.4

more_before : (t : Tier) (g h : Guest) → More g h → before t g ≤ before t h
more_before Unused g h m = omega arith
more_before Cache g h m = more_through Unused g h m
more_before Reserve g h m = more_through Cache g h m

more_high : (t : Tier) (p : ℕ) (g h : Guest) → More g h → high t p g ≤ high t p h
more_high t p g h m = grind (arith, nat_tests, m.1, more_through t g h m, more_before t g h m)

more_low : (t : Tier) (p : ℕ) (g h : Guest) → More g h → low t p g ≤ low t p h
more_low t p g h m = grind (arith, nat_tests, m.1, more_through t g h m, more_before t g h m)

pub more_share : (t : Tier) (p k : ℕ) (g h : Guest) → More g h → share t p k g ≤ share t p k h
more_share t p k g h m = of_parts (low t p g) (low t p h) (high t p g) (high t p h) (keeps k g)
    (keeps k h) (more_low t p g h m) (more_high t p g h m)
    (ap (λ (w : ℕ). k * max 1 w / 4096) m.0) where
      of_parts : (l1 l2 h1 h2 k1 k2 : ℕ) → l1 ≤ l2 → h1 ≤ h2 → k2 ≡ k1
          → max l1 (h1 - k1) ≤ max l2 (h2 - k2)
      of_parts l1 l2 h1 h2 k1 k2 l m e = omega (arith, l, m, e)

each_more : (f : Guest → ℕ) → ((g h : Guest) → More g h → f g ≤ f h) → (gs hs : List Guest)
    → CanGiveMore gs hs → sum_by f gs ≤ sum_by f hs
each_more f rises [] [] all = omega arith
each_more f rises [] (h ∷ hs) all = absurd all
each_more f rises (g ∷ gs) [] all = absurd all
each_more f rises (g ∷ gs) (h ∷ hs) all = omega (
  arith,
  sum_by-cons f g gs,
  sum_by-cons f h hs,
  rises g h (all.0, all.1, all.2, all.3, all.4),
  each_more f rises gs hs all.5,
)

pub all_more : (gs hs : List Guest) → CanGiveMore gs hs → Grow gs hs
all_more gs hs all = record {
  through = λ t. each_more (through t) (more_through t) gs hs all;
  high = λ t p. each_more (high t p) (more_high t p) gs hs all;
  share = λ t p k. each_more (share t p k) (more_share t p k) gs hs all;
}

pub monotone : (lack less : ℕ) (gs hs : List Guest) (d e : Division) (g : Guest) → less ≤ lack
    → CanGiveMore gs hs → Divides lack gs d → Divides less hs e → fair e g ≤ fair d g
monotone lack less gs hs d e g l all one other =
    fair_falls e d g (no_later lack less gs hs d e l (all_more gs hs all) one other)
