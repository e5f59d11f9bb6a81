-- Worked facts of tiers, classes and divisions: numbers by hand, in pages.
use Rattle.std.proofs.Common.{◌≡◌, ℕ, zero, suc, ◌<◌, sum_by, List, [], ◌∷◌, map, false, refl, arith}
use Rattle.vb_policy.specs.declared.guest.Division.{Division}
use Rattle.vb_policy.specs.declared.guest.Guest.{Guest}
use Rattle.vb_policy.specs.declared.guest.Tier.{Tier}
use Rattle.vb_policy.specs.declared.guest.Tier.TheVariants.{Unused, Cache, Reserve}
use Rattle.vb_policy.specs.Divisions.{Divides, fair, keeps}
use Rattle.vb_policy.specs.Tiers.{before, high, low, through}

-- a guest of weight 1 and class 0 whose target so far is 0
abbrev pub guest : (unused cached spare : ℕ) → Guest
guest unused cached spare = record {
  unused = unused;
  cached = cached;
  spare = spare;
  weight = 1;
  priority = 0;
  target = 0;
  most = 0;
  waits = false;
}

-- ---- tiers rise, whatever is said

abbrev tiers_of : Guest → List ℕ
tiers_of g = through Unused g ∷ through Cache g ∷ through Reserve g ∷ before Unused g
    ∷ before Cache g ∷ before Reserve g ∷ []

rising : tiers_of (guest 3 5 9) ≡ 3 ∷ 5 ∷ 9 ∷ 0 ∷ 3 ∷ 5 ∷ []
rising = refl

falling : tiers_of (guest 9 7 5) ≡ 5 ∷ 5 ∷ 5 ∷ 0 ∷ 5 ∷ 5 ∷ []
falling = refl

uneven : tiers_of (guest 9 7 8) ≡ 7 ∷ 7 ∷ 8 ∷ 0 ∷ 7 ∷ 7 ∷ []
uneven = refl

-- ---- a guest of class 1, while classes 0, 1 and 2 divide its cache

least_in_turn : map (λ p. low Cache p (record (guest 3 5 9) { priority = 1 })) (0 ∷ 1 ∷ 2 ∷ [])
    ≡ 3 ∷ 3 ∷ 5 ∷ []
least_in_turn = refl

most_in_turn : map (λ p. high Cache p (record (guest 3 5 9) { priority = 1 })) (0 ∷ 1 ∷ 2 ∷ [])
    ≡ 3 ∷ 5 ∷ 5 ∷ []
most_in_turn = refl

-- ---- what is kept by weight; weight 0 counts as 1

by_weight : keeps 4096 (guest 3 5 9) ∷ keeps 4095 (guest 3 5 9)
    ∷ keeps 4096 (record (guest 3 5 9) { weight = 3 })
    ∷ keeps 1366 (record (guest 3 5 9) { weight = 3 })
    ∷ keeps 1365 (record (guest 3 5 9) { weight = 3 })
    ∷ keeps 4096 (record (guest 3 5 9) { weight = 0 }) ∷ [] ≡ 1 ∷ 0 ∷ 3 ∷ 1 ∷ 0 ∷ 1 ∷ []
by_weight = refl

-- ---- three equal guests of 200 spare pages, and 270 are missing: each gives 90 and keeps 110, up to
-- the last part of the next page

abbrev equals : List Guest
equals = guest 200 200 200 ∷ guest 200 200 200 ∷ guest 200 200 200 ∷ []

abbrev pub of_tier : Tier → ℕ → ℕ → Division
of_tier tier priority kept = record { tier = tier; priority = priority; kept = kept }

thirds : map (fair (of_tier Unused 0 454655)) equals ≡ 90 ∷ 90 ∷ 90 ∷ []
thirds = refl

thirds_divide : Divides 270 equals (of_tier Unused 0 454655)
thirds_divide = record {
  tier_first = omega arith;
  tier = omega arith;
  class_first = λ p l. absurd (omega (arith, l));
  class = omega arith;
  kept = omega arith;
  kept_most = λ k enough. omega (arith, enough);
}

-- no more is kept, no less, of no later class, and of no later tier
no_others : (Divides 270 equals (of_tier Unused 0 454656) → ⊥)
    × (Divides 270 equals (of_tier Unused 0 454654) → ⊥)
    × (Divides 270 equals (of_tier Unused 1 454655) → ⊥)
    × (Divides 270 equals (of_tier Cache 0 454655) → ⊥)
no_others = (
  λ is. omega (arith, is.kept),
  λ is. omega (arith, is.kept_most 454655 (omega arith)),
  λ is. omega (arith, is.class_first 0 (omega arith)),
  λ is. omega (arith, is.tier_first),
)

-- ---- a guest that reads its 94 pages of cache again beside two idle ones: 425 missing pages are
-- unused elsewhere, 4 more than they give stay with each, and the cache stays whole

abbrev idle_and_busy : List Guest
idle_and_busy = guest 171 171 183 ∷ guest 104 198 204 ∷ guest 162 162 174 ∷ []

cache_stays : Divides 425 idle_and_busy (of_tier Unused 0 20479)
    × (map (fair (of_tier Unused 0 20479)) idle_and_busy ≡ 167 ∷ 100 ∷ 158 ∷ [])
cache_stays = (
  record {
    tier_first = omega arith;
    tier = omega arith;
    class_first = λ p l. absurd (omega (arith, l));
    class = omega arith;
    kept = omega arith;
    kept_most = λ k enough. omega (arith, enough);
  },
  refl,
)

-- 437 are all that is unused; one page more is of the cache
cache_goes : Divides 438 idle_and_busy (of_tier Cache 0 385023)
    × (map (fair (of_tier Cache 0 385023)) idle_and_busy ≡ 171 ∷ 105 ∷ 162 ∷ [])
cache_goes = (
  record {
    tier_first = omega arith;
    tier = omega arith;
    class_first = λ p l. absurd (omega (arith, l));
    class = omega arith;
    kept = omega arith;
    kept_most = λ k enough. omega (arith, enough);
  },
  refl,
)

not_yet : (kept : ℕ) → Divides 437 idle_and_busy (of_tier Cache 0 kept) → ⊥
not_yet kept is = omega (arith, is.tier_first)

-- up to the last page: each gives all that it doesn't use
all_unused : Divides 437 idle_and_busy (of_tier Unused 0 4095)
    × (map (fair (of_tier Unused 0 4095)) idle_and_busy ≡ 171 ∷ 104 ∷ 162 ∷ [])
all_unused = (
  record {
    tier_first = omega arith;
    tier = omega arith;
    class_first = λ p l. absurd (omega (arith, l));
    class = omega arith;
    kept = omega arith;
    kept_most = λ k enough. omega (arith, enough);
  },
  refl,
)

-- ---- weights 1 and 3: of 200 spare pages 80 needn't be given, 20 and 60 of them

abbrev weighted : List Guest
weighted = guest 100 100 100 ∷ record (guest 100 100 100) { weight = 3 } ∷ []

quarters : Divides 120 weighted (of_tier Unused 0 83285)
    × (map (fair (of_tier Unused 0 83285)) weighted ≡ 80 ∷ 40 ∷ [])
quarters = (
  record {
    tier_first = omega arith;
    tier = omega arith;
    class_first = λ p l. absurd (omega (arith, l));
    class = omega arith;
    kept = omega arith;
    kept_most = λ k enough. omega (arith, enough);
  },
  refl,
)

-- ---- classes 0 and 1: unused memory of both before cache of either

abbrev classes : List Guest
classes = guest 50 80 90 ∷ record (guest 60 100 120) { priority = 1 } ∷ []

unused_of_both : Divides 70 classes (of_tier Unused 1 167935)
    × (map (fair (of_tier Unused 1 167935)) classes ≡ 50 ∷ 20 ∷ [])
unused_of_both = (
  record {
    tier_first = omega arith;
    tier = omega arith;
    class_first = λ p l. first_gives p l;
    class = omega arith;
    kept = omega arith;
    kept_most = λ k enough. omega (arith, enough);
  },
  refl,
) where
  first_gives : (p : ℕ) → p < 1 → sum_by (high Unused p) classes < 70
  first_gives zero l = omega arith
  first_gives (suc p) l = absurd (omega (arith, l))

cache_of_the_lower : Divides 130 classes (of_tier Cache 0 45055)
    × (map (fair (of_tier Cache 0 45055)) classes ≡ 70 ∷ 60 ∷ [])
cache_of_the_lower = (
  record {
    tier_first = omega arith;
    tier = omega arith;
    class_first = λ p l. absurd (omega (arith, l));
    class = omega arith;
    kept = omega arith;
    kept_most = λ k enough. omega (arith, enough);
  },
  refl,
)
