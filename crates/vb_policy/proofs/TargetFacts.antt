-- Worked facts of poor guests and of the targets that are set: numbers by hand, in pages.
use Rattle.std.proofs.Common.{◌≡◌, ℕ, List, [], ◌∷◌, map, true, false, refl, arith}
use Rattle.vb_policy.specs.declared.guest.Decision.TheVariants.{Enough, Divided, Short}
use Rattle.vb_policy.specs.declared.guest.Division.{Division}
use Rattle.vb_policy.specs.declared.guest.Guest.{Guest}
use Rattle.vb_policy.specs.declared.guest.Host.{Host}
use Rattle.vb_policy.specs.declared.guest.Tier.TheVariants.{Unused}
use Rattle.vb_policy.specs.Decisions.{Decides, short_targets}
use Rattle.vb_policy.specs.Laws.{CanGiveMore, with_targets}
use Rattle.vb_policy.specs.Settling.{base, is_poor, settled, Settles}
use Rattle.vb_policy.proofs.DivisionFacts.{guest, of_tier}

-- a guest with this target so far
abbrev pub aimed : Guest → ℕ → Guest
aimed g target = record g { target = target }

abbrev host : ℕ → Host
host lack = record { lack = lack; slack = 4; band = 35 }

-- ---- who is poor: of 100 pages a guest's part leaves it 50, and 35 percent of them are 17.5; with a
-- slack of 4 it is poor that has 13 left

poor_by_target : map (λ t. is_poor (host 1) Unused 50 (aimed (guest 100 100 100) t))
    (0 ∷ 50 ∷ 86 ∷ 87 ∷ 100 ∷ []) ≡ false ∷ false ∷ false ∷ true ∷ true ∷ []
poor_by_target = refl

-- more than 100 percent count as 100, and what a later tier has is nothing left of this one
poor_by_band : is_poor (record (host 1) { band = 200 }) Unused 50 (aimed (guest 100 100 100) 50)
    ∷ is_poor (record (host 1) { slack = 0; band = 100 }) Unused 50 (aimed (guest 100 100 100) 51)
    ∷ is_poor (host 1) Unused 50 (aimed (guest 100 500 500) 120) ∷ [] ≡ false ∷ true ∷ true ∷ []
poor_by_band = refl

-- where it keeps nothing of the tier, it is poor whose target is above the most that may be
poor_by_most : is_poor (host 1) Unused 100 (aimed (guest 100 100 100) 100)
    ∷ is_poor (host 1) Unused 100 (aimed (guest 100 100 100) 101)
    ∷ is_poor (host 1) Unused 100 (record (guest 100 100 100) { target = 102; most = 102 })
    ∷ is_poor (host 1) Unused 100 (record (guest 100 100 100) { target = 103; most = 102 })
    ∷ [] ≡ false ∷ true ∷ false ∷ true ∷ []
poor_by_most = refl

-- a poor guest gets its part, and another stays
based : base (host 1) Unused 50 (aimed (guest 100 100 100) 87)
    ∷ base (host 1) Unused 50 (aimed (guest 100 100 100) 86) ∷ [] ≡ 50 ∷ 86 ∷ []
based = refl

-- ---- three guests of 100 spare pages, 120 are missing, and each one's part is 40: the first is poor,
-- the second stays above its part, and the third rises to within 10 pages of it

abbrev parts : Division
parts = of_tier Unused 0 249855

abbrev three : List ℕ → List Guest
three targets =
    with_targets (guest 100 100 100 ∷ guest 100 100 100 ∷ guest 100 100 100 ∷ []) targets

settled_so : map (settled (host 120) parts 10) (three (90 ∷ 50 ∷ 0 ∷ [])) ≡ 40 ∷ 50 ∷ 30 ∷ []
settled_so = refl

settles_so : Settles (host 120) (three (90 ∷ 50 ∷ 0 ∷ [])) parts 10
settles_so =
    record { fits = omega arith; enough = omega arith; widest = λ n l e. omega (arith, e) }

-- neither by less nor by more
not_otherwise : (Settles (host 120) (three (90 ∷ 50 ∷ 0 ∷ [])) parts 9 → ⊥)
    × (Settles (host 120) (three (90 ∷ 50 ∷ 0 ∷ [])) parts 11 → ⊥)
not_otherwise = (
  λ s. omega (arith, s.widest 10 (omega arith) (omega arith)),
  λ s. omega (arith, s.enough),
)

-- then all stay, as nobody is poor and the targets are enough
settles_again : Settles (host 120) (three (40 ∷ 50 ∷ 30 ∷ [])) parts 4294967295
settles_again =
    record { fits = omega arith; enough = omega arith; widest = λ n l e. omega (arith, l) }

stay_so : map (settled (host 120) parts 4294967295) (three (40 ∷ 50 ∷ 30 ∷ []))
    ≡ 40 ∷ 50 ∷ 30 ∷ []
stay_so = refl

-- Of two that rise the one that is farther from its part rises first: 20 more are missing, and of
-- the second and third, 30 and 10 pages from their parts of 60, the second rises alone.
farthest_first : Settles (host 160) (three (60 ∷ 30 ∷ 50 ∷ [])) (of_tier Unused 0 167935) 10
    × (map (settled (host 160) (of_tier Unused 0 167935) 10) (three (60 ∷ 30 ∷ 50 ∷ []))
    ≡ 60 ∷ 50 ∷ 50 ∷ [])
farthest_first = (
  record { fits = omega arith; enough = omega arith; widest = λ n l e. omega (arith, e) },
  refl,
)

-- ---- a target that stays is of any tier: of the first guest 16 pages of cache are asked for, though
-- the second has unused memory, as its part of the tier is within the slack

cache_that_stays : Decides (host 20) (aimed (guest 4 50 50) 20 ∷ guest 100 100 100 ∷ [])
    (Divided (of_tier Unused 0 331775) 4294967295) (20 ∷ 0 ∷ [])
cache_that_stays = (
  record {
    tier_first = omega arith;
    tier = omega arith;
    class_first = λ p l. absurd (omega (arith, l));
    class = omega arith;
    kept = omega arith;
    kept_most = λ k enough. omega (arith, enough);
  },
  record { fits = omega arith; enough = omega arith; widest = λ n l e. omega (arith, l) },
  refl,
)

-- ---- where nothing is missing, who is poor gets all that it has, and the others stay

relieved : Decides (host 0) (three (90 ∷ 30 ∷ 0 ∷ [])) Enough (0 ∷ 30 ∷ 0 ∷ [])
relieved = (refl, refl)

not_enough : (targets : List ℕ) → Decides (host 1) (three (90 ∷ 30 ∷ 0 ∷ [])) Enough targets → ⊥
not_enough targets is = omega (arith, is.0)

-- ---- a short host: of 305 missing pages the guests can give 300

all_of_it : Decides (host 305) (three (90 ∷ 100 ∷ 100 ∷ [])) (Short 5) (100 ∷ 100 ∷ 100 ∷ [])
all_of_it = (omega arith, refl, refl)

not_by_more : (targets : List ℕ)
    → Decides (host 305) (three (90 ∷ 100 ∷ 100 ∷ [])) (Short 6) targets → ⊥
not_by_more targets is = omega (arith, is.1)

not_short : (targets : List ℕ)
    → Decides (host 300) (three (90 ∷ 100 ∷ 100 ∷ [])) (Short 0) targets → ⊥
not_short targets is = omega (arith, is.0)

-- all stay that are within the slack of it, unless one waits
stay_when_short : short_targets (host 305) (three (96 ∷ 104 ∷ 100 ∷ [])) ≡ 96 ∷ 104 ∷ 100 ∷ []
stay_when_short = refl

one_is_too_low : short_targets (host 305) (three (95 ∷ 104 ∷ 100 ∷ [])) ≡ 100 ∷ 100 ∷ 100 ∷ []
one_is_too_low = refl

one_is_too_high : short_targets (host 305) (three (96 ∷ 105 ∷ 100 ∷ [])) ≡ 100 ∷ 100 ∷ 100 ∷ []
one_is_too_high = refl

one_waits : short_targets (host 305)
    (aimed (guest 100 100 100) 96 ∷ record (guest 100 100 100) { target = 100; waits = true } ∷ [])
    ≡ 100 ∷ 100 ∷ []
one_waits = refl

-- ---- guests that can give more: the first in each tier, and the second as much

more_so : CanGiveMore (guest 100 100 100 ∷ guest 20 40 60 ∷ [])
    (guest 101 102 103 ∷ guest 20 40 60 ∷ [])
more_so = (
  refl,
  refl,
  omega arith,
  omega arith,
  omega arith,
  (refl, refl, omega arith, omega arith, omega arith, tt),
)

-- neither with less in a tier, nor of another weight or class, nor with a guest less
not_more : (CanGiveMore (guest 100 100 100 ∷ []) (guest 99 100 100 ∷ []) → ⊥)
    × (CanGiveMore (guest 100 100 100 ∷ []) (guest 100 99 100 ∷ []) → ⊥)
    × (CanGiveMore (guest 100 100 100 ∷ []) (guest 100 100 99 ∷ []) → ⊥)
    × (CanGiveMore (guest 1 1 1 ∷ []) (record (guest 1 1 1) { weight = 2 } ∷ []) → ⊥)
    × (CanGiveMore (guest 1 1 1 ∷ []) (record (guest 1 1 1) { priority = 1 } ∷ []) → ⊥)
    × (CanGiveMore (guest 1 1 1 ∷ []) [] → ⊥)
not_more = (
  λ m. omega (arith, m),
  λ m. omega (arith, m),
  λ m. omega (arith, m),
  λ m. omega (arith, m),
  λ m. omega (arith, m),
  λ m. m,
)
