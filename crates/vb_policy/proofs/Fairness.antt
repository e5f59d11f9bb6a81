-- What guests of one class keep, by their weights.
use Rattle.std.proofs.Common.{◌≡◌, ◌≤◌, ℕ, ◌+◌, ◌*◌, ◌-◌, ◌<◌, max, ap, sym, ◌∙◌, arith}
use Rattle.std.proofs.lemmas.Bool.Decides.{nat_tests}
use Rattle.std.proofs.lemmas.Nat.{mul-le}
use Rattle.std.proofs.Math.Nat.{lt_of_mul-lt-mul_right, mul-lt-mul_of_pos_right, mul_assoc}
use Rattle.std.proofs.Math.Nat.{mul_comm}
use Rattle.vb_policy.specs.declared.guest.Division.{Division}
use Rattle.vb_policy.specs.declared.guest.Guest.{Guest}
use Rattle.vb_policy.specs.declared.guest.Tier.{Tier}
use Rattle.vb_policy.specs.Divisions.{fair, keeps}
use Rattle.vb_policy.specs.Laws.{kept_of, weight_of}
use Rattle.vb_policy.specs.Tiers.{before, high, low, through}

in_class : (t : Tier) (p : ℕ) (g : Guest) → g.priority ≡ p → high t p g ≡ through t g
in_class t p g e = grind (arith, nat_tests)

of_class : (t : Tier) (p : ℕ) (g : Guest) → g.priority ≡ p → low t p g ≡ before t g
of_class t p g e = grind (arith, nat_tests)

-- a guest of the class keeps no more than by its weight
kept-le : (d : Division) (g : Guest) → g.priority ≡ d.priority → kept_of d g ≤ keeps d.kept g
kept-le d g e = of_parts (low d.tier d.priority g) (high d.tier d.priority g) (through d.tier g)
    (keeps d.kept g) (in_class d.tier d.priority g e) where
      of_parts : (low high all kept : ℕ) → high ≡ all → all - max low (high - kept) ≤ kept
      of_parts low high all kept e = omega (arith, e)

-- and no less where it gives some of the tier
le-kept : (d : Division) (g : Guest) → g.priority ≡ d.priority → before d.tier g < fair d g
    → keeps d.kept g ≤ kept_of d g
le-kept d g e more = of_parts (low d.tier d.priority g) (high d.tier d.priority g)
    (before d.tier g) (through d.tier g) (keeps d.kept g) (in_class d.tier d.priority g e)
    (of_class d.tier d.priority g e) more where
      of_parts : (low high before all kept : ℕ) → high ≡ all → low ≡ before
          → before < max low (high - kept) → kept ≤ all - max low (high - kept)
      of_parts low high before all kept e f more = omega (arith, e, f, more)

-- ---- products

swapped : (a b c : ℕ) → a * b * c ≡ a * c * b
swapped a b c = mul_assoc a b c ∙ (ap (λ (n : ℕ). a * n) (mul_comm b c) ∙ sym (mul_assoc a c b))

in_turn : (a b c d e f : ℕ) → a ≡ b → b ≤ c → c ≡ d → d < e → e ≡ f → a < f
in_turn a b c d e f p q r s t = omega (arith, p, q, r, s, t)

-- the first keeps k by its weight v at most, and the second more than j by its weight w
weighed : (k j l v w : ℕ) → k * 4096 ≤ l * v → l * w < (j + 1) * 4096 → 0 < v
    → k * w < (j + 1) * v
weighed k j l v w less more some = lt_of_mul-lt-mul_right 4096 (in_turn (k * w * 4096)
    (k * 4096 * w) (l * v * w) (l * w * v) ((j + 1) * 4096 * v) ((j + 1) * v * 4096)
    (swapped k w 4096) (mul-le (k * 4096) w (l * v) w less (omega arith)) (swapped l v w)
    (mul-lt-mul_of_pos_right more some) (swapped (j + 1) 4096 v))

pub fair_parts : (d : Division) (g h : Guest) → g.priority ≡ d.priority
    → h.priority ≡ d.priority → before d.tier h < fair d h
    → kept_of d g * weight_of h < (kept_of d h + 1) * weight_of g
fair_parts d g h e f more = weighed (kept_of d g) (kept_of d h) d.kept (weight_of g) (weight_of h)
    (omega (arith, kept-le d g e)) (omega (arith, le-kept d h f more)) (omega arith)
