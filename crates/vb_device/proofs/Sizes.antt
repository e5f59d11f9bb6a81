-- A queue size within the limits is a power of two in the words of the machine.
use Rattle.std.proofs.Common.{◌≡◌, ◌∙◌, ℕ, zero, suc, ◌<◌, ◌≤◌, Bool, true, false, refl, arith, inl}
use Rattle.std.proofs.{Common.{inr, ap, rules}, lemmas.Bool.{cases_eq, and_parts}}
use Rattle.vb_virtio.specs.Limits.{is_config, is_power_of_two}
use Rattle.std.specs.Prelude.{not, ◌||◌, ◌&&◌, IsTrue}
use Rattle.vb_ram.proofs.Limits.{config_limits}
use Rattle.vb_ring.{specs.Layout.IsSize, proofs.Powers.size_of_power}
use Rattle.std.specs.Int as int
use lib.Count

abbrev all_below : (ℕ → Bool) → ℕ → Bool
all_below p zero = true
all_below p (suc n) = p n && all_below p n

at_below : (p : ℕ → Bool) (n k : ℕ) → all_below p n ≡ true → k < n → p k ≡ true
at_below p zero k h lt = absurd (omega arith)
at_below p (suc n) k h lt = let parts = and_parts (p n) (all_below p n) h in elim (cases_eq k n) [
  | inl same ↦ ap p same ∙ parts.0
  | inr ne ↦ at_below p n k parts.1 (omega (arith, ne))
]

either : (a b : Bool) → (not a || b) ≡ true → a ≡ true → b ≡ true
either true b h e = h
either false b h e = cc

test : ℕ → Bool
test k = not (is_power_of_two k) || int.is_power_of_two k

tested : all_below test 257 ≡ true
unfolding test lib.Count.ones
tested = refl

is_true : (b : Bool) → b ≡ true → IsTrue b
is_true true e = search rules
is_true false e = absurd cc

power : (n : ℕ) → is_power_of_two n ≡ true → n ≤ 256 → int.is_power_of_two n ≡ true
unfolding test
power n e h =
    either (is_power_of_two n) (int.is_power_of_two n) (at_below test 257 n tested (omega arith)) e

pub size_is_power : (pages queue_size processors : ℕ) → is_config pages queue_size processors ≡ true
    → IsTrue (int.is_power_of_two queue_size) × (2 ≤ queue_size) × (queue_size ≤ 256)
size_is_power pages queue_size processors h =
    grind (arith, config_limits, and_parts, is_true, power)

-- and a size that a queue may have
pub size_is : (pages queue_size processors : ℕ) → is_config pages queue_size processors ≡ true
    → IsSize queue_size
size_is pages queue_size processors h = grind (arith, power, size_is_power, size_of_power)
