-- A bit as a digit and as a test; the bits of a word from one on.
use Rattle.std.proofs.Common.{◌≡◌, ℕ, ◌-◌, ◌*◌, ◌/◌, ◌%◌, ◌^◌, ◌<◌, ◌≤◌, true, false, eqb, ltb}
use Rattle.std.proofs.{Common.{bit_and, ap, sym, ◌∙◌, inl, inr, arith, min}, lemmas.Bool.cases_lt}
use Rattle.std.proofs.lemmas.{Bool.Decides.nat_tests, Nat.and_le_l, Nat.Bits.bit_at_and}
use Rattle.std.proofs.lemmas.Nat.Bits.{bit_at_mask_inside, bit_at_mask_below, bit_at-trailing_zeros}
use Rattle.std.proofs.lemmas.Nat.Bits.{bit_at-zero, ones_shl, ones_shr, bit_at_ones}
use Rattle.std.{proofs.lemmas.Nat.Bits.bit_at_ones_above, specs.Int.{bit_at, trailing_zeros, w64}}
use Rattle.vb_virtio.specs.Tests.{has_bit}
use Rattle.vb_bits.specs.Words.{IsLowestFrom}

pub same_bit : (m n i j : ℕ) → bit_at m i ≡ bit_at n j → has_bit m i ≡ has_bit n j
same_bit m n i j e = ap (λ (x : ℕ). eqb x 1) e

pub one_bit : (n i : ℕ) → bit_at n i ≡ 1 → has_bit n i ≡ true
one_bit n i e = ap (λ (x : ℕ). eqb x 1) e

pub no_bit : (n i : ℕ) → bit_at n i ≡ 0 → has_bit n i ≡ false
no_bit n i e = ap (λ (x : ℕ). eqb x 1) e

-- the word with its bits below one of them made 0, as the code has it
abbrev rest : ℕ → ℕ → ℕ
rest word bit = bit_and word ((2 ^ 64 - 1) * 2 ^ bit % 2 ^ 64)

-- a bit of it is the lesser of the word's and the mask's
rest_bit : (word bit k : ℕ) → bit ≤ 64
    → bit_at (rest word bit) k ≡ min (bit_at word k) (bit_at (2 ^ 64 - 2 ^ bit) k)
rest_bit word bit k l = bit_at_and word ((2 ^ 64 - 1) * 2 ^ bit % 2 ^ 64) k
    ∙ ap (λ (mask : ℕ). min (bit_at word k) (bit_at mask k)) (ones_shl 64 bit l)

rest_from : (word bit k : ℕ) → bit ≤ 64 → bit ≤ k → k < 64
    → bit_at (rest word bit) k ≡ bit_at word k
rest_from word bit k l from below =
    grind (arith, rest_bit word bit k l, bit_at_mask_inside bit 64 k from below)

rest_below : (word bit k : ℕ) → bit ≤ 64 → k < bit → bit_at (rest word bit) k ≡ 0
rest_below word bit k l below =
    grind (arith, rest_bit word bit k l, bit_at_mask_below bit 64 k below)

pub none_from : (word bit : ℕ) → bit ≤ 64 → rest word bit ≡ 0 → (k : ℕ) → bit ≤ k → k < 64
    → has_bit word k ≡ false
none_from word bit l none k from below =
    grind (arith, rest_from word bit k l from below, bit_at-zero k)

pub found_from : (word bit : ℕ) → bit ≤ 64 → word < 2 ^ 64 → 0 < rest word bit
    → IsLowestFrom word bit (trailing_zeros w64 (rest word bit))
found_from word bit l fits some = let found = trailing_zeros w64 (rest word bit) in
    let less : rest word bit < 2 ^ 64 =
    omega (arith, and_le_l word ((2 ^ 64 - 1) * 2 ^ bit % 2 ^ 64)) in
    let lowest = bit_at-trailing_zeros w64 (rest word bit) some less in
    let from : bit ≤ found = elim (cases_lt found bit) [
      | inl before ↦ absurd (omega (arith, lowest.1, rest_below word bit found l before))
      | inr after ↦ after
    ] in
    record {
      from = from;
      within = lowest.0;
      one = one_bit word found (sym (rest_from word bit found l from lowest.0) ∙ lowest.1);
      lowest = λ k after before.
          let inside : k < 64 = omega (arith, before, lowest.0) in
          no_bit word k (sym (rest_from word bit k l after inside) ∙ lowest.2 k before);
    }

-- `MAX >> (64 - count)` has its lowest bits 1, n of them
pub low_bits : (count k : ℕ) → count ≤ 64
    → has_bit ((2 ^ 64 - 1) / 2 ^ (64 - count)) k ≡ ltb k count
low_bits count k few = let same : 64 - (64 - count) ≡ count = omega arith in
    ap (λ (n : ℕ). has_bit n k) (ones_shr 64 (64 - count) (omega arith)
    ∙ ap (λ (n : ℕ). 2 ^ n - 1) same) ∙ elim (cases_lt k count) [
      | inl below ↦ one_bit (2 ^ count - 1) k (bit_at_ones count k below) ∙ grind (arith, nat_tests)
      | inr above ↦ no_bit (2 ^ count - 1) k (bit_at_ones_above count k above)
          ∙ grind (arith, nat_tests)
    ]
