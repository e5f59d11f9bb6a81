-- A bit of a number, tested as a mask and as a digit.
use Rattle.std.proofs.Common.{◌≡◌, ℕ, zero, suc, ◌*◌, ◌^◌, ◌<◌, eqb, bit_and, ap, ◌∙◌, arith}
use Rattle.std.{specs.Int.bit_at, proofs.Math.Pow.pow_pos, proofs.lemmas.Bool.Decides.nat_tests}
use Rattle.std.proofs.lemmas.Nat.Bits.{and_pow, bit_at-lt}
use Rattle.vb_virtio.specs.Tests.{has_bit}

-- a digit times its weight is the weight where the digit is 1
times_is : (p b : ℕ) → 0 < p → b < 2 → eqb (b * p) p ≡ eqb b 1
times_is p zero h l = grind (arith, nat_tests)
times_is p (suc zero) h l = grind (arith, nat_tests)
times_is p (suc (suc b)) h l = absurd (omega arith)

pub contains_bit : (k f : ℕ) → eqb (bit_and f (2 ^ k)) (2 ^ k) ≡ has_bit f k
contains_bit k f = ap (λ (n : ℕ). eqb n (2 ^ k)) (and_pow f k)
    ∙ times_is (2 ^ k) (bit_at f k) (pow_pos k) (bit_at-lt f k)
