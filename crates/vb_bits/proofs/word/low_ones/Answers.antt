use Rattle.std.proofs.Common.{◌≡◌, ◌∙◌, ◌-◌, ◌/◌, ◌^◌, ℕ, ap, arith, ltb, min}
use Rattle.std.proofs.lemmas.Bool.Decides.{nat_tests}
use Rattle.vb_virtio.specs.Tests.{has_bit}
use Rattle.vb_bits.proofs.Bits.{low_bits}
use Rattle.vb_bits.proofs.word.low_ones.Goals as goal

pub returns : goal.returns
returns c = λ k l.
    let count : ℕ = min c.args.count 64 in
    let shift : c.saturating_sub.result ≡ 64 - count = omega arith in
    let same : ltb k count ≡ ltb k c.args.count = grind (arith, nat_tests, l) in
    ap (λ (n : ℕ). has_bit ((2 ^ 64 - 1) / 2 ^ n) k) shift ∙ low_bits count k (omega arith) ∙ same
