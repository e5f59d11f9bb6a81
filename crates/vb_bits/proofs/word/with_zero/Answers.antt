use Rattle.std.{specs.Int.w64, proofs.lemmas.Nat.Bits.{bit_at_clear_same, bit_at_clear_other}}
use Rattle.vb_bits.proofs.Bits.{no_bit, same_bit}
use Rattle.vb_bits.proofs.word.with_zero.Goals as goal

pub returns-clause-same : goal.returns-clause-same
returns-clause-same c = no_bit _ _ (bit_at_clear_same w64 c.args.word c.args.bit c.requires)

pub returns-clause-others : goal.returns-clause-others
returns-clause-others c = λ k l ne.
    same_bit _ _ k k (bit_at_clear_other w64 c.args.word c.args.bit c.requires k l ne)
