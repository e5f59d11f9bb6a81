use Rattle.std.{specs.Int.w64, proofs.lemmas.Nat.Bits.{bit_at_set_same, bit_at_set_other}}
use Rattle.vb_bits.proofs.Bits.{one_bit, same_bit}
use Rattle.vb_bits.proofs.word.with_one.Goals as goal

pub returns-clause-same : goal.returns-clause-same
returns-clause-same c = one_bit _ _ (bit_at_set_same w64 c.args.word c.args.bit c.requires)

pub returns-clause-others : goal.returns-clause-others
returns-clause-others c = λ k l ne.
    same_bit _ _ k k (bit_at_set_other w64 c.args.word c.args.bit c.requires k ne)
