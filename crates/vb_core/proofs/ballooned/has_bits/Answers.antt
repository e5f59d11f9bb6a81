use Rattle.std.proofs.Common.{◌+◌, ◌-◌, arith}
use Rattle.vb_core.proofs.MarkLemmas.{last_has_bit}
use Rattle.vb_core.proofs.ballooned.has_bits.Goals as goal

pub returns : goal.returns
returns c = last_has_bit c.args.run c.args.words (c.from.result + c.from-2.result - 1) (omega arith)
    (omega arith)
