use Rattle.std.proofs.Common.{arith}
use Rattle.vb_bits.proofs.Bits.{none_from, found_from}
use Rattle.vb_bits.proofs.word.lowest_from.Goals as goal

pub returns-then-rest-eq0 : goal.returns-then-rest-eq0
returns-then-rest-eq0 c = none_from c.args.word c.args.bit (omega arith) c.if-rest-eq0.true

pub returns-else-rest-eq0 : goal.returns-else-rest-eq0
returns-else-rest-eq0 c =
    found_from c.args.word c.args.bit (omega arith) c.ranges.word.fits (omega arith)
