use Rattle.std.proofs.Common.{ap, sym, ◌∙◌, cond, arith}
use Rattle.vb_virtio.specs.Tests.{has_bit}
use Rattle.vb_core.specs.Ballooned.{is_entering}
use Rattle.vb_core.specs.declared.ballooned.Marking.{Marking}
use Rattle.vb_core.proofs.MarkLemmas.{or_bit, without_bit}
use Rattle.vb_core.proofs.ballooned.with_bits.Goals as goal

pub returns-in-Enter : goal.returns-in-Enter
returns-in-Enter c = λ b l. or_bit c.args.word c.args.bits b
    ∙ ap (λ (m : Marking). cond (has_bit c.args.bits b) (is_entering m) (has_bit c.args.word b))
    (sym c.in-Enter.is)

pub returns-in-Leave : goal.returns-in-Leave
returns-in-Leave c = grind (arith, without_bit)
