use Rattle.std.{proofs.Common.{◌∙◌, sym, ap, arith, length}, proofs.lemmas.Bool.cases_eq}
use Rattle.vb_ring.{specs.Ends.is_unused, proofs.Numbers.{numbers_none, numbers_first}}
use Rattle.vb_ring.proofs.owners.Owners.lowest_free.Goals as goal

pub is_free-requires : goal.is_free-requires
is_free-requires c = omega (arith, ap length c.self.view_is, c.self.invariant.size)

pub loop-i-preserved : goal.loop-i-preserved
loop-i-preserved c j h = grind (arith, cases_eq)

pub returns-then-is_free : goal.returns-then-is_free
returns-then-is_free c = sym (numbers_first (is_unused c.args.self.now) _ c.loop-i.i
    (omega (arith, ap length c.self.view_is, c.self.invariant.size))
    (sym c.is_free.ensures ∙ c.if-is_free.true) c.loop-i.invariant)

pub returns : goal.returns
returns c = grind (arith, numbers_none)
