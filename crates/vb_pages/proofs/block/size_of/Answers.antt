use Rattle.{std.proofs.{Common.arith, lemmas.Nat.one_shl}, vb_pages.proofs.Aligned.pow_small}
use Rattle.vb_pages.proofs.block.size_of.Goals as goal

pub returns-clause-small : goal.returns-clause-small
returns-clause-small c =
    omega (arith, one_shl c.args.order 32 (omega arith), pow_small c.args.order c.requires)
