use Rattle.vb_core.proofs.PieceLemmas.{many_readable, many_long}
use Rattle.vb_core.proofs.report.fault_of_many.Goals as goal

pub returns-then-any_readable : goal.returns-then-any_readable
returns-then-any_readable c = many_readable c.args.pieces.now c.any_readable.result
    c.any_readable.ensures c.if-any_readable.true

pub returns : goal.returns
returns c = many_long c.args.pieces.now c.any_readable.result c.any_readable.ensures
    c.if-any_readable.false c.requires
