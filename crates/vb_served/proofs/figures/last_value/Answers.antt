use Rattle.std.{proofs.Common.{◌∙◌, ap, arith}, proofs.lemmas.List.take_all}
use Rattle.vb_served.specs.Store.{last_value}
use Rattle.vb_served.proofs.FigureLemmas.{figure_more}
use Rattle.vb_served.proofs.figures.last_value.Goals as goal

pub loop-k-preserved : goal.loop-k-preserved
loop-k-preserved c =
    figure_more c.args.tag c.args.figures.now c.loop-k.k _ c.loop-k.found c.later-found.result
    c.loop-k-test.true c.loop-k.invariant c.later-found.ensures

pub returns : goal.returns
returns c = c.loop-k.invariant ∙ ap (last_value c.args.tag)
    (take_all c.loop-k.k c.args.figures.now (omega (arith, c.loop-k-test.false)))
