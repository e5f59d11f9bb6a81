use Rattle.std.proofs.Common.{◌∙◌, List, ap, refl, arith}
use Rattle.std.proofs.lemmas.List.{take_all}
use Rattle.vb_core.specs.declared.runs.Run.{Run}
use Rattle.vb_core.specs.Ballooned.{is_entering}
use Rattle.vb_core.specs.Runs.{pages_of_runs}
use Rattle.vb_device.specs.Discards.{flagged}
use Rattle.vb_device.proofs.Marks.{flagged_none}
use Rattle.vb_served.proofs.MarkLemmas.{runs_more}
use Rattle.vb_served.proofs.marking.mark_runs.Goals as goal

pub loop-k-init : goal.loop-k-init
loop-k-init c = flagged_none (is_entering c.args.marking) c.args.ballooned.now

pub loop-k-preserved : goal.loop-k-preserved
loop-k-preserved c =
    runs_more c.args.runs.now c.loop-k.k _ _ (is_entering c.args.marking) c.args.ballooned.now
    c.loop-k.ballooned c.mark_run.new.ballooned c.loop-k-test.true refl c.loop-k.invariant
    c.mark_run.ensures

pub returns : goal.returns
returns c = c.loop-k.invariant
    ∙ ap (λ (rs : List Run). flagged (pages_of_runs rs) (is_entering c.args.marking)
    c.args.ballooned.now) (take_all c.loop-k.k c.args.runs.now (omega (arith, c.loop-k-test.false)))
