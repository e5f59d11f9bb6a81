use Rattle.std.proofs.{Common.{◌+◌, arith}, lemmas.List.take_all}
use Rattle.vb_core.proofs.MarkLemmas.{none_of_one, put_no_run, put_next_run, put_in_runs}
use Rattle.vb_core.specs.Ballooned.{is_entering}
use Rattle.vb_core.proofs.ballooned.mark_runs.Goals as goal

pub loop-run-init : goal.loop-run-init
loop-run-init c = put_no_run c.args.runs.now (is_entering c.args.marking) c.args.set.now

pub mark_run-changed-requires : goal.mark_run-changed-requires
mark_run-changed-requires c = grind (arith, none_of_one)

pub overflow_add-changed : goal.overflow_add-changed
overflow_add-changed c =
    grind (
      arith,
      put_in_runs c.args.runs.now (c.loop-run.run-index + 1) (is_entering c.args.marking)
          c.args.set.now c.mark_run-changed.new.set (c.loop-run.changed + c.mark_run-changed.result) (put_next_run
          c.args.runs.now c.loop-run.run-index (record { first = 0; count = 0 })
          (is_entering c.args.marking) c.args.set.now c.loop-run.set c.mark_run-changed.new.set c.loop-run.changed
          c.mark_run-changed.result (omega arith) c.loop-run.invariant
          c.mark_run-changed.ensures.put c.mark_run-changed.ensures.small),
    )

pub loop-run-preserved : goal.loop-run-preserved
loop-run-preserved c = put_next_run c.args.runs.now c.loop-run.run-index
    (record { first = 0; count = 0 }) (is_entering c.args.marking) c.args.set.now c.loop-run.set
    c.mark_run-changed.new.set c.loop-run.changed c.mark_run-changed.result (omega arith)
    c.loop-run.invariant c.mark_run-changed.ensures.put c.mark_run-changed.ensures.small

pub returns : goal.returns
returns c = grind (arith, take_all)
