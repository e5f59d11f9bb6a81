use Rattle.std.proofs.Common.{rules, refl, All, ◌<◌}
use Rattle.vb_run.specs.declared.report.GuestReport.{GuestReport}
use Rattle.vb_run.proofs.Lists.{all_next, all_whole}
use Rattle.vb_command.proofs.ports.are_within.Goals as goal

pub loop-report-preserved : goal.loop-report-preserved
loop-report-preserved c = all_next (λ (r : GuestReport). All
    (λ f. f < c.args.frames) r.frames.items) c.args.reports.now c.loop-report.report-index
    c.report-item.result (search rules) c.loop-report.invariant (search rules)

pub returns : goal.returns
returns c = (
  λ t. all_whole (λ (r : GuestReport). All (λ f. f < c.args.frames) r.frames.items)
      c.args.reports.now c.loop-report.report-index (search rules) c.loop-report.invariant,
  λ all. refl,
)
