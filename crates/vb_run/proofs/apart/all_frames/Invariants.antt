use Rattle.vb_virtio.specs.Tests.{times}
use Rattle.std.proofs.Common.{◌≡◌, ℕ, take}
use Rattle.std.specs.Prelude.{sum_by}
use Rattle.vb_run.proofs.apart.all_frames.Given as goal

abbrev pub invariant-loop-report : goal.invariant-loop-report
invariant-loop-report l = (frame : ℕ) → times frame l.all.items
    ≡ sum_by (λ r. times frame r.frames.items) (take l.report-index l.reports)
