use Rattle.std.proofs.Common.{◌≡◌}
use Rattle.vb_monitor.{specs.Machine.{Fits, GoesOn, Ahead, whole}, specs.Left.left}
use Rattle.vb_monitor.specs.Steps.{phase_of, step_of}
use Rattle.vb_monitor.proofs.serving.Notice.serve_all.Given as goal

abbrev pub invariant-loop-outcome : goal.invariant-loop-outcome
invariant-loop-outcome g l = record {
  kind : l.self.kind ≡ l.fn.self.kind;
  fits : Fits (phase_of l.self.step);
  goes : GoesOn g.M.LiveMemory.goes l.fn.memory l.memory
      (λ after outcome. Ahead (whole l.regions l.fn.self.kind after outcome) (step_of l.fn.self.step)
      l.fn.device l.fn.room)
      (λ after outcome. Ahead (whole l.regions l.fn.self.kind after outcome) (step_of l.self.step)
      l.device l.room);
}

abbrev pub decreases-loop-outcome : goal.decreases-loop-outcome
decreases-loop-outcome g l = left l.regions (step_of l.self.step)
