use Rattle.std.proofs.Common.{◌≡◌}
use Rattle.vb_monitor.specs.Machine.{Fits, GoesOn, Ahead, whole}
use Rattle.vb_monitor.specs.Steps.{phase_of, step_of}
use Rattle.vb_monitor.proofs.serving.Notice.serve_steps.Given as goal

abbrev pub invariant-loop : goal.invariant-loop
invariant-loop g l = record {
  kind : l.self.kind ≡ l.fn.self.kind;
  fits : Fits (phase_of l.self.step);
  goes : GoesOn g.M.LiveMemory.goes l.fn.memory l.memory
      (λ after outcome. Ahead (whole l.regions l.fn.self.kind after outcome) (step_of l.fn.self.step)
      l.fn.device l.fn.room)
      (λ after outcome. Ahead (whole l.regions l.fn.self.kind after outcome) (step_of l.self.step)
      l.device l.room);
}
