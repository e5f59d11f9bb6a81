use Rattle.std.proofs.Common.{subst, ◌++◌}
use Rattle.vb_monitor.specs.{Machine.{Ahead, Does, whole}, declared.room.Room.Room}
use Rattle.vb_monitor.specs.declared.step.Phase.{Phase}
use Rattle.vb_monitor.specs.Steps.{step_of}
use Rattle.vb_monitor.proofs.serving.Notice.serve_step.Goals as goal

pub returns-clause-step : goal.returns-clause-step
returns-clause-step g c = let done = c.perform-answer.ensures.does in record {
  log = done.log;
  steps = done.steps;
  is = λ after outcome rest h.
      subst (λ (r : Room). Ahead (whole c.args.regions.now c.args.self.now.kind after outcome)
      (step_of c.args.self.now.step) c.args.device.now (record r { bytes = c.args.room.now.bytes })
      (done.log ++ rest)) c.perform-answer.ensures.stays
      (c.next.ensures.step after outcome c.args.room.now.bytes done.log rest
      (subst (λ (p : Phase). Does p c.args.self.now.kind c.perform-answer.result
      c.args.room.now.bytes c.perform-answer.new.room done.log) c.phase.ensures done.is) h);
}
