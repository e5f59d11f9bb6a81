use Rattle.std.proofs.Common.{◌∙◌}
use Rattle.vb_monitor.proofs.{StepLemmas.goes_further}
use Rattle.vb_monitor.specs.Steps.{step_of}
use Rattle.vb_monitor.proofs.serving.Notice.serve_steps.Goals as goal

pub loop-preserved : goal.loop-preserved
loop-preserved g c =
    let l = c.loop in
    let n = c.serve_step.new in
    record {
      kind = c.serve_step.ensures.kind ∙ l.invariant.kind;
      fits = c.serve_step.ensures.fits;
      goes = goes_further g.M.LiveMemory.goes c.args.memory.now l.memory n.memory c.args.regions.now
          c.args.self.now.kind l.self.kind (step_of c.args.self.now.step) (step_of l.self.step) (step_of n.self.step)
          c.args.device.now l.device n.device
          c.args.room.now
          l.room n.room
          l.invariant.kind l.invariant.goes c.serve_step.ensures.step;
    }
