use Rattle.std.proofs.Common.{rules, sym, ◌∙◌}
use Rattle.vb_monitor.specs.Machine.{Ahead, whole}
use Rattle.vb_monitor.proofs.{StepLemmas.{ended_so, goes_further}, LeftLemmas.not_over}
use Rattle.vb_monitor.specs.Steps.{phase_of, tally_of, step_of}
use Rattle.vb_monitor.proofs.serving.Notice.serve_all.Goals as goal

pub loop-outcome-smaller : goal.loop-outcome-smaller
loop-outcome-smaller g c =
    c.serve_step.ensures.left
    (not_over (phase_of c.loop-outcome.self.step) (tally_of c.loop-outcome.self.step) (search rules))

pub returns-in-Some : goal.returns-in-Some
returns-in-Some g c =
    ended_so g.M.LiveMemory.goes c.args.memory.now c.loop-outcome.memory c.in-Some.outcome
    c.args.regions.now c.args.self.now.kind
    (λ after outcome. Ahead (whole c.args.regions.now c.args.self.now.kind after outcome)
    (step_of c.args.self.now.step) c.args.device.now c.args.room.now) (step_of c.loop-outcome.self.step) c.loop-outcome.device _
    (sym c.in-Some.is ∙ c.outcome.ensures) c.loop-outcome.invariant.goes

pub loop-outcome-preserved : goal.loop-outcome-preserved
loop-outcome-preserved g c =
    let l = c.loop-outcome in
    let n = c.serve_step.new in
    record {
      kind = c.serve_step.ensures.kind ∙ l.invariant.kind;
      fits = c.serve_step.ensures.fits;
      goes = goes_further g.M.LiveMemory.goes c.args.memory.now l.memory n.memory c.args.regions.now
          c.args.self.now.kind l.self.kind (step_of c.args.self.now.step) (step_of l.self.step) (step_of n.self.step)
          c.args.device.now l.device n.device
          c.args.room.now
          l.room n.room
          l.invariant.kind l.invariant.goes c.serve_step.ensures.step;
    }
