use Rattle.vb_monitor.specs.Steps.{phase_of}
use Rattle.vb_monitor.proofs.progress.Progress.phase.Goals as goal

pub returns : goal.returns
unfolding phase_of
returns c = c.numbered.ensures
