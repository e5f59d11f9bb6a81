use Rattle.std.proofs.Common.{refl, arith}
use Rattle.vb_monitor.specs.Steps.{phase_of}
use Rattle.vb_monitor.proofs.progress.Progress.pause.Goals as goal

pub returns : goal.returns
unfolding phase_of
returns c = record {
  step = λ w d room log h. h;
  fits = tt;
  stage = refl;
  left = λ regions. omega arith;
}
