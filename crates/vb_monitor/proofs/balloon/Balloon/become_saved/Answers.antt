use Rattle.std.proofs.Common.{refl}
use Rattle.vb_monitor.proofs.balloon.Balloon.become_saved.Goals as goal

pub returns-then-not-fits_over : goal.returns-then-not-fits_over
returns-then-not-fits_over c = record {
  elsewhere = λ no. (refl, refl);
  goes_on = λ fits. absurd (c.if-not-fits_over.ensures.no refl fits);
}

pub returns : goal.returns
returns c = record {
  elsewhere = λ no. absurd (no (c.if-not-fits_over.ensures.yes refl));
  goes_on = λ fits. (refl, refl);
}
