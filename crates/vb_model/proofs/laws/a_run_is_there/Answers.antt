use Rattle.std.proofs.Common.{refl}
use Rattle.vb_model.proofs.Witness.{started, starts}
use Rattle.vb_model.proofs.laws.a_run_is_there.Goals as goal

pub returns : goal.returns
returns c = record { run = (started, starts, refl) }
