use Rattle.vb_model.proofs.Faults.{not_broken}
use Rattle.vb_model.proofs.laws.honest_guests_meet_no_fault.Goals as goal

pub returns : goal.returns
returns c = record { none = not_broken }
