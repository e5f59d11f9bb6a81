use Rattle.vb_model.proofs.Runs.{run_is_unreserved}
use Rattle.vb_model.proofs.laws.reserved_pages_are_never_ballooned.Goals as goal

pub returns : goal.returns
returns c = record { reserved = run_is_unreserved }
