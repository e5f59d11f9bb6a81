use Rattle.vb_model.proofs.Wanting.{claims_needed, needed_pages_bare}
use Rattle.vb_model.proofs.laws.claims_are_needed.Goals as goal

pub returns : goal.returns
returns c = record { needed = claims_needed; bare = needed_pages_bare }
