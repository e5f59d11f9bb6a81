use Rattle.vb_status.proofs.Ways.{from_reset}
use Rattle.vb_status.proofs.laws.one_way_leads_to_ready.Goals as goal

pub returns : goal.returns
returns c = record { way = λ requests last leads steps e. from_reset requests last leads steps e }
