use Rattle.vb_monitor.specs.Still.{AreThese}
use Rattle.vb_monitor.proofs.StillParts.{served_by_bytes}
use Rattle.vb_monitor.proofs.laws.a_chain_is_served_by_its_bytes.Goals as goal

pub returns : goal.returns
returns c rest = served_by_bytes (AreThese rest)
