use Rattle.vb_room.proofs.Called.{calls_count_so}
use Rattle.vb_room.proofs.laws.calls_count_so.Goals as goal

pub returns : goal.returns
returns c = record { so = calls_count_so }
