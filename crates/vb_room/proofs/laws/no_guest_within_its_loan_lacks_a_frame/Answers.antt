use Rattle.vb_room.proofs.Beside.{asking_first}
use Rattle.vb_room.proofs.laws.no_guest_within_its_loan_lacks_a_frame.Goals as goal

pub returns : goal.returns
returns c = record { covered = asking_first }
