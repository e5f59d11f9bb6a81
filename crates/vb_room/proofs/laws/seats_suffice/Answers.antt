use Rattle.vb_room.proofs.Seats.{seats_suffice}
use Rattle.vb_room.proofs.laws.seats_suffice.Goals as goal

pub returns : goal.returns
returns c = record { suffice = seats_suffice }
