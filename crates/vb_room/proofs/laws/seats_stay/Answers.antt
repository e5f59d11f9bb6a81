use Rattle.vb_room.proofs.Stay.{events_leave_seats, seat_events_leave_seats}
use Rattle.vb_room.proofs.laws.seats_stay.Goals as goal

pub returns : goal.returns
returns c = record { events = events_leave_seats; seats = seat_events_leave_seats }
