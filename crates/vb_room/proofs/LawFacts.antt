-- What each law says of one case of its own.
use Rattle.std.proofs.Common.{◌≡◌, inl, inr, ◌≤◌, true, List, [], ◌∷◌, refl, arith}
use Rattle.std.specs.Prelude.{None, Some, slice_get}
use Rattle.vb_model.specs.declared.calls.Call.TheVariants.{Scribble, Work, Write}
use Rattle.vb_model.specs.declared.calls.Event.TheVariants.{Frames as CountFrames, Guest as OnGuest}
use Rattle.vb_virtio.specs.declared.refusals.Refusal.TheVariants.{NoFrame}
use Rattle.vb_model.specs.declared.replies.Reply.TheVariants.{Done, Frames, Refused}
use Rattle.vb_model.specs.Guest.{Guest, frame_of, is_ballooned, tells_host}
use Rattle.vb_model.specs.HostEvents.{WorldStep}
use Rattle.vb_model.specs.Run.{History, Run, states}
use Rattle.vb_model.specs.Safe.{IsHonest}
use Rattle.vb_model.specs.World.{World, guest_at}
use Rattle.vb_host.specs.declared.event.Event.TheVariants.{Targets}
use Rattle.vb_host.specs.declared.seat.Seat.{Seat}
use Rattle.vb_host.specs.Lending.{Lending, happens, owed}
use Rattle.vb_room.proofs.BesideFacts.{first_moves, first_guest, first_states, none, plugged}
use Rattle.vb_room.specs.Beside.{AskingFirstSuffices}
use Rattle.vb_room.specs.Counts.{CallsCountSo}
use Rattle.vb_room.specs.Room.{BalloonsAreBare, NoneLacksAFrame, all_may_hold}
use Rattle.vb_room.specs.Tie.{EventsLeaveSeats, HaveSeats, LowersNone, SeatEventsLeaveSeats, SeatsSuffice, counted, reclaimed_at}

-- page 20 of guest 1 in state 7
bare : BalloonsAreBare → (h : History) → Run 9 (true ∷ []) h → (g : Guest) → IsHonest h 1 7 g → tells_host g ≡ true
    → is_ballooned g.ballooned 20 ≡ true → frame_of g.frames 20 ≡ None
bare law h r g honest told = law 9 (true ∷ []) h r 1 7 g honest told 20

-- a write of guest 1 in state 7, and a rogue guest's scribble
none_lacks : NoneLacksAFrame → (h : History) → Run 9 (true ∷ []) h → (w v : World) (g : Guest) → slice_get (states h) 7 ≡ Some w
    → guest_at w.guests 1 ≡ Some g → all_may_hold w ≤ w.frames
    → (¬ WorldStep w (OnGuest 1 (Write 20 0 (1 ∷ []))) (Refused NoFrame) v)
    × (g.rogue ≡ true → ¬ WorldStep w (OnGuest 1 (Scribble 20 0 (1 ∷ []))) (Refused NoFrame) v)
none_lacks law h r w v g at here fits = (
  law 9 (true ∷ []) h r 1 7 w v (Write 20 0 (1 ∷ [])) g at here fits (inl refl),
  λ rogue. law 9 (true ∷ []) h r 1 7 w v (Scribble 20 0 (1 ∷ [])) g at here fits (inr rogue),
)

-- a write of guest 1 in state 7, which has no limit, and a scribble of a guest of which nothing is
-- reclaimed
suffice : SeatsSuffice → (h : History) → Run 9 (true ∷ []) h → (w v : World) → slice_get (states h) 7 ≡ Some w
    → (seats : List Seat) → HaveSeats none seats w → owed seats ≤ w.frames
    → (¬ WorldStep w (OnGuest 1 (Write 20 0 (1 ∷ []))) (Refused NoFrame) v)
    × (reclaimed_at seats 1 ≡ 0 → ¬ WorldStep w (OnGuest 1 (Scribble 20 0 (1 ∷ []))) (Refused NoFrame) v)
suffice law h r w v at seats have fits = (
  law 9 (true ∷ []) h r none seats 1 7 w v (Write 20 0 (1 ∷ [])) at have fits (inl (refl, refl)),
  λ bare. law 9 (true ∷ []) h r none seats 1 7 w v (Scribble 20 0 (1 ∷ [])) at have fits (inr bare),
)

events_leave : EventsLeaveSeats → (w v : World) (seats : List Seat) → WorldStep w CountFrames (Frames 0 9) v → LowersNone w v
    → HaveSeats none seats w → HaveSeats none seats v
events_leave law w v seats = law none w CountFrames (Frames 0 9) v seats

lender_leaves : SeatEventsLeaveSeats → (l : Lending) (w : World) → HaveSeats none l.seats w → HaveSeats none (happens l (Targets 1)).seats w
lender_leaves law l w = law none l (Targets 1) w tt

-- a call that finishes nothing leaves the count, both ways
counts : CallsCountSo → (h : History) → Run 9 (true ∷ []) h → (w v : World) (g new : Guest) → slice_get (states h) 7 ≡ Some w
    → WorldStep w (OnGuest 1 Work) Done v → guest_at w.guests 1 ≡ Some g → guest_at v.guests 1 ≡ Some new
    → counted new ≡ counted g
counts law h r w v g new at step here there =
    let c = law 9 (true ∷ []) h r 1 7 w v Work Done g new at step here there in omega (arith, c.least, c.most)

-- the run of the first guest: its end, and no other call lacks a frame there
covered : AskingFirstSuffices → (v : World) → (owed plugged.lending.seats ≤ 100)
    × (¬ WorldStep plugged.world (OnGuest 0 (Write 20 0 (1 ∷ []))) (Refused NoFrame) v)
    × (¬ WorldStep plugged.world (OnGuest 0 (Scribble 20 0 (1 ∷ []))) (Refused NoFrame) v)
covered law v = let c = law none 100 80 9 1 (true ∷ []) first_moves first_states (omega arith) first_guest 4 plugged refl in (
  c.within,
  c.none_lacks 0 (Write 20 0 (1 ∷ [])) v (inl (refl, refl)),
  c.none_lacks 0 (Scribble 20 0 (1 ∷ [])) v (inr refl),
)
