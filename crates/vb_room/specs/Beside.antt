-- A host and its lender, side by side: what the host makes sure of before each event, and that no
-- guest lacks a frame then.
use Rattle.std.specs.Prelude.{◌≡◌, ℕ, ◌+◌, ◌-◌, ◌≤◌, Bool, true, false, List, [], ◌∷◌, Some, None}
use Rattle.std.specs.Prelude.{⊤, replicate, slice_get}
use Rattle.vb_model.specs.declared.calls.Call.{Call}
use Rattle.vb_model.specs.declared.calls.Event.{Event}
use Rattle.vb_model.specs.declared.calls.Event.TheVariants.{Guest as OnGuest, Plug, Restart}
use Rattle.vb_virtio.specs.declared.refusals.Refusal.TheVariants.{NoFrame}
use Rattle.vb_model.specs.declared.replies.Reply.{Reply}
use Rattle.vb_model.specs.declared.replies.Reply.TheVariants.{Plugged, Refused}
use Rattle.vb_model.specs.Guest.{Guest, backed_count}
use Rattle.vb_model.specs.HostEvents.{WorldStep}
use Rattle.vb_model.specs.World.{World, guest_at, made}
use Rattle.vb_host.specs.declared.event.Event.{Event as SeatEvent}
use Rattle.vb_host.specs.declared.event.Event.TheVariants.{Hears, Arrives, Joins, TakesOver}
use Rattle.vb_host.specs.declared.event.Event.TheVariants.{Uncounts, Budget}
use Rattle.vb_host.specs.declared.seat.Seat.{Seat}
use Rattle.vb_host.specs.Lending.{Lending, happens, lent_at, owed, pages_at}
use Rattle.vb_host.specs.Seats.{newcomer}
use Rattle.vb_room.specs.Counts.{takes_out}
use Rattle.vb_room.specs.Tie.{HaveSeats, IsLent, counted, reclaimed_at}

-- ---- a host and its lender

pub record Both : Type 0 where
  pub world : World
  pub lending : Lending

-- What happens next: an event of the host, with its reply, or one of its lender. A step of the
-- lender is its event, then grants, then targets.
pub data Move : Type 0 where
  Plays : Event → Reply → Move
  Lends : SeatEvent → Move

-- each event is of one of the two, and leaves the other as it is
abbrev pub BothStep : Both → Move → Both → Type 0
BothStep b (Plays event reply) new =
    WorldStep b.world event reply new.world × (new.lending ≡ b.lending)
BothStep b (Lends event) new =
    (new.world ≡ b.world) × (new.lending ≡ happens b.lending event)

-- ---- what a host makes sure of that asks its lender first

-- Guest n holds no more frames than are lent to it: its kernel holds it to that.
abbrev pub IsHeld : ℕ → World → List Seat → Type 0
IsHeld n w seats = (g : Guest) → guest_at w.guests n ≡ Some g → backed_count g ≤ lent_at seats n

-- Of a guest without a limit the host asks first, and one with a limit its kernel holds.
pub record AsksOrHolds (limited : Bool) (asks holds : Type 0) : Type 0 where
  pub asked : limited ≡ false → asks
  pub held : limited ≡ true → holds

-- An event of the host, from world w to world v. A newcomer has a seat of its pages, and was
-- granted all of them. A restart leaves nothing in a balloon, so its guest was granted all its
-- pages, or its balloon was uncounted. Before a call that takes pages out of a balloon fewer pages
-- were reclaimed by as many: they were granted, or a target let them go, or the balloon was
-- uncounted. What a guest with a limit does its kernel ends, where that would hold more frames than
-- are lent to it.
abbrev pub EventIsAsked : (ℕ → Bool) → Event → Reply → World → World → List Seat → Type 0
EventIsAsked limited (Plug size) (Plugged n) w v seats =
    (pages_at seats n ≡ size.pages) × (limited n ≡ false → reclaimed_at seats n ≡ 0)
EventIsAsked limited (Restart n) reply w v seats =
    AsksOrHolds (limited n) (reclaimed_at seats n ≡ 0) (IsHeld n v seats)
EventIsAsked limited (OnGuest n call) reply w v seats =
    AsksOrHolds (limited n)
    ((g : Guest) → guest_at w.guests n ≡ Some g
    → reclaimed_at seats n ≤ counted g - takes_out call g)
    (IsHeld n v seats)
EventIsAsked limited event reply w v seats = ⊤

-- What a report says of guest n is so: after it the seat has the guest's pages, and no more of them
-- are reclaimed than are in the balloon; or its kernel holds it to what is lent to it then.
pub record IsTrue (limited : Bool) (n : ℕ) (w : World) (seats : List Seat) : Type 0 where
  pub pages : (g : Guest) → guest_at w.guests n ≡ Some g → pages_at seats n ≡ g.config.pages
  pub reclaimed : limited ≡ false → (g : Guest) → guest_at w.guests n ≡ Some g
      → reclaimed_at seats n ≤ counted g
  pub held : limited ≡ true → IsHeld n w seats

-- Before an event of the lender. A guest arrives before it is plugged in, and goes once it was
-- unplugged. A guest's memory never changes, so none joins one that is there. A report is true. A
-- later lender has lent no more than the host's frames by what it was told, nor where it uncounts a
-- balloon; and a budget with the overdraft is no more than those.
abbrev pub LoanIsAsked : (ℕ → Bool) → SeatEvent → Both → Type 0
LoanIsAsked limited (Arrives n pages ballooned) b = guest_at b.world.guests n ≡ None
LoanIsAsked limited (Joins n m) b =
    (guest_at b.world.guests n ≡ None) × (guest_at b.world.guests m ≡ None)
LoanIsAsked limited (Hears n r) b =
    IsTrue (limited n) n b.world (happens b.lending (Hears n r)).seats
LoanIsAsked limited (TakesOver n pages r) b =
    IsTrue (limited n) n b.world (happens b.lending (TakesOver n pages r)).seats
    × (owed (happens b.lending (TakesOver n pages r)).seats ≤ b.world.frames)
LoanIsAsked limited (Uncounts n) b =
    owed (happens b.lending (Uncounts n)).seats ≤ b.world.frames
LoanIsAsked limited (Budget frames) b = frames + b.lending.overdraft ≤ b.world.frames
LoanIsAsked limited event b = ⊤

abbrev pub AsksFirst : (ℕ → Bool) → Both → Move → Both → Type 0
AsksFirst limited b (Plays event reply) new =
    EventIsAsked limited event reply b.world new.world b.lending.seats
AsksFirst limited b (Lends event) new = LoanIsAsked limited event b

-- ---- a run of both

-- from the state before, a host that asks its lender first may come through these states
abbrev pub BothSteps : (ℕ → Bool) → Both → List Move → List Both → Type 0
BothSteps limited b [] [] = ⊤
BothSteps limited b (move ∷ moves) (next ∷ after) =
    AsksFirst limited b move next × BothStep b move next × BothSteps limited next moves after
BothSteps limited b moves after = ⊥

-- a host as made, whose lender has this budget and overdraft, and places for this many guests
abbrev pub opened : (frames : ℕ) (spares : List Bool) (budget overdraft places : ℕ) → Both
opened frames spares budget overdraft places = record {
  world = made frames spares;
  lending = record {
    frames = budget;
    overdraft = overdraft;
    seats = replicate places (newcomer 0);
  };
}

-- ---- what holds then

-- In a state what is lent to all guests together is no more than the frames, each guest has its
-- seat, and no call is refused for lack of a frame: of a guest without a limit none but a scribble,
-- and none at all of a guest of which nothing is reclaimed.
pub record IsCovered (limited : ℕ → Bool) (b : Both) : Type 0 where
  pub within : owed b.lending.seats ≤ b.world.frames
  pub seats : HaveSeats limited b.lending.seats b.world
  pub none_lacks : (n : ℕ) (call : Call) (v : World) → IsLent limited b.lending.seats n call
      → ¬ WorldStep b.world (OnGuest n call) (Refused NoFrame) v

-- In each state of each run, whichever guests have a limit.
abbrev pub AskingFirstSuffices : Type 0
AskingFirstSuffices =
    (limited : ℕ → Bool) (frames budget overdraft places : ℕ) (spares : List Bool)
    (moves : List Move) (after : List Both) → budget + overdraft ≤ frames
    → BothSteps limited (opened frames spares budget overdraft places) moves after
    → (i : ℕ) (b : Both)
    → slice_get (opened frames spares budget overdraft places ∷ after) i ≡ Some b
    → IsCovered limited b
