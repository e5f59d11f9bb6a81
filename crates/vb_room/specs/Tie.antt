-- What a host's lender knows of its guests, and what they may hold.
use Rattle.std.specs.Prelude.{◌≡◌, ◌⊎◌, ℕ, ◌≤◌, Bool, true, false, not, ◌&&◌, if◌then◌else◌, ⊤}
use Rattle.std.specs.Prelude.{List, Some, slice_get}
use Rattle.vb_model.specs.declared.calls.Call.{Call}
use Rattle.vb_model.specs.declared.calls.Event.{Event}
use Rattle.vb_model.specs.declared.calls.Event.TheVariants.{Guest as OnGuest}
use Rattle.vb_virtio.specs.declared.refusals.Refusal.TheVariants.{NoFrame}
use Rattle.vb_model.specs.declared.replies.Reply.{Reply}
use Rattle.vb_model.specs.declared.replies.Reply.TheVariants.{Refused}
use Rattle.vb_model.specs.Guest.{Guest, backed_count, ballooned_count, tells_host}
use Rattle.vb_model.specs.World.{World, guest_at}
use Rattle.vb_model.specs.HostEvents.{WorldStep}
use Rattle.vb_model.specs.Run.{History, Run, states}
use Rattle.vb_host.specs.declared.event.Event.{Event as SeatEvent}
use Rattle.vb_host.specs.declared.event.Event.TheVariants.{Hears, Arrives, Joins, TakesOver}
use Rattle.vb_host.specs.declared.seat.Seat.{Seat}
use Rattle.vb_host.specs.Lending.{Lending, happens, owed, value_at}
use Rattle.vb_host.specs.Seats.{lent, reclaimed}
use Rattle.vb_room.specs.Room.{is_scribble}

-- how many pages of a guest its seat may call reclaimed
abbrev pub counted : Guest → ℕ
counted g = if not g.rogue && tells_host g then ballooned_count g else 0

-- The seat has the guest's pages. Of a guest without a limit, no more of them are reclaimed than
-- its device has in the balloon; of a rogue guest, or one that hasn't agreed to tell the host,
-- none. A guest with a limit holds no more frames than are lent to it, whatever its balloon has.
pub record IsSeatOf (limited : Bool) (s : Seat) (g : Guest) : Type 0 where
  pub pages : s.pages ≡ g.config.pages
  pub reclaimed : limited ≡ false → reclaimed s ≤ counted g
  pub held : limited ≡ true → backed_count g ≤ lent s

-- each guest has its seat at its number
abbrev pub HaveSeats : (ℕ → Bool) → List Seat → World → Type 0
HaveSeats limited seats w = (n : ℕ) (g : Guest) → guest_at w.guests n ≡ Some g
    → (s : Seat) × (slice_get seats n ≡ Some s) × IsSeatOf (limited n) s g

-- how many pages of guest n are reclaimed
abbrev pub reclaimed_at : List Seat → ℕ → ℕ
reclaimed_at seats n = value_at reclaimed seats n

-- A call of guest n that takes no more frames than are lent to the guest: one of a guest without a
-- limit, but for a scribble, and any of a guest of which nothing is reclaimed.
abbrev pub IsLent : (ℕ → Bool) → List Seat → ℕ → Call → Type 0
IsLent limited seats n call =
    ((limited n ≡ false) × (is_scribble call ≡ false)) ⊎ (reclaimed_at seats n ≡ 0)

-- Where a host has lent no more than its frames, no such call lacks one.
abbrev pub SeatsSuffice : Type 0
SeatsSuffice =
    (frames : ℕ) (spares : List Bool) (h : History) → Run frames spares h
    → (limited : ℕ → Bool) (seats : List Seat) (n i : ℕ) (w v : World) (call : Call)
    → slice_get (states h) i ≡ Some w → HaveSeats limited seats w → owed seats ≤ w.frames
    → IsLent limited seats n call → ¬ WorldStep w (OnGuest n call) (Refused NoFrame) v

-- ---- what keeps the seats those of the guests

-- From one world to the next no guest comes, of none less is counted as ballooned, and none holds
-- more frames.
abbrev pub LowersNone : World → World → Type 0
LowersNone w v = (n : ℕ) (new : Guest) → guest_at v.guests n ≡ Some new
    → (old : Guest) × (guest_at w.guests n ≡ Some old) × (counted old ≤ counted new)
    × (backed_count new ≤ backed_count old)

-- An event of the world that lowers none leaves the seats.
abbrev pub EventsLeaveSeats : Type 0
EventsLeaveSeats = (limited : ℕ → Bool) (w : World) (event : Event) (reply : Reply) (v : World)
    (seats : List Seat) → WorldStep w event reply v → LowersNone w v
    → HaveSeats limited seats w → HaveSeats limited seats v

-- grants, overdrafts, targets and what is wanted, uncounting, budgets and preferences
abbrev pub ReclaimsNone : SeatEvent → Type 0
ReclaimsNone (Hears n r) = ⊥
ReclaimsNone (Arrives n pages ballooned) = ⊥
ReclaimsNone (Joins n m) = ⊥
ReclaimsNone (TakesOver n pages r) = ⊥
ReclaimsNone _ = ⊤

-- What happens to the lender leaves them too; but for what comes, goes or gets another memory, and
-- for reports.
abbrev pub SeatEventsLeaveSeats : Type 0
SeatEventsLeaveSeats = (limited : ℕ → Bool) (l : Lending) (e : SeatEvent) (w : World)
    → ReclaimsNone e → HaveSeats limited l.seats w → HaveSeats limited (happens l e).seats w
