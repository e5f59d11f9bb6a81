-- What the exports for a host's lender answer: what the lender's step makes of plain numbers.
use Rattle.std.specs.Prelude.{◌≡◌, ◌⊎◌, ℕ, ◌<◌, ◌==◌, if◌then◌else◌, List, length}
use Rattle.std.specs.Prelude.{Option, Some, None}
use Rattle.vb_core.specs.declared.device.Denial.TheVariants.{BadArgument}
use Rattle.vb_host.specs.declared.event.Event.{Event}
use Rattle.vb_host.specs.declared.event.Event.TheVariants.{Hears, Grants, Overdraws, Wants, Targets}
use Rattle.vb_host.specs.declared.event.Event.TheVariants.{Arrives, Joins, TakesOver, Uncounts}
use Rattle.vb_host.specs.declared.event.Event.TheVariants.{Budget, Prefers, Defers}
use Rattle.vb_host.specs.declared.seat.Seat.{Seat}
use Rattle.vb_host.specs.Lending.{Lending, happens, held_at}
use Rattle.vb_host.specs.Line.{IsFirst, IsStep}
use Rattle.vb_c.specs.declared.seats.VbHost.{VbHost}
use Rattle.vb_c.specs.declared.seats.VbHostEvent.{VbHostEvent}
use Rattle.vb_c.specs.declared.seats.VbRelief.{VbRelief}
use Rattle.vb_monitor.specs.Codes.{code_of}

-- the event of a kind, as vb_host.h numbers them, with the fields that it reads
abbrev pub event_of : VbHostEvent → Option Event
event_of e =
    if e.kind == 1 then Some (Hears e.guest e.report)
    else if e.kind == 2 then Some (Grants e.guest)
    else if e.kind == 3 then Some (Overdraws e.guest)
    else if e.kind == 4 then Some (Wants e.guest e.pages)
    else if e.kind == 5 then Some (Targets e.guest)
    else if e.kind == 6 then Some (Arrives e.guest e.pages e.ballooned)
    else if e.kind == 7 then Some (Joins e.guest e.added)
    else if e.kind == 8 then Some (TakesOver e.guest e.pages e.report)
    else if e.kind == 9 then Some (Uncounts e.guest)
    else if e.kind == 10 then Some (Budget e.frames)
    else if e.kind == 11 then Some (Prefers e.guest)
    else if e.kind == 12 then Some (Defers e.guest)
    else None

abbrev pub lending_of : VbHost → List Seat → Lending
lending_of host seats =
    record { frames = host.frames; overdraft = host.overdraft; seats = seats }

-- The step of the event that the kind names, or nothing is changed where it names none.
pub record StepsFor (host_old host_new : VbHost) (old new : List Seat) (event : VbHostEvent)
    (result : ℕ) : Type 0 where
  pub refused : event_of event ≡ None
      → (result ≡ code_of BadArgument) × (host_new ≡ host_old) × (new ≡ old)
  pub stepped : (e : Event) → event_of event ≡ Some e
      → (result ≡ 0) × IsStep (lending_of host_old old) e (lending_of host_new new)

-- The event alone.
pub record HappensFor (host_old host_new : VbHost) (old new : List Seat) (event : VbHostEvent)
    (result : ℕ) : Type 0 where
  pub refused : event_of event ≡ None
      → (result ≡ code_of BadArgument) × (host_new ≡ host_old) × (new ≡ old)
  pub happened : (e : Event) → event_of event ≡ Some e
      → (result ≡ 0) × (lending_of host_new new ≡ happens (lending_of host_old old) e)

-- The place of the guest that waits first; 2^64 - 1 where no guest waits.
abbrev pub FirstFor : List Seat → ℕ → Type 0
FirstFor seats result =
    ((result ≡ 18446744073709551615) × ((n : ℕ) → held_at seats n ≡ 0))
    ⊎ ((result < length seats) × IsFirst seats result)

-- The event by which a host is helped, by its kind and guest; of kind 0 where none is due.
abbrev pub relief_of : Option Event → VbRelief
relief_of (Some (Overdraws n)) = record { kind = 3; guest = n }
relief_of (Some (Prefers n)) = record { kind = 11; guest = n }
relief_of (Some (Defers n)) = record { kind = 12; guest = n }
relief_of _ = record { kind = 0; guest = 0 }
