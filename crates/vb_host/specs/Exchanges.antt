-- What holds of each message that a process sends: what it may tell the lender's step.
use Rattle.std.specs.Prelude.{◌≡◌, ◌⊎◌, ℕ, ◌+◌, ◌≤◌, ◌<◌, true, false}
use Rattle.vb_host.specs.declared.message.Ask.TheVariants.{Nothing}
use Rattle.vb_host.specs.declared.message.Message.{Message}
use Rattle.vb_host.specs.declared.message.Exchange.{Exchange}
use Rattle.vb_host.specs.declared.seat.Seat.{Seat}
use Rattle.vb_host.specs.Messages.{ask_number, has_granted, is_new_ask, is_received, lingers}
use Rattle.vb_host.specs.Messages.{noted, plain_report, received_number, report_of}
use Rattle.vb_host.specs.Outside.{most_outside}
use Rattle.vb_host.specs.Seats.{due_grant}
use Rattle.vb_host.specs.System.{Process, snapshot}

-- A deflate that was granted stays what its process asks for as long as that holds it, whatever
-- that waits for beside: its grant is due, and it takes no other number.
abbrev pub GrantsStay : Type 0
GrantsStay =
    (now : ℕ) (x : Exchange) (m : Message) (s : Seat) → has_granted x m s ≡ true
    → (due_grant (report_of now x m s) s ≡ true) × (is_new_ask x m s ≡ false)

-- An ask that is another than before has a number that none before had (until 2^64 - 1 of them were
-- there).
abbrev pub NewAsksCount : Type 0
NewAsksCount =
    (now : ℕ) (x : Exchange) (m : Message) (s : Seat) → is_new_ask x m s ≡ true
    → (x.asks < (noted now x m s).asks) ⊎ (18446744073709551615 ≤ x.asks)

-- A report says that the driver has read the last target, by which the least one may rise, only if
-- that was sent and received, and the driver has read it, or its reads aren't seen and it has had
-- the time.
pub record HasRead (now : ℕ) (x : Exchange) (m : Message) (s : Seat) : Type 0 where
  pub received : is_received x m s ≡ true
  pub read : (m.read ≡ s.target + 1) ⊎ ((m.read ≡ 0) × (lingers now x ≡ false))

abbrev pub ReadsRaise : Type 0
ReadsRaise =
    (now : ℕ) (x : Exchange) (m : Message) (s : Seat)
    → (report_of now x m s).target_number ≡ s.target_number
    → (report_of now x m s).read_target ≡ s.target → HasRead now x m s

-- A strict guest's process that waits for nothing but its deflate says what it is.
pub record SaysWhatItIs (p : Process) (m : Message) : Type 0 where
  pub pages : m.pages ≡ p.pages
  pub ballooned : m.ballooned ≡ p.balloon
  pub target : m.target ≡ p.target
  pub read : m.read ≡ p.read_target + 1
  pub held : m.held ≡ p.held
  pub waits : m.waits ≡ ask_number Nothing
  pub line : p.line ≡ 0
  pub outside : m.outside ≡ p.outside

-- The lender has numbered its deflates, counts its memory, and doesn't keep what is outside by
-- itself.
pub record IsNumbered (p : Process) (x : Exchange) (m : Message) (s : Seat) : Type 0 where
  pub deflates : x.asks ≡ p.deflates
  pub removed : s.pages + s.removed ≡ p.pages + p.removed
  pub fewer : p.pages ≤ s.pages
  pub few : p.removed ≤ 18446744073709551615
  pub outside : p.outside ≤ most_outside (plain_report 0 x m s) s
  pub counts : s.uncounted ≡ 0

-- Then the report that is read of it is the one which it makes in the system, but for a target that
-- isn't known to be received.
abbrev pub MessagesAreSnapshots : Type 0
MessagesAreSnapshots =
    (now : ℕ) (p : Process) (x : Exchange) (m : Message) (s : Seat) → SaysWhatItIs p m
    → IsNumbered p x m s
    → report_of now x m s ≡ record (snapshot p) { target_number = received_number x m s }
