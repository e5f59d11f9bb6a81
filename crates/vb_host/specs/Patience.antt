-- A guest that waits and lets others pass: who may pass it, and for how long.
use Rattle.std.specs.Prelude.{◌≡◌, ◌≢◌, ◌⊎◌, ℕ, ◌<◌, ⊤, List}
use Rattle.vb_host.specs.declared.event.Event.{Event}
use Rattle.vb_host.specs.declared.event.Event.TheVariants.{Defers}
use Rattle.vb_host.specs.declared.report.WaitingLine.TheVariants.{Arrivals}
use Rattle.vb_host.specs.declared.seat.Seat.{Seat}
use Rattle.vb_host.specs.Lending.{Lending, happens, held_at, line_at, next_turn, preferred_at}
use Rattle.vb_host.specs.Lending.{rank_at, value_at}
use Rattle.vb_host.specs.Promises.{IsStillThere}
use Rattle.vb_host.specs.Seats.{line_number}
use Rattle.vb_host.specs.Turns.{IsAfter, IsNoPreference}

abbrev pub deferred_at : List Seat → ℕ → ℕ
deferred_at seats n = value_at (λ s. s.deferred) seats n

-- ---- its event

-- Where a guest doesn't wait, or waits in the line of deflates, nothing changes.
abbrev pub DefersNone : Type 0
DefersNone =
    (l : Lending) (n : ℕ) → (held_at l.seats n ≡ 0) ⊎ (line_at l.seats n ≡ 0)
    → happens l (Defers n) ≡ l

-- Guest n waits in the last line.
pub record IsInLastLine (seats : List Seat) (n : ℕ) : Type 0 where
  pub waits : 0 < held_at seats n
  pub line : line_at seats n ≡ line_number Arrivals
  pub deferred : 0 < deferred_at seats n

abbrev pub DefersToTheLastLine : Type 0
DefersToTheLastLine =
    (l : Lending) (n : ℕ) → 0 < held_at l.seats n → 0 < line_at l.seats n
    → IsInLastLine (happens l (Defers n)).seats n

-- Unless it is preferred, all others that wait come before it then (until 2^64 - 1 turns were
-- given): those pass it that came after it before.
abbrev pub AllPass : Type 0
AllPass =
    (l : Lending) (n k : ℕ) → 0 < held_at l.seats n → 0 < line_at l.seats n
    → preferred_at l.seats n ≡ 0 → k ≢ n → 0 < held_at l.seats k
    → (rank_at (happens l (Defers n)).seats k < rank_at (happens l (Defers n)).seats n)
    ⊎ (next_turn l.seats ≡ 18446744073709551615)

-- No other guest's seat changes, so the order of all others stays.
abbrev pub OthersStay : Type 0
OthersStay =
    (l : Lending) (n k : ℕ) (value : Seat → ℕ) → k ≢ n
    → value_at value (happens l (Defers n)).seats k ≡ value_at value l.seats k

-- ---- after it

-- Guest i waits on, in the deflate and in the line of its process that it waited in.
pub record WaitsOn (old new : List Seat) (i : ℕ) : Type 0 where
  pub waited : 0 < held_at old i
  pub waits : 0 < held_at new i
  pub deflate : value_at (λ s. s.deflates) new i ≡ value_at (λ s. s.deflates) old i
  pub line : value_at (λ s. s.line) new i ≡ value_at (λ s. s.line) old i

-- Guest i lets no others pass by an event.
abbrev pub IsNoDeferral : ℕ → Event → Type 0
IsNoDeferral i (Defers n) = i ≢ n
IsNoDeferral i _ = ⊤

-- While a guest waits on, none that comes after it passes it by any other event, but for one that
-- comes to an earlier line, and one that is preferred (until 2^64 - 1 turns were given). So all
-- pass it once for each time that it lets them.
abbrev pub NonePasses : Type 0
NonePasses =
    (l : Lending) (e : Event) (i j : ℕ) → IsNoDeferral i e → IsNoPreference e → IsStillThere i e
    → WaitsOn l.seats (happens l e).seats i → preferred_at (happens l e).seats j ≡ 0
    → IsAfter l.seats i j → IsAfter (happens l e).seats i j
    ⊎ (line_at (happens l e).seats j < line_at (happens l e).seats i)
    ⊎ (next_turn l.seats ≡ 18446744073709551615)

-- It lets others pass as long as it waits on, and no longer: where a guest does after an event, and
-- waited if it did before, that is by its event, or it waits on.
abbrev pub StaysDeferred : Type 0
StaysDeferred =
    (l : Lending) (e : Event) (i : ℕ) → IsNoDeferral i e → IsStillThere i e
    → WaitsOn l.seats (happens l e).seats i
    → deferred_at (happens l e).seats i ≡ deferred_at l.seats i

abbrev pub EndsWithItsWait : Type 0
EndsWithItsWait =
    (l : Lending) (e : Event) (i : ℕ) → (0 < deferred_at l.seats i → 0 < held_at l.seats i)
    → IsNoDeferral i e → 0 < deferred_at (happens l e).seats i
    → WaitsOn l.seats (happens l e).seats i
