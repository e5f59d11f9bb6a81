-- How a host whose guests wait for each other is helped: who proceeds alone, who is lent from the
-- overdraft, and who lets others pass. Times are in milliseconds.
use Rattle.std.specs.Prelude.{◌≡◌, ◌⊎◌, ℕ, zero, suc, ◌+◌, ◌-◌, ◌*◌, ◌≤◌, ◌<◌, Bool, true, false}
use Rattle.std.specs.Prelude.{not, ◌&&◌, ◌==◌, nat_lt, nat_le, if◌then◌else◌, List, length}
use Rattle.std.specs.Prelude.{map, sum_by, Option, Some, None}
use Rattle.vb_host.specs.declared.event.Event.{Event}
use Rattle.vb_host.specs.declared.event.Event.TheVariants.{Overdraws, Prefers, Defers}
use Rattle.vb_host.specs.declared.relief.Look.{Look}
use Rattle.vb_host.specs.declared.relief.Stand.{Stand}
use Rattle.vb_host.specs.declared.relief.TheConstants.{STANDS}
use Rattle.vb_host.specs.declared.seat.Seat.{Seat}
use Rattle.vb_host.specs.Lending.{Lending, is_first, may_overdraw, shown_owed, test_at, turn_at}
use Rattle.vb_host.specs.Line.{IsFirst, lined}
use Rattle.vb_host.specs.Seats.{is_preferred, may_defer}
use Rattle.vb_virtio.specs.Tests.{one_if}

-- ---- who waits first

-- 1 more than the last place below a number at which something is so; 0 where there is none
abbrev pub found : (ℕ → Bool) → ℕ → ℕ
found test zero = 0
found test (suc n) = if test n then suc n else found test n

-- 1 more than the place of the guest that waits first in this line or a later one; 0 where none
-- does
abbrev pub first_from : ℕ → List Seat → ℕ
first_from line seats = found (is_first (map (lined line) seats)) (length seats)

-- The turn of the guest with that number; 0 where there is none.
abbrev pub turn_of : ℕ → List Seat → ℕ
turn_of number seats = if nat_lt 0 number then turn_at seats (number - 1) else 0

-- ---- since when a host stands still

-- Nothing has moved: the same guest waits first, and as much is lent.
abbrev pub has_stood : Stand → List Seat → Bool
has_stood x seats = (x.first == first_from 0 seats) && (x.lent == shown_owed seats)

-- The same guest waits first, with the same turn, of those that wait in a reset or to come.
abbrev pub has_headed : Stand → List Seat → Bool
has_headed x seats =
    (x.head == first_from 1 seats) && (x.turn == turn_of (first_from 1 seats) seats)

abbrev pub stood : ℕ → Stand → List Seat → Stand
stood now x seats =
    record {
      first = first_from 0 seats;
      lent = shown_owed seats;
      since = if has_stood x seats then x.since else now;
      head = first_from 1 seats;
      turn = turn_of (first_from 1 seats) seats;
      head_since = if has_headed x seats then x.head_since else now;
    }

-- ---- who is helped

-- how many of them are so
abbrev pub count : (Seat → Bool) → List Seat → ℕ
count test seats = sum_by (λ s. one_if (test s)) seats

-- At rest, on a host all of whose guests have reported to this lender.
abbrev pub stands_still : Look → Stand → Bool
stands_still k x = (k.awaits == 0) && nat_le (x.since + STANDS) k.time

-- The number of the guest that is to proceed alone: on a short host the first that waits.
abbrev pub alone : Look → Stand → ℕ
alone k x = if nat_lt 0 k.missing then x.first else 0

-- Just the guest with this number is preferred; none where it is 0.
abbrev pub is_just_preferred : ℕ → List Seat → Bool
is_just_preferred number seats =
    (count is_preferred seats == one_if (nat_lt 0 number))
    && (if nat_lt 0 number then test_at is_preferred seats (number - 1) else true)

-- The place of a number; of 0 one that no guest is at.
abbrev pub place_of : ℕ → List Seat → ℕ
place_of number seats = if nat_lt 0 number then number - 1 else length seats

-- The head has waited for as long as the host is patient, and another waits after it.
abbrev pub is_due_to_defer : Look → Stand → List Seat → Bool
is_due_to_defer k x seats =
    (k.awaits == 0) && nat_lt 0 x.head && nat_le (x.head_since + 1000 * k.patience) k.time
    && nat_lt 1 (count may_defer seats)

-- It lets others pass once it is preferred no longer.
abbrev pub deferral : Stand → List Seat → Event
deferral x seats =
    if test_at is_preferred seats (x.head - 1) then Prefers (length seats) else Defers (x.head - 1)

-- The first that waits is lent from the overdraft, where that is possible.
abbrev pub overdraft_relief : ℕ → Lending → Option Event
overdraft_relief first l =
    if nat_lt 0 first && may_overdraw l (first - 1) then Some (Overdraws (first - 1)) else None

abbrev pub due_relief : Look → Stand → Lending → Option Event
due_relief k x l =
    if is_due_to_defer k x l.seats then Some (deferral x l.seats)
    else if not (stands_still k x) then None
    else if not (is_just_preferred (alone k x) l.seats)
    then Some (Prefers (place_of (alone k x) l.seats))
    else overdraft_relief x.first l

-- ---- what is promised

-- A host is helped once nothing has moved for a second, or the first of those that restart or come
-- has waited for as long as it is patient; and once all its guests have reported to this lender.
abbrev pub NobodyIsHurried : Type 0
NobodyIsHurried =
    (k : Look) (x : Stand) (l : Lending) (e : Event) → due_relief k x l ≡ Some e
    → (k.awaits ≡ 0)
    × ((x.since + STANDS ≤ k.time) ⊎ (x.head_since + 1000 * k.patience ≤ k.time))

-- The number that is noted is of the guest that waits first; and that of the head of the guest
-- that does so of those that restart or come.
abbrev pub FirstIsNoted : Type 0
FirstIsNoted =
    (now : ℕ) (x : Stand) (seats : List Seat) (n : ℕ) → n < length seats → IsFirst seats n
    → (stood now x seats).first ≡ n + 1

abbrev pub HeadIsNoted : Type 0
HeadIsNoted =
    (now : ℕ) (x : Stand) (seats : List Seat) (n : ℕ) → n < length seats
    → IsFirst (map (lined 1) seats) n → (stood now x seats).head ≡ n + 1

-- A time is that of this look, unless the same guest waited first before, with as much lent; and
-- of the head with the same turn.
abbrev pub MovesAreNoted : Type 0
MovesAreNoted =
    (now : ℕ) (x : Stand) (seats : List Seat)
    → (((stood now x seats).since ≡ now) ⊎ (((stood now x seats).since ≡ x.since)
    × ((stood now x seats).first ≡ x.first) × ((stood now x seats).lent ≡ x.lent)))
    × (((stood now x seats).head_since ≡ now) ⊎ (((stood now x seats).head_since ≡ x.head_since)
    × ((stood now x seats).head ≡ x.head) × ((stood now x seats).turn ≡ x.turn)))

-- On a short host the first that waits is preferred, else nobody.
abbrev pub PrefersTheFirst : Type 0
PrefersTheFirst =
    (k : Look) (x : Stand) (l : Lending) (n : ℕ) → due_relief k x l ≡ Some (Prefers n)
    → (n ≡ length l.seats) ⊎ ((0 < k.missing) × (x.first ≡ n + 1))

-- The overdraft is lent to the first that waits, where that is possible.
abbrev pub OverdrawsIfPossible : Type 0
OverdrawsIfPossible =
    (k : Look) (x : Stand) (l : Lending) (n : ℕ) → due_relief k x l ≡ Some (Overdraws n)
    → (x.first ≡ n + 1) × (may_overdraw l n ≡ true)

-- Who lets others pass is the first of those that restart or come, no other does while it is
-- preferred, and another waits after it.
abbrev pub DefersForAnother : Type 0
DefersForAnother =
    (k : Look) (x : Stand) (l : Lending) (n : ℕ) → due_relief k x l ≡ Some (Defers n)
    → (x.head ≡ n + 1) × (test_at is_preferred l.seats n ≡ false)
    × (1 < count may_defer l.seats)
