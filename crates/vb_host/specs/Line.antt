-- Who is granted next.
use Rattle.std.specs.Prelude.{◌≡◌, ◌⊎◌, ℕ, ◌+◌, ◌<◌, ◌≤◌, true, false, List, Option, MatchOption}
use Rattle.std.specs.Prelude.{nat_le, if◌then◌else◌}
use Rattle.vb_host.specs.declared.event.Event.{Event}
use Rattle.vb_host.specs.declared.event.Event.TheVariants.{Grants}
use Rattle.vb_host.specs.declared.seat.Seat.{Seat}
use Rattle.vb_host.specs.Lending.{Lending, owed, held_at, value_at, test_at, happens, rank_at}
use Rattle.vb_host.specs.Lending.{all_targeted, room}
use Rattle.vb_host.specs.Seats.{asked, covers, line_rank}

-- Guest n waits, and no other waits before it: of two at one rank the one at the lower place comes
-- first.
pub record IsFirst (seats : List Seat) (n : ℕ) : Type 0 where
  pub waits : 0 < held_at seats n
  pub before_all : (i : ℕ) → 0 < held_at seats i → rank_at seats n ≤ rank_at seats i
  pub lowest : (i : ℕ) → i < n → 0 < held_at seats i → rank_at seats n < rank_at seats i

-- Nobody is granted: no deflate takes just what is lent already, and nobody waits, or there is no
-- room for one that waits first.
pub record GrantsNone (l : Lending) : Type 0 where
  pub none_covered : (n : ℕ) → test_at covers l.seats n ≡ false
  pub no_room : ((n : ℕ) → held_at l.seats n ≡ 0)
      ⊎ ((n : ℕ) × IsFirst l.seats n × (l.frames < owed l.seats + value_at asked l.seats n))

-- Guest n is granted next: of the deflates that take just what is lent already that at the lowest
-- place, and where there is none the first that waits, if there is room.
abbrev pub IsNextGrant : Lending → ℕ → Type 0
IsNextGrant l n =
    ((test_at covers l.seats n ≡ true)
    × ((k : ℕ) → k < n → test_at covers l.seats k ≡ false))
    ⊎ (((k : ℕ) → test_at covers l.seats k ≡ false) × IsFirst l.seats n
    × (owed l.seats + value_at asked l.seats n ≤ l.frames))

-- from one state grants alone, each of the next guest, lead to another
pub data ByGrants : Lending → Lending → Type 0 where
  Stays : (l : Lending) → ByGrants l l
  Granted : (l m : Lending) (n : ℕ)
      → IsNextGrant l n → ByGrants (happens l (Grants n)) m → ByGrants l m

-- One step: the event, then grants until no guest can be granted, then each guest's target.
pub record IsStep (old : Lending) (event : Event) (new : Lending) : Type 0 where
  pub granted : Lending
  pub by_grants : ByGrants (happens old event) granted
  pub grants_none : GrantsNone granted
  pub targets : new ≡ record granted { seats = all_targeted (room granted) granted.seats }

-- ---- from one line on

-- Those of earlier lines don't count as if they waited.
abbrev pub lined : ℕ → Seat → Seat
lined line s = if nat_le line (line_rank s) then s else record s { held = 0 }

-- ---- for proofs

-- the first that waits of the guests below a number
abbrev pub FirstBelow : List Seat → ℕ → Option ℕ → Type 0
FirstBelow seats limit first = MatchOption first
    ((k : ℕ) → k < limit → held_at seats k ≡ 0)
    (λ n. (n < limit) × (0 < held_at seats n)
    × ((k : ℕ) → k < limit → 0 < held_at seats k → rank_at seats n ≤ rank_at seats k)
    × ((k : ℕ) → k < n → 0 < held_at seats k → rank_at seats n < rank_at seats k))
