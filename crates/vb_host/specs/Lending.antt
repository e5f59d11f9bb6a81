-- A lender of many guests: what may happen to it, and what it decides.
use Rattle.std.specs.Prelude.{length, not, ◌==◌, ℕ, zero, suc, ◌+◌, ◌-◌, Bool, true, false, ◌&&◌}
use Rattle.std.specs.Prelude.{◌||◌, nat_lt, nat_le}
use Rattle.std.specs.Prelude.{if◌then◌else◌, max, min, List, [], ◌∷◌, map, sum_by}
use Rattle.std.specs.List.{list_all}
use Rattle.vb_host.specs.declared.event.Event.{Event}
use Rattle.vb_host.specs.declared.event.Event.TheVariants.{Hears, Grants, Overdraws, Wants, Targets}
use Rattle.vb_host.specs.declared.event.Event.TheVariants.{Arrives, Joins, TakesOver, Uncounts}
use Rattle.vb_host.specs.declared.event.Event.TheVariants.{Budget, Prefers, Defers}
use Rattle.vb_host.specs.declared.seat.Seat.{Seat}
use Rattle.vb_host.specs.Seats.{apart, grown, lent, asked, waits, covers, granting, heard}
use Rattle.vb_host.specs.Seats.{is_done, newcomer, taken_over, uncounting, queued, rank, retargeted}
use Rattle.vb_host.specs.Seats.{room_after, starting, line_rank, preferring, deferring}

-- How many frames a host has to lend; how many beyond them, where the guests can't go on otherwise;
-- and what its lender knows of each guest.
pub record Lending : Type 0 where
  pub frames : ℕ
  pub overdraft : ℕ
  pub seats : List Seat

-- what is lent to all guests together, and what all that wait would be lent beyond that
abbrev pub owed : List Seat → ℕ
owed seats = sum_by lent seats

-- of the former as far as 64 bits show it
abbrev pub shown_owed : List Seat → ℕ
shown_owed seats = min (owed seats) 18446744073709551615

abbrev pub waited : List Seat → ℕ
waited seats = sum_by asked seats

-- the frames that no guest has and no guest waits for
abbrev pub room : Lending → ℕ
room l = l.frames - (owed l.seats + waited l.seats)

-- ---- one place of a list

abbrev pub each_at : {A : Type 0} → ℕ → (A → A) → List A → List A
each_at n f [] = []
each_at zero f (x ∷ xs) = f x ∷ xs
each_at (suc n) f (x ∷ xs) = x ∷ each_at n f xs

abbrev pub value_at : {A : Type 0} → (A → ℕ) → List A → ℕ → ℕ
value_at f [] n = 0
value_at f (x ∷ xs) zero = f x
value_at f (x ∷ xs) (suc n) = value_at f xs n

abbrev pub test_at : {A : Type 0} → (A → Bool) → List A → ℕ → Bool
test_at test [] n = false
test_at test (x ∷ xs) zero = test x
test_at test (x ∷ xs) (suc n) = test_at test xs n

-- ---- the line of those that wait

abbrev pub held_at : List Seat → ℕ → ℕ
held_at seats n = value_at (λ s. s.held) seats n

abbrev pub turn_at : List Seat → ℕ → ℕ
turn_at seats n = value_at (λ s. s.turn) seats n

abbrev pub rank_at : List Seat → ℕ → ℕ
rank_at seats n = value_at rank seats n

-- the latest turn, and the next one; the last one of all is given again
abbrev pub last_turn : List Seat → ℕ
last_turn [] = 0
last_turn (s ∷ seats) = max s.turn (last_turn seats)

abbrev pub next_turn : List Seat → ℕ
next_turn seats = min (last_turn seats + 1) 18446744073709551615

-- it doesn't wait, or not before this rank
abbrev pub comes_at : ℕ → Seat → Bool
comes_at first s = if waits s then nat_le first (rank s) else true

-- no guest waits before this rank, and none of the first n guests at this rank
abbrev pub comes_first : ℕ → ℕ → List Seat → Bool
comes_first first zero seats = list_all (comes_at first) seats
comes_first first (suc n) [] = true
comes_first first (suc n) (s ∷ seats) = comes_at (first + 1) s && comes_first first n seats

-- Guest n waits, and no other before it: of two at one rank the one at the lower place comes first.
abbrev pub is_first : List Seat → ℕ → Bool
is_first seats n = nat_lt 0 (held_at seats n) && comes_first (rank_at seats n) n seats

abbrev pub line_at : List Seat → ℕ → ℕ
line_at seats n = value_at line_rank seats n

abbrev pub preferred_at : List Seat → ℕ → ℕ
preferred_at seats n = value_at (λ s. s.preferred) seats n

-- of all guests just guest n is preferred
abbrev pub preferring_at : ℕ → List Seat → List Seat
preferring_at n seats = each_at n (preferring 1) (map (preferring 0) seats)

-- A deflate is granted that takes nothing which isn't lent already, and the first that waits where
-- there is room.
abbrev pub may_grant : Lending → ℕ → Bool
may_grant l n =
    test_at covers l.seats n
    || (is_first l.seats n && nat_le (owed l.seats + value_at asked l.seats n) l.frames)

-- Where each guest waits, or has in its balloon what its target says, the first that waits may be
-- granted from the overdraft. Nothing else is lent from there, and what is lent beyond the frames
-- comes back before any guest is granted by its turn.
abbrev pub may_overdraw : Lending → ℕ → Bool
may_overdraw l n =
    is_first l.seats n && list_all is_done l.seats
    && nat_le (owed l.seats + value_at asked l.seats n) (l.frames + l.overdraft)

abbrev pub lent_at : List Seat → ℕ → ℕ
lent_at seats n = value_at lent seats n

abbrev pub pages_at : List Seat → ℕ → ℕ
pages_at seats n = value_at (λ s. s.pages) seats n

abbrev pub outside_at : List Seat → ℕ → ℕ
outside_at seats n = value_at (λ s. s.outside) seats n

-- The memory at a place may join a guest, where none of it has to stay in a balloon or is outside,
-- and both have fewer than 2^32 pages together.

abbrev pub may_join_at : List Seat → ℕ → ℕ → Bool
may_join_at seats n m =
    nat_lt n (length seats) && nat_lt m (length seats) && not (n == m)
    && (value_at apart seats m == 0) && nat_lt (pages_at seats n + pages_at seats m) 4294967296

abbrev pub joined_at : ℕ → ℕ → List Seat → List Seat
joined_at n m seats =
    if may_join_at seats n m
    then each_at m (λ _. newcomer 0) (each_at n (grown (pages_at seats m)) seats)
    else seats

-- ---- what happens

abbrev pub happens : Lending → Event → Lending
happens l (Hears n r) = record l { seats = each_at n (heard (next_turn l.seats) r) l.seats }
happens l (Grants n) =
    record l { seats = if may_grant l n then each_at n granting l.seats else l.seats }
happens l (Overdraws n) =
    record l { seats = if may_overdraw l n then each_at n granting l.seats else l.seats }
happens l (Wants n pages) =
    record l { seats = each_at n (λ s. record s { wanted = pages }) l.seats }
happens l (Targets n) = record l { seats = each_at n (retargeted (room l)) l.seats }
happens l (Arrives n pages ballooned) =
    record l { seats = each_at n (λ _. starting pages ballooned) l.seats }
happens l (Joins n m) = record l { seats = joined_at n m l.seats }
happens l (TakesOver n pages r) =
    record l { seats = each_at n (λ _. queued (next_turn l.seats) (taken_over pages r)) l.seats }
happens l (Uncounts n) = record l { seats = each_at n uncounting l.seats }
happens l (Budget frames) = record l { frames = frames }
happens l (Prefers n) = record l { seats = preferring_at n l.seats }
happens l (Defers n) = record l { seats = each_at n (deferring (next_turn l.seats)) l.seats }

-- ---- all targets, in the order of the places, with the room that those before leave

abbrev pub all_targeted : ℕ → List Seat → List Seat
all_targeted room [] = []
all_targeted room (s ∷ seats) = retargeted room s ∷ all_targeted (room_after room s) seats

abbrev pub run : List Event → Lending → Lending
run [] l = l
run (e ∷ events) l = run events (happens l e)
