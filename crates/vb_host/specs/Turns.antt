-- Whose turn it is: who is granted before whom, and who is lent nothing meanwhile.
use Rattle.std.specs.Prelude.{◌≡◌, ◌≢◌, ◌⊎◌, ℕ, ◌+◌, ◌≤◌, ◌<◌, true, ⊤, List, length}
use Rattle.vb_host.specs.declared.event.Event.{Event}
use Rattle.vb_host.specs.declared.event.Event.TheVariants.{Grants, Overdraws, Targets, Joins}
use Rattle.vb_host.specs.declared.event.Event.TheVariants.{TakesOver, Uncounts, Prefers}
use Rattle.vb_host.specs.declared.seat.Seat.{Seat}
use Rattle.vb_host.specs.Lending.{Lending, next_turn, test_at, value_at, owed, may_grant, happens}
use Rattle.vb_host.specs.Lending.{held_at, rank_at, turn_at, lent_at, line_at, preferred_at}
use Rattle.vb_host.specs.Line.{IsFirst, IsStep}
use Rattle.vb_host.specs.Promises.{IsStillThere}
use Rattle.vb_host.specs.Seats.{asked, covers, line_rank, queued, rank, waits}

-- What is granted lends nothing, or is what the first that waits asks for, with room for it.
abbrev pub GrantsInTurn : Type 0
GrantsInTurn =
    (l : Lending) (n : ℕ) → may_grant l n ≡ true → (test_at covers l.seats n ≡ true)
    ⊎ (IsFirst l.seats n × (owed l.seats + value_at asked l.seats n ≤ l.frames))

-- A turn that is given comes after all turns (until 2^64 - 1 of them were given).
abbrev pub TurnsRise : Type 0
TurnsRise =
    (seats : List Seat) (n : ℕ) → turn_at seats n < next_turn seats
    ⊎ (next_turn seats ≡ 18446744073709551615)

-- A guest that waits from now on, and isn't preferred, comes after all that wait in its line.
abbrev pub ComesLast : Type 0
ComesLast =
    (seats : List Seat) (n : ℕ) (s : Seat) → s.preferred ≡ 0 → waits s ≡ true
    → line_at seats n ≡ line_rank (queued (next_turn seats) s)
    → (rank_at seats n < rank (queued (next_turn seats) s))
    ⊎ (next_turn seats ≡ 18446744073709551615)

-- A guest ranks before another just where its line comes before, or both are in one line, and it
-- alone is preferred, or neither is and its turn comes before. So no guest, preferred or not,
-- passes one of an earlier line.
abbrev pub IsEarlier : Seat → Seat → Type 0
IsEarlier s t = ((0 < s.preferred) × (t.preferred ≡ 0))
    ⊎ ((s.preferred ≡ 0) × (t.preferred ≡ 0) × (s.turn < t.turn))

abbrev pub ComesBefore : Seat → Seat → Type 0
ComesBefore s t = (line_rank s < line_rank t) ⊎ ((line_rank s ≡ line_rank t) × IsEarlier s t)

abbrev pub LinesOrder : Type 0
LinesOrder =
    (s t : Seat) → s.turn < 18446744073709551616 → t.turn < 18446744073709551616
    → (rank s < rank t → ComesBefore s t) × (ComesBefore s t → rank s < rank t)

-- guest j comes after guest i, if it waits
abbrev pub IsAfter : List Seat → ℕ → ℕ → Type 0
IsAfter seats i j = 0 < held_at seats j
    → (rank_at seats i < rank_at seats j) ⊎ ((rank_at seats i ≡ rank_at seats j) × (i < j))

-- Where guest i still waits after a step, no guest that doesn't wait once its event has happened,
-- or comes after guest i, is lent more by that step; in whatever state, for any events and budgets.
abbrev pub NoneIsPassed : Type 0
NoneIsPassed =
    (l m : Lending) (e : Event) (i j : ℕ) → IsStep l e m → 0 < held_at m.seats i
    → IsAfter (happens l e).seats i j → lent_at m.seats j ≤ lent_at (happens l e).seats j

-- Nor does the event itself lend anything to guest j: it is no grant and no target, it doesn't take
-- over guest j, or have memory join it, and its balloon counts.
abbrev pub IsNoLoan : ℕ → Event → Type 0
IsNoLoan j (Grants n) = ⊥
IsNoLoan j (Overdraws n) = ⊥
IsNoLoan j (Targets n) = ⊥
IsNoLoan j (Joins n m) = j ≢ n
IsNoLoan j (TakesOver n pages r) = j ≢ n
IsNoLoan j (Uncounts n) = j ≢ n
IsNoLoan j _ = ⊤

abbrev pub EventsLendNothing : Type 0
EventsLendNothing =
    (l : Lending) (e : Event) (j : ℕ) → IsNoLoan j e
    → lent_at (happens l e).seats j ≤ lent_at l.seats j

-- ---- one guest at a time

-- Of all guests just the one that the host prefers is preferred; and no other event changes that,
-- unless another guest is at its place.
abbrev pub JustOne : Type 0
JustOne =
    (l : Lending) (n i : ℕ) → 0 < preferred_at (happens l (Prefers n)).seats i → i ≡ n

abbrev pub IsPreferred : Type 0
IsPreferred =
    (l : Lending) (n : ℕ) → n < length l.seats
    → preferred_at (happens l (Prefers n)).seats n ≡ 1

abbrev pub IsNoPreference : Event → Type 0
IsNoPreference (Prefers n) = ⊥
IsNoPreference _ = ⊤

abbrev pub StaysPreferred : Type 0
StaysPreferred =
    (l : Lending) (e : Event) (i : ℕ) → IsNoPreference e → IsStillThere i e
    → preferred_at (happens l e).seats i ≡ preferred_at l.seats i

-- guest i is preferred, and guest j of its line, or of a later one, isn't
pub record IsBefore (seats : List Seat) (i j : ℕ) : Type 0 where
  pub preferred : 0 < preferred_at seats i
  pub other : preferred_at seats j ≡ 0
  pub line : line_at seats i ≤ line_at seats j

-- While a guest that is preferred waits, no grant lends anything to such another one.
abbrev pub OneProceeds : Type 0
OneProceeds =
    (l : Lending) (n i j : ℕ) → 0 < held_at l.seats i → IsBefore l.seats i j
    → (lent_at (happens l (Grants n)).seats j ≤ lent_at l.seats j)
    × (lent_at (happens l (Overdraws n)).seats j ≤ lent_at l.seats j)

-- nor does a step, after its event
abbrev pub OneProceedsBySteps : Type 0
OneProceedsBySteps =
    (l m : Lending) (e : Event) (i j : ℕ) → IsStep l e m → 0 < held_at m.seats i
    → IsBefore (happens l e).seats i j → lent_at m.seats j ≤ lent_at (happens l e).seats j
