-- How many rounds it takes until no guest waits: what each still has to give, and what makes that
-- less.
use Rattle.std.specs.Prelude.{◌≡◌, ℕ, ◌+◌, ◌-◌, ◌≤◌, ◌<◌, ◌==◌, Bool, true, false, not, ◌&&◌}
use Rattle.std.specs.Prelude.{◌||◌, ⊤, nat_lt, if◌then◌else◌, min, List, [], ◌∷◌, sum_by, Some}
use Rattle.std.specs.Prelude.{slice_get}
use Rattle.std.specs.List.{AllByRecursion}
use Rattle.vb_host.specs.Lending.{held_at, value_at}
use Rattle.vb_host.specs.Line.{GrantsNone}
use Rattle.vb_host.specs.Rounds.{round}
use Rattle.vb_host.specs.Seats.{granting, is_uncounted, reclaimed}
use Rattle.vb_host.specs.System.{Confirms, Grants, Guest, Host, Limits, Process, Step, Targets}
use Rattle.vb_host.specs.System.{goes, lending, opened, seats, through, view}

-- ---- what a guest needs, and what it still has to give

-- its balloon counts: it is strict, the lender knows it, and counts its balloon
abbrev pub is_counted : Guest → Bool
is_counted g = g.strict && g.known && not (is_uncounted g.seat)

-- The pages that are to stay in the balloon of such a guest: those that are wanted there; while its
-- process holds back a deflate, no more than that leaves there. None of any other guest.
abbrev pub left_there : Process → ℕ → ℕ
left_there p wanted = if nat_lt 0 p.held then min wanted (p.balloon - p.held) else wanted

abbrev pub staying : Guest → ℕ
staying g = if is_counted g then left_there g.process g.seat.wanted else 0

-- It needs all its other pages, with those outside.
abbrev pub needs : Guest → ℕ
needs g = (view g).pages + (view g).outside - staying g

abbrev pub all_need : Host → ℕ
all_need h = sum_by needs h.guests

-- It still has to give the pages that are to stay there and aren't reclaimed, with what it waits
-- for as if that was granted.
abbrev pub outstanding : Guest → ℕ
outstanding g = staying g - reclaimed (granting (view g))

abbrev pub outstanding_at : Host → ℕ → ℕ
outstanding_at h n = value_at outstanding h.guests n

abbrev pub all_outstanding : Host → ℕ
all_outstanding h = sum_by outstanding h.guests

-- ---- rounds, and what the lender does by itself meanwhile

-- A guest has a round, once its limit is what it is lent, and gives this many pages; or the lender
-- grants a deflate, or sets a target, as its steps do.
pub data Move : Type 0 where
  HasRound : ℕ → ℕ → Move
  IsGranted : ℕ → Move
  IsTargeted : ℕ → Move

abbrev pub moved : Host → Move → Host
moved h (HasRound n pages) =
    through (Confirms n ∷ Limits n ∷ Confirms n ∷ round n pages) h
moved h (IsGranted n) = goes h (Grants n)
moved h (IsTargeted n) = goes h (Targets n)

abbrev pub by_moves : List Move → Host → Host
by_moves [] h = h
by_moves (m ∷ moves) h = by_moves moves (moved h m)

abbrev pub has_round : ℕ → List Move → Bool
has_round n [] = false
has_round n (HasRound k pages ∷ moves) = (k == n) || has_round n moves
has_round n (_ ∷ moves) = has_round n moves

-- No target is below the one that is wanted. The lender keeps that: each of its steps sets targets.
abbrev pub IsAimed : Guest → Type 0
IsAimed g = (view g).wanted ≤ (view g).target

-- A guest has given enough by its round if its balloon has what its target says, or its process
-- holds back a deflate. Its driver keeps that.
abbrev pub HasEnough : Guest → Type 0
HasEnough g = g.process.held ≡ 0 → g.seat.target ≤ g.process.balloon

abbrev pub GivesEnough : Host → Move → Type 0
GivesEnough h (HasRound n pages) =
    (g : Guest) → slice_get (moved h (HasRound n pages)).guests n ≡ Some g → HasEnough g
GivesEnough h _ = ⊤

abbrev pub AllGiveEnough : List Move → Host → Type 0
AllGiveEnough [] h = ⊤
AllGiveEnough (m ∷ moves) h = GivesEnough h m × AllGiveEnough moves (moved h m)

-- ---- what is promised

abbrev pub InEachState : (Host → Type 0) → Type 0
InEachState P =
    (frames overdraft : ℕ) (sizes : List ℕ) (steps : List Step)
    → P (through steps (opened frames overdraft sizes))

-- A round of a guest leaves it nothing to give, and each other guest what that had; and what all
-- need is no more than before.
abbrev pub RoundsPay : Type 0
RoundsPay = InEachState (λ h. (n pages : ℕ)
    → AllByRecursion IsAimed h.guests → GivesEnough h (HasRound n pages)
    → (all_outstanding (moved h (HasRound n pages)) + outstanding_at h n ≡ all_outstanding h)
    × (all_need (moved h (HasRound n pages)) ≤ all_need h))

-- No grant and no target changes either.
abbrev pub IsAsBefore : Host → Host → Type 0
IsAsBefore h k = (all_outstanding k ≡ all_outstanding h) × (all_need k ≡ all_need h)

abbrev pub OwnMovesChangeNone : Type 0
OwnMovesChangeNone =
    (h : Host) (n : ℕ) → IsAsBefore h (moved h (IsGranted n))
    × IsAsBefore h (moved h (IsTargeted n))

-- Where a guest waits after a step, what all need and still have to give is more than the frames.
abbrev pub WaitsForPages : Type 0
WaitsForPages =
    (h : Host) (n : ℕ) → GrantsNone (lending h) → 0 < held_at (seats h.guests) n
    → h.frames < all_need h + all_outstanding h

-- A strict guest that waits after a step, as it comes, is reset or is out of memory, holds back a
-- deflate that goes deeper than its target.
abbrev pub WaitersGoDeeper : Type 0
WaitersGoDeeper = InEachState (λ h. (n : ℕ) (g : Guest) → GrantsNone (lending h)
    → slice_get h.guests n ≡ Some g → g.strict ≡ true → g.known ≡ true → 0 < g.seat.held
    → g.seat.ballooned - g.seat.held < g.seat.target)

-- Each guest that has something to give had a round, whatever the lender granted and which targets
-- it set meanwhile; and it can grant no guest now, as after a step.
pub record HadRounds (h : Host) (moves : List Move) : Type 0 where
  pub aimed : AllByRecursion IsAimed h.guests
  pub enough : AllGiveEnough moves h
  pub each : (k : ℕ) → 0 < outstanding_at h k → has_round k moves ≡ true
  pub granted : GrantsNone (lending (by_moves moves h))

-- Then a guest waits only if the host is short: if all need more than the frames.
abbrev pub OneRoundEach : Type 0
OneRoundEach = InEachState (λ h. (moves : List Move) (n : ℕ) → HadRounds h moves
    → 0 < held_at (seats (by_moves moves h).guests) n → h.frames < all_need h)

-- If it isn't short, the process of a strict guest that the lender knows holds back nothing after
-- its next round: it has received its grant.
abbrev pub TwoRoundsEach : Type 0
TwoRoundsEach = InEachState (λ h. (moves later : List Move) (n : ℕ) (g : Guest)
    → HadRounds h moves → all_need h ≤ h.frames → has_round n moves ≡ true
    → has_round n later ≡ true
    → slice_get (by_moves later (by_moves moves h)).guests n ≡ Some g
    → g.strict ≡ true → g.known ≡ true → g.process.held ≡ 0)
