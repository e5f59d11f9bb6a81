-- The least budget with which all that wait proceed.
use Rattle.std.specs.Prelude.{◌≡◌, ℕ, ◌<◌, ◌≤◌, ◌||◌, if◌then◌else◌, max, List, map}
use Rattle.std.specs.Prelude.{sum_by}
use Rattle.vb_host.specs.declared.event.Event.TheVariants.{Budget}
use Rattle.vb_host.specs.declared.seat.Seat.{Seat}
use Rattle.vb_host.specs.Lending.{Lending, held_at, waited}
use Rattle.vb_host.specs.Line.{IsStep}
use Rattle.vb_host.specs.Seats.{granting, is_uncounted, lent, reclaimed, waits}

-- A guest that doesn't wait has done what is wanted of it: as many pages are in its balloon, and
-- its driver may obey no lower target. One that waits gives nothing meanwhile, and one whose
-- balloon doesn't count nothing that counts.
abbrev pub reached : Seat → Seat
reached s =
    if waits s || is_uncounted s then s
    else record s {
      ballooned = max s.ballooned s.wanted;
      target = max s.wanted (reclaimed s);
      least_target = max s.wanted (reclaimed s);
    }

-- What a guest is lent in the end: with what it waits for, or once it has done what is wanted.
abbrev pub final_loan : Seat → ℕ
final_loan s = if waits s then lent (granting s) else lent (reached s)

abbrev pub least_budget : List Seat → ℕ
least_budget seats = sum_by final_loan seats

-- after a round all that don't wait have done what is wanted of them
abbrev pub after_a_round : Lending → Lending
after_a_round l = record l { seats = map reached l.seats }

-- With this budget, or a larger one, nobody waits after a round and a step.
abbrev pub LeastBudgetSuffices : Type 0
LeastBudgetSuffices =
    (l m : Lending) (frames : ℕ) → least_budget l.seats ≤ frames
    → IsStep (after_a_round l) (Budget frames) m → (n : ℕ) → held_at m.seats n ≡ 0

-- With less, by one page or more, somebody still waits, if somebody asks for any page.
abbrev pub LessDoesNot : Type 0
LessDoesNot =
    (l m : Lending) (frames : ℕ) → frames < least_budget l.seats → 0 < waited l.seats
    → IsStep (after_a_round l) (Budget frames) m → (n : ℕ) × (0 < held_at m.seats n)
