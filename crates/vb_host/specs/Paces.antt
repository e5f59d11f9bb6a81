-- How much of what was decided of a guest is wanted in its balloon at once. Times are in
-- milliseconds.
use Rattle.std.specs.Prelude.{◌≡◌, ◌⊎◌, ℕ, ◌+◌, ◌-◌, ◌*◌, ◌/◌, ◌<◌, Bool, true, not}
use Rattle.std.specs.Prelude.{◌&&◌, ◌||◌, ◌==◌, nat_lt, nat_le, if◌then◌else◌, max}
use Rattle.vb_host.specs.declared.pace.Aim.{Aim}
use Rattle.vb_host.specs.declared.pace.Pace.{Pace}
use Rattle.vb_host.specs.declared.seat.Seat.{Seat}
use Rattle.vb_host.specs.Messages.{is_let_in, roomy}
use Rattle.vb_host.specs.Seats.{reclaimed}
use Rattle.vb_virtio.specs.Tests.{one_if}

-- the last target that it was sent; 0 before the first
abbrev pub told : Seat → ℕ
told s = if nat_lt 0 s.target_number then s.target else 0

-- A strict guest is to get pages, which others may have to give first.
abbrev pub gains : Aim → Seat → Bool
gains a s = nat_lt 0 a.strict && nat_lt a.target (told s)

-- ---- what is wanted in the end

-- A guest whose driver isn't there takes no pages, so none of those that it gave are lent to it by
-- a target.
abbrev pub waits_for_driver : Aim → Seat → Bool
waits_for_driver a s =
    nat_lt 0 a.strict && (a.ready == 0) && nat_lt a.target (reclaimed s)

-- A strict guest that wasn't let in comes with what it does.
abbrev pub in_the_end : Aim → Seat → ℕ
in_the_end a s =
    if nat_lt 0 a.strict && not (is_let_in s) then s.wanted
    else if waits_for_driver a s then reclaimed s
    else a.target

-- ---- what is wanted now

abbrev pub rises : Aim → Seat → Bool
rises a s = nat_lt 0 a.seconds && nat_lt (told s) a.target

-- A target grows by steps as long as nobody needs pages, and guests hold no more than the budget.
abbrev pub by_steps : Aim → Seat → Bool
by_steps a s = rises a s && (a.needed == 0) && nat_le a.held_kib (4 * a.frames)

-- Its part of the guest's pages, and a page at least.
abbrev pub growth : Aim → Seat → ℕ
growth a s =
    if nat_lt 0 (1000 * a.seconds)
    then max (roomy s * a.passed / (1000 * a.seconds)) 1
    else 1

abbrev pub stepped : Aim → Seat → ℕ
stepped a s =
    if nat_lt (growth a s) (a.target - told s) then told s + growth a s else in_the_end a s

abbrev pub wanted_now : Aim → Seat → ℕ
wanted_now a s =
    if not (by_steps a s) then in_the_end a s
    else if (a.passed == 0) || (s.wanted == in_the_end a s) then s.wanted
    else stepped a s

abbrev pub pace_of : Aim → Seat → Pace
pace_of a s =
    record {
      all = in_the_end a s;
      now = wanted_now a s;
      rises = one_if (rises a s);
      gains = one_if (gains a s);
    }

-- ---- what is promised

-- What is wanted after a step is what is wanted in the end, or more than the last target, and less
-- than was decided.
abbrev pub StepsReach : Type 0
StepsReach =
    (a : Aim) (s : Seat) → by_steps a s ≡ true → 0 < a.passed
    → (wanted_now a s ≡ in_the_end a s)
    ⊎ ((told s < wanted_now a s) × (wanted_now a s < a.target))

-- Where somebody needs pages, or guests hold more than the budget, all is wanted at once.
abbrev pub NoneStepsInNeed : Type 0
NoneStepsInNeed =
    (a : Aim) (s : Seat) → (0 < a.needed) ⊎ (4 * a.frames < a.held_kib)
    → wanted_now a s ≡ in_the_end a s
