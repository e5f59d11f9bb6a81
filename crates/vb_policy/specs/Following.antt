-- The budget of guests on a machine that has other work as well. Sizes are pages.
use Rattle.std.specs.Prelude.{ℕ, ◌+◌, ◌-◌, ◌^◌, min, max, nat_eq, nat_le, nat_lt, ◌||◌}
use Rattle.std.specs.Prelude.{if◌then◌else◌}
use Rattle.vb_policy.specs.declared.machine.Machine.{Machine}

-- The least that the budget may be.
abbrev pub lowest : Machine → ℕ
lowest m = min m.least m.most

-- What guests may hold so that `keep` stays available to all else. What they take is no longer
-- available, so that this number stays the same while they do.
abbrev pub left : Machine → ℕ
left m = (m.held + m.available) - m.keep

-- A step less than the budget, too, while the machine's own work waits for memory.
abbrev pub possible : Machine → ℕ
possible m = if nat_lt 0 m.pressed then min (left m) (m.budget - m.step) else left m

abbrev pub wanted : Machine → ℕ
wanted m = min (possible m) m.most

-- The budget falls at once to what is wanted. It rises by a step where there is room for all of it,
-- or to the most; so it doesn't follow what comes and goes within a step.
abbrev pub followed : Machine → ℕ → ℕ
followed m next = if nat_lt (wanted m) m.budget || nat_eq (wanted m) m.most then min (wanted m) next
    else (if nat_le next (wanted m) then next else m.budget)

abbrev pub budget_after : Machine → ℕ
budget_after m = max (followed m (min (m.budget + m.step) (2 ^ 32 - 1))) (lowest m)
