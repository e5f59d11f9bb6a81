-- Worked facts of a budget that follows its machine: by hand, in pages.
use Rattle.std.proofs.Common.{◌≡◌, ℕ, List, [], ◌∷◌, map, refl}
use Rattle.vb_policy.specs.declared.machine.Machine.{Machine}
use Rattle.vb_policy.specs.Following.{budget_after, left, lowest, possible, wanted}

-- Guests hold 300 of a budget of 500; 400 are available, of which 100 are to stay so: 600 are left
-- to guests.
abbrev machine : Machine
machine = record {
  budget = 500;
  most = 1000;
  least = 50;
  keep = 100;
  held = 300;
  available = 400;
  step = 10;
  pressed = 0;
}

abbrev with_budget : ℕ → ℕ
with_budget n = budget_after (record machine { budget = n })

abbrev with_available : ℕ → ℕ
with_available n = budget_after (record machine { available = n })

abbrev with_keep : ℕ → ℕ
with_keep n = budget_after (record machine { keep = n })

abbrev with_most : ℕ → ℕ
with_most n = budget_after (record machine { most = n })

abbrev with_least : ℕ → ℕ
with_least n = budget_after (record machine { least = n })

abbrev with_step : ℕ → ℕ
with_step n = budget_after (record machine { step = n })

abbrev with_pressed : ℕ → ℕ
with_pressed n = budget_after (record machine { pressed = n })

-- it rises by a step where all of it has room, and falls at once
budgets : map with_budget (0 ∷ 500 ∷ 589 ∷ 590 ∷ 591 ∷ 600 ∷ 601 ∷ 1000 ∷ 4294967295 ∷ [])
    ≡ 50 ∷ 510 ∷ 599 ∷ 600 ∷ 591 ∷ 600 ∷ 600 ∷ 600 ∷ 600 ∷ []
budgets = refl

-- what guests take is no longer available: nothing changes
taken : budget_after (record machine { held = 500; available = 200 })
    ∷ budget_after (record machine { held = 0; available = 700 }) ∷ [] ≡ 510 ∷ 510 ∷ []
taken = refl

-- other work takes all, and more than it leaves to guests
taken_by_others : map with_available (310 ∷ 309 ∷ 300 ∷ 299 ∷ 200 ∷ 0 ∷ [])
    ≡ 510 ∷ 500 ∷ 500 ∷ 499 ∷ 400 ∷ 200 ∷ []
taken_by_others = refl

kept : map with_keep (0 ∷ 190 ∷ 191 ∷ 201 ∷ 650 ∷ 651 ∷ 700 ∷ 701 ∷ 4294967295 ∷ [])
    ≡ 510 ∷ 510 ∷ 500 ∷ 499 ∷ 50 ∷ 50 ∷ 50 ∷ 50 ∷ 50 ∷ []
kept = refl

-- the most is reached, though it is no whole step away, and never passed
mosts : map with_most (505 ∷ 500 ∷ 499 ∷ 40 ∷ 0 ∷ []) ≡ 505 ∷ 500 ∷ 499 ∷ 40 ∷ 0 ∷ []
mosts = refl

-- the least holds whatever is left, and at once
leasts : map with_least (0 ∷ 510 ∷ 511 ∷ 700 ∷ 1000 ∷ 1001 ∷ [])
    ≡ 510 ∷ 510 ∷ 511 ∷ 700 ∷ 1000 ∷ 1000 ∷ []
leasts = refl

steps : map with_step (0 ∷ 1 ∷ 100 ∷ 101 ∷ []) ≡ 500 ∷ 501 ∷ 600 ∷ 500 ∷ []
steps = refl

-- while the machine's own work waits, it falls by a step, or further where less is left
pressed : map with_pressed (0 ∷ 1 ∷ 4294967295 ∷ []) ≡ 510 ∷ 490 ∷ 490 ∷ []
pressed = refl

pressed_further : budget_after (record machine { pressed = 1; available = 150 })
    ∷ budget_after (record machine { pressed = 1; budget = 55 })
    ∷ budget_after (record machine { pressed = 1; budget = 5 }) ∷ [] ≡ 350 ∷ 50 ∷ 50 ∷ []
pressed_further = refl

-- sums that pass 32 bits
large : budget_after (record machine {
  budget = 4294967290;
  most = 4294967295;
  held = 4294967295;
  available = 4294967295;
}) ≡ 4294967295
large = refl

large_step : budget_after (record machine {
  budget = 4294967290;
  most = 4294967294;
  held = 4294967295;
  available = 100;
  step = 4294967295;
}) ≡ 4294967294
large_step = refl
