-- Which numbers a run takes in, worked out.
use Rattle.std.proofs.Common.{◌≡◌, ◌+◌, ℕ, List, refl, arith, ap, [], ◌∷◌, map, length}
use Rattle.std.specs.Prelude.{Some, None}
use Rattle.vb_core.specs.{declared.runs.{Run.Run, Ends.Ends}, RunEnds.{AreEndsOf, AreEnds}}
use Rattle.vb_core.specs.Runs.{joined, IsApartFrom, IsApart, Grows, one_page, IsPart, Tell}

-- pages 5 and 6
abbrev two : Run
two = record { first = 5; count = 2 }

-- the number after them and the one before them, and no other: one further on, one of their own,
-- one further down
taken_in : map (joined two) (7 ∷ 4 ∷ 8 ∷ 6 ∷ 3 ∷ []) ≡ Some (record { first = 5; count = 3 })
    ∷ Some (record { first = 4; count = 3 }) ∷ None ∷ None ∷ None ∷ []
taken_in = refl

-- a number is apart from a run that doesn't take it in: one further on, one of its own, one further
-- down; and so is no number
apart : IsApartFrom two 8 × IsApartFrom two 6 × IsApartFrom two 3 × IsApart two []
    × IsApart two (8 ∷ 7 ∷ 4 ∷ [])
apart = (
  ((λ e. omega (arith, e)), (λ e. omega (arith, e))),
  ((λ e. omega (arith, e)), (λ e. omega (arith, e))),
  ((λ e. omega (arith, e)), (λ e. omega (arith, e))),
  tt,
  ((λ e. omega (arith, e)), (λ e. omega (arith, e))),
)

not_apart : (IsApartFrom two 7 → ⊥) × (IsApartFrom two 4 → ⊥)
    × (IsApart two (7 ∷ 8 ∷ []) → ⊥) × (IsApart two (4 ∷ []) → ⊥)
not_apart = (λ a. a.0 refl, λ a. a.1 refl, λ a. a.0 refl, λ a. a.1 refl)

-- ---- the numbers that a run takes in, one after another

abbrev run_at : ℕ → ℕ → Run
run_at first count = record { first = first; count = count }

grown : Grows two (7 ∷ 4 ∷ 8 ∷ []) (run_at 4 5)
grown = (run_at 5 3, (refl, (run_at 4 4, (refl, (run_at 4 5, (refl, refl))))))

abbrev count_of : Run → ℕ
count_of run = run.count

-- no number makes no other run of it, and one makes just the run with it; none is left out
not_grown : (Grows two [] (run_at 5 3) → ⊥) × (Grows two (7 ∷ []) two → ⊥)
    × (Grows two (7 ∷ []) (run_at 5 4) → ⊥) × (Grows two (8 ∷ []) (run_at 5 3) → ⊥)
    × (Grows two (8 ∷ []) two → ⊥)
not_grown = (
  λ g. omega (arith, ap count_of g),
  λ g. grind arith,
  λ g. grind arith,
  λ g. grind arith,
  λ g. grind arith,
)

-- ---- a part of a list, and the run that it makes

a_part : IsPart (run_at 20 2) (20 ∷ 21 ∷ 5 ∷ []) (20 ∷ 21 ∷ []) (5 ∷ [])
a_part = record { whole = refl; grows = (20, (21 ∷ [], (refl, (run_at 20 2, (refl, refl))))) }

abbrev length_of : List ℕ → ℕ
length_of ns = length ns

-- a number that is in neither part, a run that has one more, one that begins elsewhere, and no
-- number
no_part : (IsPart (one_page 20) (20 ∷ 5 ∷ []) (20 ∷ []) [] → ⊥)
    × (IsPart (run_at 20 2) (20 ∷ []) (20 ∷ []) [] → ⊥)
    × (IsPart (one_page 21) (20 ∷ []) (20 ∷ []) [] → ⊥)
    × ((run : Run) → IsPart run [] [] [] → ⊥)
no_part = (
  λ p. omega (arith, ap length_of p.whole),
  λ p. grind arith,
  λ p. grind arith,
  λ run p. grind arith,
)

-- a run for no number, and no run for one
not_told : ((run : Run) → Tell (run ∷ []) [] → ⊥) × (Tell [] (5 ∷ []) → ⊥)
not_told = (λ run t. grind arith, λ t. omega (arith, ap length_of t))

-- ---- the pages that join a run

ends_of_two : AreEndsOf (record { behind = 7; before = 4 }) two
ends_of_two =
    record { behind = refl; before = λ page lt. (λ e. omega (arith, e), λ e. omega (arith, e)) }

not_further_on : AreEndsOf (record { behind = 8; before = 4 }) two → ⊥
not_further_on h = absurd (omega (arith, h.behind))

not_its_own : AreEndsOf (record { behind = 7; before = 5 }) two → ⊥
not_its_own h = let e : 5 + 1 ≡ 5 = (h.before 5 (omega arith)).0 refl in absurd (omega (arith, e))

-- no page joins no run
joins_none : AreEnds (record { behind = 0xffffffffffffffff; before = 0x100000000 }) 0 []
joins_none = record { none = λ e. (omega arith, omega arith); some = λ d lt. absurd (omega (arith, lt)) }

joins_what_is_not : AreEnds (record { behind = 7; before = 0x100000000 }) 0 [] → ⊥
joins_what_is_not h = let past = (h.none refl).0 in absurd (omega (arith, past))

-- the pages that join the last of two runs, and not those that join the first, or one of both
abbrev ends_at : ℕ → ℕ → Ends
ends_at behind before = record { behind = behind; before = before }

joins_last : AreEnds (ends_at 7 4) 2 (run_at 20 3 ∷ two ∷ run_at 9 1 ∷ [])
joins_last = record { none = λ e. absurd (omega (arith, e)); some = λ d lt. ends_of_two }

joins_other : (AreEnds (ends_at 23 19) 2 (run_at 20 3 ∷ two ∷ []) → ⊥)
    × (AreEnds (ends_at 7 4) 1 (run_at 20 3 ∷ two ∷ []) → ⊥)
    × (AreEnds (ends_at 7 3) 2 (run_at 20 3 ∷ two ∷ []) → ⊥)
    × (AreEnds (ends_at 0x100000000 7) 0 [] → ⊥)
    × (AreEnds (ends_at 0xffffffff 0x100000000) 0 [] → ⊥)
    × (AreEnds (ends_at 0x100000000 0xffffffff) 0 [] → ⊥)
joins_other = (
  λ h. omega (arith, (h.some two (omega arith)).behind),
  λ h. omega (arith, (h.some two (omega arith)).behind),
  λ h. omega (arith, ((h.some two (omega arith)).before 3 (omega arith)).0 refl),
  λ h. omega (arith, (h.none refl).1),
  λ h. omega (arith, (h.none refl).0),
  λ h. omega (arith, (h.none refl).1),
)
