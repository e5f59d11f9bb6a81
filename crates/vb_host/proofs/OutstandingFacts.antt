-- Worked facts of what is outstanding: two guests of 4 pages on 6 frames, of which first the one is to give 2 pages, and then the other is to give 1.
use Rattle.std.proofs.Common.{◌≡◌, ℕ, zero, suc, ◌+◌, ◌-◌, ◌≤◌, ◌<◌, Bool, true, false, List, [], ◌∷◌, map, ◌++◌, inl, inr, get_or, Some, refl, subst, arith}
use Rattle.std.specs.List.{AllByRecursion}
use Rattle.vb_host.specs.declared.seat.Seat.{Seat}
use Rattle.vb_host.specs.Lending.{held_at, may_grant, owed, rank_at, test_at, value_at}
use Rattle.vb_host.specs.Line.{GrantsNone, IsFirst}
use Rattle.vb_host.specs.Outstanding.{AllGiveEnough, GivesEnough, HadRounds, HasEnough, HasRound, IsAimed, IsAsBefore, IsGranted, IsTargeted, Move, OneRoundEach, WaitsForPages}
use Rattle.vb_host.specs.Outstanding.{all_need, all_outstanding, by_moves, has_round, is_counted, moved, needs, outstanding, outstanding_at, staying}
use Rattle.vb_host.specs.Rounds.{round}
use Rattle.vb_host.specs.Seats.{asked, covers}
use Rattle.vb_host.specs.System.{Budget, Confirms, Does, Drops, Grants, Guest, Hears, Holds, Host, Limits, Obeys, Reads, Reports, Sends, Step, Targets, Wants}
use Rattle.vb_host.specs.System.{arriving, lending, opened, seats, through}
use Rattle.vb_host.proofs.Lists.{some_is}

abbrev let_in : List Step
let_in = Reports 0 ∷ Hears 0 0 ∷ Grants 0 ∷ Targets 0 ∷ Limits 0 ∷ Confirms 0 ∷ Sends 0 ∷ Obeys 0 1 ∷ Obeys 0 0 ∷ Does 0 Reads ∷ Reports 0 ∷ Hears 0 0 ∷ []

-- The first is let in with all its pages; then the second waits for its own, and 2 are wanted of the first.
abbrev before : Host
before = through (Reports 1 ∷ Hears 1 0 ∷ Wants 0 2 ∷ Targets 0 ∷ []) (through let_in (opened 6 0 (4 ∷ 4 ∷ [])))

abbrev of_each : (Guest → ℕ) → Host → List ℕ
of_each value h = map value h.guests

abbrev may_each : Host → List Bool
may_each h = map (may_grant (lending h)) (0 ∷ 1 ∷ [])

abbrev waits_each : Host → List ℕ
waits_each h = map (held_at (seats h.guests)) (0 ∷ 1 ∷ [])

abbrev number : ℕ → Host → Guest
number n h = get_or h.guests n (arriving 0 0)

before_it : (of_each staying before ≡ 2 ∷ 0 ∷ []) × (of_each needs before ≡ 2 ∷ 4 ∷ []) × (of_each outstanding before ≡ 2 ∷ 0 ∷ []) × (all_need before ≡ 6) × (all_outstanding before ≡ 2)
    × (may_each before ≡ false ∷ false ∷ []) × (waits_each before ≡ 0 ∷ 4 ∷ [])
before_it = (refl, refl, refl, refl, refl, refl, refl)

-- one round of the first, and the second is let in
abbrev after : Host
after = by_moves (HasRound 0 2 ∷ []) before

after_it : (of_each outstanding after ≡ 0 ∷ 0 ∷ []) × (all_outstanding after ≡ 0) × (all_need after ≡ 6) × (may_each after ≡ false ∷ true ∷ []) × (waits_each after ≡ 0 ∷ 4 ∷ [])
    × (waits_each (by_moves (IsGranted 1 ∷ []) after) ≡ 0 ∷ 0 ∷ [])
after_it = (refl, refl, refl, refl, refl, refl)

-- with a page less it isn't enough, and the second waits on
too_few : (GivesEnough before (HasRound 0 1) → ⊥) × (of_each outstanding (moved before (HasRound 0 1)) ≡ 1 ∷ 0 ∷ []) × (may_each (moved before (HasRound 0 1)) ≡ false ∷ false ∷ [])
too_few = (λ e. let f : 2 ≤ 1 = e (number 0 (moved before (HasRound 0 1))) refl refl in absurd (omega (arith, f)), refl, refl)

-- ---- both give, and both take: the first is out of memory and holds back a page below its target, and 1 page is wanted of the second

abbrev both : Host
both = through (Wants 1 1 ∷ Targets 1 ∷ Does 0 (Holds 0 1) ∷ []) (by_moves (IsGranted 1 ∷ HasRound 1 0 ∷ []) after)

both_need : (of_each staying both ≡ 1 ∷ 1 ∷ []) × (of_each needs both ≡ 3 ∷ 3 ∷ []) × (of_each outstanding both ≡ 0 ∷ 1 ∷ []) × (all_need both ≡ 6) × (all_outstanding both ≡ 1)
both_need = (refl, refl, refl, refl, refl)

-- The lender hears that the first waits; the second has its round, and the first is granted.
abbrev moves : List Move
moves = HasRound 0 0 ∷ IsGranted 0 ∷ IsTargeted 1 ∷ HasRound 1 1 ∷ IsGranted 0 ∷ IsTargeted 0 ∷ IsTargeted 1 ∷ []

abbrev heard_first : Host
heard_first = by_moves (HasRound 0 0 ∷ IsGranted 0 ∷ IsTargeted 1 ∷ []) both

on_the_way : (of_each outstanding heard_first ≡ 0 ∷ 1 ∷ []) × (waits_each heard_first ≡ 1 ∷ 0 ∷ []) × (may_each heard_first ≡ false ∷ false ∷ [])
    × (of_each outstanding (moved heard_first (HasRound 1 1)) ≡ 0 ∷ 0 ∷ []) × (may_each (moved heard_first (HasRound 1 1)) ≡ true ∷ false ∷ [])
on_the_way = (refl, refl, refl, refl, refl)

all_served : (of_each outstanding (by_moves moves both) ≡ 0 ∷ 0 ∷ []) × (waits_each (by_moves moves both) ≡ 0 ∷ 0 ∷ []) × (all_need (by_moves moves both) ≡ 6)
all_served = (refl, refl, refl)

-- what the law asks for
are_aimed : AllByRecursion IsAimed both.guests
are_aimed = (omega arith, (omega arith, tt))

have_rounds : map (λ n. has_round n moves) (0 ∷ 1 ∷ 2 ∷ []) ≡ true ∷ true ∷ false ∷ []
have_rounds = refl

there : (x g : Guest) → HasEnough x → Some x ≡ Some g → HasEnough g
there x g h e = subst HasEnough (some_is x g e) h

give_enough : AllGiveEnough moves both
give_enough = (
  λ g e. there (number 0 (moved both (HasRound 0 0))) g (λ w. let f : 1 ≡ 0 = w in absurd (omega (arith, f))) e,
  (tt, (tt, (λ g e. there (number 1 (moved heard_first (HasRound 1 1))) g (λ _. omega arith) e, (tt, (tt, (tt, tt)))))),
)

none_left : GrantsNone (lending (by_moves moves both))
none_left = record { none_covered = covered; no_room = inl nobody } where
  covered : (n : ℕ) → test_at covers (seats (by_moves moves both).guests) n ≡ false
  covered zero = refl
  covered (suc zero) = refl
  covered (suc (suc n)) = refl

  nobody : (n : ℕ) → held_at (seats (by_moves moves both).guests) n ≡ 0
  nobody zero = refl
  nobody (suc zero) = refl
  nobody (suc (suc n)) = refl

rounds_of : (k : ℕ) → 0 < outstanding_at both k → has_round k moves ≡ true
rounds_of zero w = refl
rounds_of (suc zero) w = refl
rounds_of (suc (suc k)) w = let e : 0 < 0 = w in absurd (omega (arith, e))

had_rounds : HadRounds both moves
had_rounds = record { aimed = are_aimed; enough = give_enough; each = rounds_of; granted = none_left }

-- the second had no round, the first had one of too few pages, and the first may be granted
had_not : (HadRounds both (HasRound 0 0 ∷ []) → ⊥) × (HadRounds before (HasRound 0 1 ∷ []) → ⊥) × (HadRounds both (HasRound 0 0 ∷ HasRound 1 1 ∷ []) → ⊥)
had_not = (
  λ r. let e : false ≡ true = r.each 1 (omega arith) in absurd (cc),
  λ r. too_few.0 r.enough.0,
  λ r. elim r.granted.no_room [
    | inl none ↦ let e : 1 ≡ 0 = none 0 in absurd (omega (arith, e))
    | inr first ↦ none_first first.0 first.1.waits first.2
  ],
) where
  none_first : (n : ℕ) → 0 < held_at (seats (by_moves (HasRound 0 0 ∷ HasRound 1 1 ∷ []) both).guests) n
      → 6 < owed (seats (by_moves (HasRound 0 0 ∷ HasRound 1 1 ∷ []) both).guests) + value_at asked (seats (by_moves (HasRound 0 0 ∷ HasRound 1 1 ∷ []) both).guests) n → ⊥
  none_first zero w l = let e : 6 < 6 = l in omega (arith, e)
  none_first (suc zero) w l = let e : 0 < 0 = w in omega (arith, e)
  none_first (suc (suc n)) w l = let e : 0 < 0 = w in omega (arith, e)

-- the first still holds back what was granted, until its next round
receives : (of_each (λ g. g.process.held) (by_moves moves both) ≡ 1 ∷ 0 ∷ []) × (of_each (λ g. g.process.held) (by_moves (HasRound 1 0 ∷ []) (by_moves moves both)) ≡ 1 ∷ 0 ∷ [])
    × (of_each (λ g. g.process.held) (by_moves (HasRound 0 0 ∷ []) (by_moves moves both)) ≡ 0 ∷ 0 ∷ [])
receives = (refl, refl, refl)

-- on 5 frames the host is short: all have given, and the first waits on
abbrev shortened : Host
shortened = through (Budget 5 ∷ []) both

abbrev short : Host
short = by_moves moves shortened

is_short : (of_each outstanding short ≡ 0 ∷ 0 ∷ []) × (all_need short ≡ 6) × (short.frames ≡ 5) × (waits_each short ≡ 1 ∷ 0 ∷ []) × (may_each short ≡ false ∷ false ∷ [])
is_short = (refl, refl, refl, refl, refl)

-- where the first of two waits for a page, and the second doesn't wait
first_waits : (xs : List Seat) → held_at xs 0 ≡ 1 → ((i : ℕ) → held_at xs (suc i) ≡ 0) → IsFirst xs 0
first_waits xs e none = record { waits = omega (arith, e); before_all = after; lowest = λ i l. absurd (omega (arith, l)) } where
  after : (i : ℕ) → 0 < held_at xs i → rank_at xs 0 ≤ rank_at xs i
  after zero w = omega arith
  after (suc i) w = absurd (omega (arith, w, none i))

waits_on : GrantsNone (lending heard_first)
waits_on = record { none_covered = covered; no_room = inr (0, first_waits (seats heard_first.guests) refl others, omega arith) } where
  covered : (n : ℕ) → test_at covers (seats heard_first.guests) n ≡ false
  covered zero = refl
  covered (suc zero) = refl
  covered (suc (suc n)) = refl

  others : (i : ℕ) → held_at (seats heard_first.guests) (suc i) ≡ 0
  others zero = refl
  others (suc i) = refl

-- a page is enough to wait for, and it goes deeper than the target
one_page : (WaitsForPages → 6 < 7) × ((number 0 heard_first).seat.ballooned - (number 0 heard_first).seat.held ≡ 1) × ((number 0 heard_first).seat.target ≡ 2)
one_page = (λ law. law heard_first 0 waits_on (omega arith), refl, refl)

-- so the law says of that host that it is short: that run, with its steps one by one
abbrev all_steps : List Step
all_steps = let_in ++ (Reports 1 ∷ Hears 1 0 ∷ Wants 0 2 ∷ Targets 0 ∷ Confirms 0 ∷ Limits 0 ∷ Confirms 0 ∷ round 0 2) ++ (Grants 1 ∷ Confirms 1 ∷ Limits 1 ∷ Confirms 1 ∷ round 1 0)
    ++ (Wants 1 1 ∷ Targets 1 ∷ Does 0 (Holds 0 1) ∷ Budget 5 ∷ [])

is_reached : through all_steps (opened 6 0 (4 ∷ 4 ∷ [])) ≡ shortened
is_reached = refl

short_enough : AllGiveEnough moves shortened
short_enough = (
  λ g e. there (number 0 (moved shortened (HasRound 0 0))) g (λ w. let f : 1 ≡ 0 = w in absurd (omega (arith, f))) e,
  (tt, (tt, (λ g e. there (number 1 (by_moves (HasRound 0 0 ∷ IsGranted 0 ∷ IsTargeted 1 ∷ HasRound 1 1 ∷ []) shortened)) g (λ _. omega arith) e, (tt, (tt, (tt, tt)))))),
)

short_rounds : HadRounds shortened moves
short_rounds = record { aimed = are_aimed; enough = short_enough; each = rounds_of; granted = record { none_covered = covered; no_room = inr (0, first_waits (seats short.guests) refl others, omega arith) } } where
  covered : (n : ℕ) → test_at covers (seats short.guests) n ≡ false
  covered zero = refl
  covered (suc zero) = refl
  covered (suc (suc n)) = refl

  others : (i : ℕ) → held_at (seats short.guests) (suc i) ≡ 0
  others zero = refl
  others (suc i) = refl

says_short : OneRoundEach → 5 < 6
says_short law = law 6 0 (4 ∷ 4 ∷ []) all_steps moves 0 short_rounds (omega arith)

-- where a target is below what is wanted, a round isn't enough
abbrev unaimed : Host
unaimed = through (Wants 0 3 ∷ []) before

not_aimed : (AllByRecursion IsAimed unaimed.guests → ⊥) × (of_each outstanding (moved unaimed (HasRound 0 2)) ≡ 1 ∷ 0 ∷ []) × ((number 0 (moved unaimed (IsTargeted 0))).seat.target ≡ 3)
not_aimed = (λ a. let e : 3 ≤ 2 = a.0 in absurd (omega (arith, e)), refl, refl)

-- ---- the words

-- a guest that isn't strict, one that a later lender doesn't know, and one whose balloon counts no longer need all their pages, and those outside
abbrev others : Guest → List Guest
others g = record g { strict = false } ∷ record g { known = false } ∷ record g { seat = record g.seat { uncounted = 1; ballooned = 0 } } ∷ record g { seat = record g.seat { outside = 2 } } ∷ []

who_counts : (map is_counted (others (number 0 before)) ≡ false ∷ false ∷ false ∷ true ∷ []) × (map staying (others (number 0 before)) ≡ 0 ∷ 0 ∷ 0 ∷ 2 ∷ [])
    × (map needs (others (number 0 before)) ≡ 4 ∷ 4 ∷ 4 ∷ 4 ∷ []) × (map outstanding (others (number 0 before)) ≡ 0 ∷ 0 ∷ 0 ∷ 2 ∷ [])
who_counts = (refl, refl, refl, refl)

-- a deflate that the process dropped since counts as what the guest waits for, until that is heard
dropped : (of_each outstanding (through (Does 0 Drops ∷ []) heard_first) ≡ 1 ∷ 1 ∷ []) × (of_each outstanding (through (Does 0 Drops ∷ Reports 0 ∷ Hears 0 0 ∷ []) heard_first) ≡ 0 ∷ 1 ∷ [])
dropped = (refl, refl)

same_and_not : IsAsBefore before (moved before (IsGranted 1)) × IsAsBefore before (moved before (IsTargeted 0)) × (IsAsBefore before after → ⊥)
    × (IsAsBefore both (through (Wants 1 2 ∷ []) both) → ⊥)
same_and_not = ((refl, refl), (refl, refl), λ s. let e : 0 ≡ 2 = s.0 in absurd (omega (arith, e)), λ s. let e : 2 ≡ 1 = s.0 in absurd (omega (arith, e)))
