-- Worked facts of a round: two guests of 4 pages on 6 frames, of which the first is let in, and is to give 2 pages.
use Rattle.std.proofs.Common.{◌≡◌, ◌≤◌, true, false, List, [], ◌∷◌, inr, get_or, refl, arith}
use Rattle.vb_host.specs.Promises.{IsQuiet}
use Rattle.vb_host.specs.Rounds.{IsRegular, IsSettled, round}
use Rattle.vb_host.specs.Seats.{due_grant, due_target, lent}
use Rattle.vb_host.specs.System.{Confirms, Does, Grants, Guest, Hears, Holds, Host, Limits, Reports, Step, Targets, Wants, arriving, opened, snapshot, through}

abbrev let_in : List Step
let_in = Reports 0 ∷ Hears 0 0 ∷ Grants 0 ∷ Wants 0 2 ∷ Targets 0 ∷ Limits 0 ∷ Confirms 0 ∷ []

abbrev first : Host → Guest
first h = get_or h.guests 0 (arriving 0 0)

abbrev before : Host
before = through let_in (opened 6 0 (4 ∷ 4 ∷ []))

abbrev after : Host
after = through (round 0 2) before

-- it was sent nothing yet, and its limit allows what it is lent; one round later it has given 2 pages
is_regular : IsRegular (first before)
is_regular = record { strict = refl; known = refl; limit = omega arith; target = omega arith }

before_it : ((first before).limit.sure ≡ 4) × (lent (first before).seat ≡ 4) × ((first before).seat.target ≡ 2) × (due_target (snapshot (first before).process) (first before).seat ≡ true) × ((first before).process.balloon ≡ 4)
before_it = (refl, refl, refl, refl, refl)

after_it : ((first after).process.balloon ≡ 2) × ((first after).process.held ≡ 0) × (lent (first after).seat ≡ 2)
after_it = (refl, refl, refl)

is_quiet : IsQuiet (first after)
is_quiet = record { known = refl; no_target = refl; no_grant = refl; read_told = refl; heard_read = refl; heard_held = λ w _. absurd (omega (arith, w)) }

not_quiet : IsQuiet (first before) → ⊥
not_quiet q = let e : true ≡ false = q.no_target in absurd (cc)

is_settled : IsSettled (first before) (first after)
is_settled = record { held = omega arith; settled = inr (is_quiet, λ _ _. omega arith) }

-- then it wants both pages back; as it gives 2 more first, what it holds back goes no deeper than its target, and the grant of that is on its way
abbrev again : Host
again = through (Does 0 (Holds 0 2) ∷ []) after

is_granted : (due_grant (snapshot (first (through (round 0 2) again)).process) (first (through (round 0 2) again)).seat ≡ true)
    × ((first (through (round 0 2) again)).process.balloon ≡ 4) × (lent (first (through (round 0 2) again)).seat ≡ 2)
is_granted = (refl, refl, refl)

-- and after another round nothing is
abbrev twice : Host
twice = through (round 0 2) (through (round 0 2) again)

is_quiet_then : IsQuiet (first twice) × ((first twice).process.balloon ≡ 4) × (lent (first twice).seat ≡ 2)
is_quiet_then = (
  record { known = refl; no_target = refl; no_grant = refl; read_told = refl; heard_read = refl; heard_held = λ w _. absurd (omega (arith, w)) },
  refl,
  refl,
)

-- a guest whose limit isn't sure, one that a later lender doesn't know, and one that is to give more than it has
not_regular : (IsRegular (record (first before) { limit = record { force = 4; asked = 4; sure = 3; writing = false } }) → ⊥) × (IsRegular (record (first before) { known = false }) → ⊥)
    × (IsRegular (record (first before) { strict = false }) → ⊥) × (IsRegular (first (through (Wants 0 5 ∷ Targets 0 ∷ []) before)) → ⊥)
not_regular = (
  λ r. let e : 4 ≤ 3 = r.limit in absurd (omega (arith, e)),
  λ r. let e : false ≡ true = r.known in absurd (cc),
  λ r. let e : false ≡ true = r.strict in absurd (cc),
  λ r. let e : 5 ≤ 4 = r.target in absurd (omega (arith, e)),
)

-- a guest that holds back more than before isn't settled
not_settled : IsSettled (first after) (first again) → ⊥
not_settled s = let e : 2 ≤ 0 = s.held in absurd (omega (arith, e))
