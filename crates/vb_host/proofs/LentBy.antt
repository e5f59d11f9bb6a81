-- What is lent to a guest, before and after each step.
use Rattle.std.proofs.Common.{◌≡◌, ℕ, zero, suc, ◌+◌, ◌-◌, ◌≤◌, Bool, true, false, ◌&&◌, ◌==◌, nat_le, if◌then◌else◌, List, [], ◌∷◌, max, min, arith}
use Rattle.std.proofs.lemmas.Bool.Decides.{nat_tests}
use Rattle.vb_host.specs.declared.report.Report.{Report}
use Rattle.vb_host.specs.declared.seat.Seat.{Seat}
use Rattle.vb_host.specs.Seats.{asked, counting, covers, granting, heard, lent, noting, possible_target, waits}
use Rattle.vb_host.specs.Seats.{left, reclaimed, retargeted, needs_grant}
use Rattle.vb_host.specs.System.{changed, hearing, report_at, viewed}
use Rattle.vb_host.proofs.Sound.{and_right, either, hears, le_true, notes}

-- ---- no report lends anything, whatever numbers it has

is_within : (fallen taken more most : ℕ) → (nat_le fallen taken && nat_le more most) ≡ true → more ≤ most
is_within fallen taken more most e = le_true more most (and_right (nat_le fallen taken) _ e)

notes_lend : (ballooned held : ℕ) (r : Report) (s : Seat) → lent (noting ballooned held r s) ≤ lent s
notes_lend ballooned held r s = notes (λ (x : Seat). lent x ≤ lent s) ballooned held r s (λ e. omega (arith, is_within (s.ballooned - ballooned) (r.removed - s.removed) (left r s + r.outside + (s.ballooned - ballooned)) (s.pages + s.outside) e)) (λ _. omega arith)

counts_lend : (r : Report) (s : Seat) → lent (counting r s) ≤ lent s
counts_lend r s = either (λ (x : Seat). lent x ≤ lent s) (r.deflates == s.granted) _ _
    (λ _. notes_lend (r.ballooned - r.held) 0 r s) (λ _. notes_lend r.ballooned r.held r s)

pub covered_lends : (s : Seat) → covers s ≡ true → lent (granting s) ≤ lent s
covered_lends s e = grind (arith, nat_tests)

pub hears_lend : (turn : ℕ) (r : Report) (s : Seat) → lent (heard turn r s) ≤ lent s
hears_lend turn r s = hears (λ (x : Seat). lent x ≤ lent s) turn r s
    (record { granted = λ x e l. omega (arith, covered_lends x e, l); raised_to = λ _ l. omega (arith, l); turned = λ _ _ l. omega (arith, l) }) (omega arith) (λ q. counts_lend q s)

pub hearing_lends : (turn : ℕ) (reports : List Report) (i : ℕ) (s : Seat) → lent (hearing turn (report_at reports i) s) ≤ lent s
hearing_lends turn [] i s = omega arith
hearing_lends turn (r ∷ reports) zero s = hears_lend turn r s
hearing_lends turn (r ∷ reports) (suc i) s = hearing_lends turn reports i s

-- ---- a target, and a grant

-- what is reclaimed falls by no more than the room
pub possible_reclaims : (room : ℕ) (s : Seat) → reclaimed s ≤ possible_target room s + room
possible_reclaims room s = either (λ (n : ℕ). reclaimed s ≤ max s.wanted (reclaimed s - n) + room) (needs_grant s) 0 room (λ _. omega arith) (λ _. omega arith)

pub targets_lend : (room : ℕ) (s : Seat) → lent (retargeted room s) ≤ lent s + room
targets_lend room s = let l = possible_reclaims room s in either (λ (x : Seat). lent x ≤ lent s + room) (s.target_number == 18446744073709551615) _ _
    (λ _. omega arith) (λ _. omega (arith, l))

-- what a target leaves as it is
pub retargets : (P : Seat → Type 0) (room : ℕ) (s : Seat) → P s
    → ((number : ℕ) → P (record s { target = possible_target room s; target_number = number; least_target = min s.least_target (possible_target room s) })) → P (retargeted room s)
retargets P room s h k = either P (s.target_number == 18446744073709551615) _ _ (λ _. h) (λ _. k (if s.target == possible_target room s then s.target_number else s.target_number + 1))

pub asks_lend : (s : Seat) → waits s ≡ true → lent (granting s) ≤ lent s + asked s
asks_lend s e = grind (arith, e)

-- ---- what a guest is lent, and what it is lent as the lender sees it

pub viewed_lends : (b : Bool) (s : Seat) → lent s ≤ lent (viewed b s)
viewed_lends true s = omega arith
viewed_lends false s = omega arith

pub changed_lends : (b : Bool) (f : Seat → Seat) (s : Seat) (more : ℕ) → lent (f s) ≤ lent s + more → lent (changed b f s) ≤ lent s + more
changed_lends true f s more h = h
changed_lends false f s more h = omega arith

pub seen_lends : (b : Bool) (f : Seat → Seat) (s : Seat) (test : Seat → Bool) (more : Seat → ℕ)
    → ((t : Seat) → test t ≡ true → lent (f t) ≤ lent t + more t) → test (viewed b s) ≡ true → lent (changed b f s) ≤ lent (viewed b s) + more (viewed b s)
seen_lends true f s test more h t = h s t
seen_lends false f s test more h t = omega arith
