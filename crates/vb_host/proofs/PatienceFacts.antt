-- Worked facts of guests that let others pass: one seat, a line of four, and two guests that are reset on a host that has room for one.
use Rattle.std.proofs.Common.{◌≡◌, ℕ, ◌<◌, Bool, true, false, List, [], ◌∷◌, map, refl, arith}
use Rattle.vb_host.specs.declared.event.Event.TheVariants.{Defers as EventDefers, Wants as EventWants}
use Rattle.vb_host.specs.declared.report.Report.{Report}
use Rattle.vb_host.specs.declared.report.WaitingLine.TheVariants.{Deflates, Resets, Arrivals}
use Rattle.vb_host.specs.declared.seat.Seat.{Seat}
use Rattle.vb_host.specs.Lending.{each_at, is_first, may_grant, next_turn}
use Rattle.vb_host.specs.Patience.{IsInLastLine, IsNoDeferral, WaitsOn, deferred_at}
use Rattle.vb_host.specs.Promises.{used}
use Rattle.vb_host.specs.Seats.{deferring, granting, heard, is_deferred, lent, line_rank, may_defer, newcomer, queued, rank, taken_over, waiting_line}
use Rattle.vb_host.specs.System.{Arrives, Confirms, Defers, Does, Grants, Hears, Holds, Host, Limits, Obeys, Reads, Reports, Sends, Step, Targets, lending, opened, seats, through}

-- a guest of 60 pages, 30 of them in its balloon, that waits for 6
abbrev waiting : ℕ → ℕ → Seat
waiting line turn = record (newcomer 60) { ballooned = 30; held = 6; line = line; turn = turn; deflates = 3; granted = 2 }

-- what its process reports, with the number of the deflate and its line
abbrev report : ℕ → ℕ → Report
report deflates line = record { ballooned = 30; target = 60; read_target = 60; held = 6; line = line; outside = 0; target_number = 0; deflates = deflates; removed = 0 }

-- ---- who may, and what it does

may : map may_defer (waiting 0 3 ∷ waiting 1 3 ∷ waiting 2 3 ∷ waiting 9 3 ∷ record (waiting 1 3) { held = 0 } ∷ newcomer 60 ∷ []) ≡ false ∷ true ∷ true ∷ true ∷ false ∷ false ∷ []
may = refl

defers : (deferring 9 (waiting 1 3) ≡ record (waiting 1 9) { deferred = 1 }) × (deferring 9 (waiting 2 3) ≡ record (waiting 2 9) { deferred = 1 })
    × (deferring 9 (waiting 0 3) ≡ waiting 0 3) × (deferring 9 (newcomer 60) ≡ newcomer 60)
defers = (refl, refl, refl, refl)

-- again, with another turn
defers_again : deferring 12 (deferring 9 (waiting 1 3)) ≡ record (waiting 1 12) { deferred = 1 }
defers_again = refl

its_line : (map waiting_line (waiting 1 3 ∷ deferring 9 (waiting 1 3) ∷ record (waiting 0 3) { deferred = 7 } ∷ waiting 0 3 ∷ []) ≡ Resets ∷ Arrivals ∷ Arrivals ∷ Deflates ∷ [])
    × (map line_rank (waiting 1 3 ∷ deferring 9 (waiting 1 3) ∷ waiting 2 3 ∷ []) ≡ 1 ∷ 2 ∷ 2 ∷ [])
    × (map is_deferred (waiting 1 3 ∷ deferring 9 (waiting 1 3) ∷ newcomer 60 ∷ taken_over 60 (report 3 1) ∷ []) ≡ false ∷ true ∷ false ∷ false ∷ [])
    × (rank (deferring 9 (waiting 1 3)) ≡ 36893488147419103244)
its_line = (refl, refl, refl, refl)

-- ---- how long: in this deflate and line of its process, until it is granted

waits_on : heard 12 (report 3 1) (deferring 9 (waiting 1 3)) ≡ deferring 9 (waiting 1 3)
waits_on = refl

is_over : (heard 12 (report 4 1) (deferring 9 (waiting 1 3)) ≡ record (waiting 1 12) { deflates = 4 }) × (heard 12 (report 3 2) (deferring 9 (waiting 1 3)) ≡ waiting 2 12)
    × ((heard 12 (record (report 3 1) { held = 0 }) (deferring 9 (waiting 1 3))).deferred ≡ 0)
    × ((granting (deferring 9 (waiting 1 3))).deferred ≡ 0) × ((queued 12 (deferring 9 (waiting 1 3))).deferred ≡ 0)
is_over = (refl, refl, refl, refl, refl)

-- ---- a line: two resets, a newcomer, and one that doesn't wait

abbrev line : List Seat
line = waiting 1 3 ∷ waiting 1 5 ∷ waiting 2 4 ∷ newcomer 60 ∷ []

-- these let others pass, one after the other
abbrev after : List ℕ → List Seat
after [] = line
after (n ∷ ns) = let xs = after ns in each_at n (deferring (next_turn xs)) xs

abbrev first_of : List Seat → List Bool
first_of seats = map (is_first seats) (0 ∷ 1 ∷ 2 ∷ 3 ∷ [])

passes : (first_of line ≡ true ∷ false ∷ false ∷ false ∷ []) × (first_of (after (0 ∷ [])) ≡ false ∷ true ∷ false ∷ false ∷ [])
    × (first_of (after (1 ∷ 0 ∷ [])) ≡ false ∷ false ∷ true ∷ false ∷ []) × (first_of (after (2 ∷ 1 ∷ 0 ∷ [])) ≡ true ∷ false ∷ false ∷ false ∷ [])
    × (first_of (after (3 ∷ [])) ≡ true ∷ false ∷ false ∷ false ∷ [])
passes = (refl, refl, refl, refl, refl)

last_line : IsInLastLine (after (0 ∷ [])) 0
last_line = record { waits = omega arith; line = refl; deferred = omega arith }

-- a reset in its own line, a newcomer that lets nobody pass, and one that doesn't wait
not_last : (IsInLastLine line 0 → ⊥) × (IsInLastLine line 2 → ⊥) × (IsInLastLine (record (newcomer 60) { line = 2; deferred = 1 } ∷ []) 0 → ⊥)
not_last = (
  λ i. let e : 0 < 0 = i.deferred in absurd (omega (arith, e)),
  λ i. let e : 0 < 0 = i.deferred in absurd (omega (arith, e)),
  λ i. let e : 0 < 0 = i.waits in absurd (omega (arith, e)),
)

goes_on : WaitsOn line (after (0 ∷ [])) 0 × WaitsOn line (after (0 ∷ [])) 1
goes_on = (record { waited = omega arith; waits = omega arith; deflate = refl; line = refl }, record { waited = omega arith; waits = omega arith; deflate = refl; line = refl })

-- one that doesn't wait, or didn't, waits in another deflate, or in another line
not_on : (WaitsOn line line 3 → ⊥) × (WaitsOn line (granting (waiting 1 3) ∷ []) 0 → ⊥) × (WaitsOn (newcomer 60 ∷ []) line 0 → ⊥)
    × (WaitsOn line (record (waiting 1 3) { deflates = 4 } ∷ []) 0 → ⊥) × (WaitsOn line (waiting 2 3 ∷ []) 0 → ⊥)
not_on = (
  λ w. let e : 0 < 0 = w.waited in absurd (omega (arith, e)),
  λ w. let e : 0 < 0 = w.waits in absurd (omega (arith, e)),
  λ w. let e : 0 < 0 = w.waited in absurd (omega (arith, e)),
  λ w. let e : 4 ≡ 3 = w.deflate in absurd (omega (arith, e)),
  λ w. let e : 2 ≡ 1 = w.line in absurd (omega (arith, e)),
)

no_deferral : IsNoDeferral 0 (EventDefers 1) × IsNoDeferral 0 (EventWants 0 3) × (IsNoDeferral 1 (EventDefers 1) → ⊥)
no_deferral = (λ e. absurd (omega (arith, e)), tt, λ d. d refl)

deferred_each : map (deferred_at (after (0 ∷ []))) (0 ∷ 1 ∷ 2 ∷ 3 ∷ 4 ∷ []) ≡ 1 ∷ 0 ∷ 0 ∷ 0 ∷ 0 ∷ []
deferred_each = refl

-- ---- two guests of 6 pages on 5 frames, each let in with 2 of them, are reset: the first wants 4 pages back, and the second 1

abbrev let_in : ℕ → List Step
let_in n = Arrives n 6 4 ∷ Reports n ∷ Hears n 0 ∷ Grants n ∷ Targets n ∷ Limits n ∷ Confirms n ∷ Sends n ∷ Obeys n 1 ∷ Obeys n 0 ∷ Does n Reads ∷ Reports n ∷ Hears n 0 ∷ []

abbrev resets : ℕ → ℕ → List Step
resets n pages = Does n (Holds 1 pages) ∷ Reports n ∷ Hears n 0 ∷ []

abbrev both_wait : Host
both_wait = through (resets 1 1) (through (resets 0 4) (through (let_in 1) (through (let_in 0) (opened 5 0 (6 ∷ 6 ∷ [])))))

abbrev let_pass : Host
let_pass = through (Defers 0 ∷ []) both_wait

abbrev passed : Host
passed = through (Grants 1 ∷ Limits 1 ∷ Confirms 1 ∷ Sends 1 ∷ Obeys 1 1 ∷ []) let_pass

abbrev may_each : Host → List Bool
may_each h = map (may_grant (lending h)) (0 ∷ 1 ∷ [])

abbrev lends_each : Host → List ℕ
lends_each h = map (λ s. lent s) (seats h.guests)

lets_pass : (map may_each (both_wait ∷ let_pass ∷ passed ∷ []) ≡ (false ∷ false ∷ []) ∷ (false ∷ true ∷ []) ∷ (false ∷ false ∷ []) ∷ [])
    × (map lends_each (both_wait ∷ let_pass ∷ passed ∷ []) ≡ (2 ∷ 2 ∷ []) ∷ (2 ∷ 2 ∷ []) ∷ (2 ∷ 3 ∷ []) ∷ [])
    × (map used passed.guests ≡ 2 ∷ 3 ∷ [])
lets_pass = (refl, refl, refl)

-- while it waits on, the next reset of the other comes before it, too, which comes to an earlier line
abbrev asks_again : Host
asks_again = through (Reports 0 ∷ Hears 0 0 ∷ []) (through (resets 1 1) (through (Reports 1 ∷ Hears 1 0 ∷ []) passed))

stays_behind : (map (λ s. s.deferred) (seats asks_again.guests) ≡ 1 ∷ 0 ∷ []) × (map (is_first (seats asks_again.guests)) (0 ∷ 1 ∷ []) ≡ false ∷ true ∷ [])
stays_behind = (refl, refl)
