-- Worked facts: what one report or target makes of a seat, and a day of two guests; and what goes
-- wrong where targets have no numbers.
use Rattle.std.proofs.Common.{◌≡◌, ℕ, true, false, Bool, ◌&&◌, ◌==◌, if◌then◌else◌, List, [], ◌∷◌, map, refl, arith}
use Rattle.std.specs.List.{AllByRecursion}
use Rattle.vb_host.specs.declared.report.Report.{Report}
use Rattle.vb_host.specs.declared.report.WaitingLine.TheVariants.{Deflates, Resets, Arrivals}
use Rattle.vb_host.specs.declared.seat.Seat.{Seat}
use Rattle.vb_host.specs.Lending.{may_grant, is_first, all_targeted, next_turn, preferring_at}
use Rattle.vb_host.specs.Promises.{counts_nothing, keeps, used, IsQuiet, all_keep, HasGiven}
use Rattle.vb_host.specs.Seats.{lent, asked, waits, heard, possible_target, targeted, newcomer, uncounting, line_of, due_grant, due_target, is_done}
use Rattle.vb_host.specs.Seats.{is_preferred, is_uncounted, line_number, preferring, rank, retargeted, taken_over}
use Rattle.vb_host.specs.System.{opened, through, seats, Gives, Reads, Host, lending, Step, Does, Reports, Obeys, Hears, Grants, Wants, Sends, Limits}
use Rattle.vb_host.specs.System.{Lands, Confirms, Joins, TakesOver, Forgets, Process, Shrinks, may_shrink, Targets}

-- a guest of 60 pages: in its balloon, the least target and the last one, and that one's number
abbrev seat : ℕ → ℕ → ℕ → ℕ → Seat
seat ballooned least told number = record {
  pages = 60;
  ballooned = ballooned;
  least_target = least;
  target = told;
  wanted = 10;
  held = 0;
  line = 0;
  outside = 0;
  target_number = number;
  deflates = 2;
  granted = 2;
  removed = 0;
  turn = 0;
  uncounted = 0;
  preferred = 0;
  deferred = 0;
}

-- what its process reports: its balloon, the target that was read and the number of the last one, and a deflate
abbrev report : ℕ → ℕ → ℕ → ℕ → ℕ → Report
report ballooned read heard held deflates = record {
  ballooned = ballooned;
  target = read;
  read_target = read;
  held = held;
  line = 0;
  outside = 0;
  target_number = heard;
  deflates = deflates;
  removed = 0;
}

-- ---- what is lent: all but the part of the balloon below the least target

lends : map (λ s. lent s) (seat 20 30 30 1 ∷ seat 20 10 30 1 ∷ seat 30 30 30 1 ∷ seat 70 70 70 1 ∷ newcomer 60 ∷ uncounting (newcomer 60) ∷ []) ≡ 40 ∷ 50 ∷ 30 ∷ 0 ∷ 0 ∷ 60 ∷ []
lends = refl

-- ---- a report

-- pages that join the balloon come back, but for those beyond the least target
comes_back : map (λ r. lent (heard 9 r (seat 20 25 30 4))) (report 20 25 3 0 2 ∷ report 24 25 3 0 2 ∷ report 30 25 3 0 2 ∷ []) ≡ 40 ∷ 36 ∷ 35 ∷ []
comes_back = refl

-- once the last target was read, those come back too; by the number of that target alone
comes_back_read : map (λ r. lent (heard 9 r (seat 30 25 30 4))) (report 30 30 4 0 2 ∷ report 30 25 4 0 2 ∷ report 30 30 3 0 2 ∷ []) ≡ 30 ∷ 35 ∷ 35 ∷ []
comes_back_read = refl

-- a deflate that goes no deeper than the least target is granted, and lends nothing; a deeper one waits
granted_at_once : heard 9 (report 30 25 3 5 3) (seat 30 25 30 4) ≡ record (seat 25 25 30 4) { deflates = 3; granted = 3 }
granted_at_once = refl

waits_in_line : heard 9 (report 30 25 3 6 3) (seat 30 25 30 4) ≡ record (seat 30 25 30 4) { held = 6; deflates = 3; turn = 9 }
waits_in_line = refl

asks_for_less : asked (heard 9 (report 30 25 3 6 3) (seat 30 25 30 4)) ≡ 1
asks_for_less = refl

-- it keeps its turn
stays_in_line : heard 12 (report 30 25 3 6 3) (heard 9 (report 30 25 3 6 3) (seat 30 25 30 4)) ≡ record (seat 30 25 30 4) { held = 6; deflates = 3; turn = 9 }
stays_in_line = refl

-- another deflate, and the same one in another line, take another turn
takes_another : (heard 12 (report 30 25 3 7 4) (heard 9 (report 30 25 3 6 3) (seat 30 25 30 4)) ≡ record (seat 30 25 30 4) { held = 7; deflates = 4; turn = 12 })
    × (heard 12 (record (report 30 25 3 6 3) { line = 1 }) (heard 9 (report 30 25 3 6 3) (seat 30 25 30 4)) ≡ record (seat 30 25 30 4) { held = 6; line = 1; deflates = 3; turn = 12 })
    × ((heard 12 (report 30 25 3 0 3) (heard 9 (report 30 25 3 6 3) (seat 30 25 30 4))).turn ≡ 0)
takes_another = (refl, refl, refl)

-- what a later lender knows: each deflate before the one that is held was granted, and the lower of both targets may be obeyed
taken_over_so : (taken_over 60 (record (report 30 25 3 5 3) { target = 28 }) ≡ record (seat 30 25 28 3) { wanted = 28; held = 5; deflates = 3 })
    × (taken_over 60 (record (report 30 25 3 0 3) { target = 20 }) ≡ record (seat 30 20 20 3) { wanted = 20; deflates = 3; granted = 3 })
taken_over_so = (refl, refl)

-- what is due, and who has given what its target says
due : (map (λ number. due_target (report 20 25 number 0 2) (seat 20 25 30 4)) (3 ∷ 4 ∷ 5 ∷ []) ≡ true ∷ false ∷ true ∷ [])
    × (map (λ r. due_grant r (seat 20 25 30 4)) (report 20 25 4 1 2 ∷ report 20 25 4 0 2 ∷ report 20 25 4 1 3 ∷ report 20 25 4 1 1 ∷ []) ≡ true ∷ false ∷ false ∷ false ∷ [])
due = (refl, refl)

done : map is_done (seat 29 25 30 4 ∷ seat 30 25 30 4 ∷ record (seat 29 25 30 4) { held = 1 } ∷ record (seat 0 0 30 4) { uncounted = 1 } ∷ seat 0 0 30 4 ∷ [])
    ≡ false ∷ true ∷ true ∷ true ∷ false ∷ []
done = refl

-- ---- a guest whose balloon counts no longer

uncounts : (uncounting (seat 30 25 30 4) ≡ record (seat 0 0 30 4) { uncounted = 1 })
    × (map is_uncounted (seat 30 25 30 4 ∷ uncounting (seat 30 25 30 4) ∷ record (seat 30 25 30 4) { uncounted = 7 } ∷ []) ≡ false ∷ true ∷ true ∷ [])
uncounts = (refl, refl)

-- a report shows an empty balloon; its deflate is granted, however deep; a target lends nothing, and takes nothing
believed_none : (heard 9 (report 30 30 4 0 2) (uncounting (seat 30 25 30 4)) ≡ record (seat 0 30 30 4) { uncounted = 1 })
    × (heard 9 (report 30 25 4 20 3) (uncounting (seat 30 25 30 4)) ≡ record (seat 0 0 30 4) { deflates = 3; granted = 3; uncounted = 1 })
    × (map (λ room. lent (retargeted room (uncounting (seat 30 25 30 4)))) (0 ∷ 4 ∷ 99 ∷ []) ≡ 60 ∷ 60 ∷ 60 ∷ [])
    × (map counts_nothing (uncounting (seat 30 25 30 4) ∷ seat 0 0 30 4 ∷ record (seat 1 0 30 4) { uncounted = 1 } ∷ []) ≡ true ∷ false ∷ false ∷ [])
believed_none = (refl, refl, refl, refl)

-- another guest at its place, and a later lender, count its balloon again
counts_again : map (λ s. s.uncounted) (newcomer 60 ∷ taken_over 60 (report 30 25 3 5 3) ∷ []) ≡ 0 ∷ 0 ∷ []
counts_again = refl

-- it keeps all its pages, and one that waits what its grant would lend
kept : map keeps (uncounting (seat 30 25 30 4) ∷ seat 30 25 30 4 ∷ record (seat 30 25 30 4) { held = 10 } ∷ []) ≡ 60 ∷ 30 ∷ 40 ∷ []
kept = refl

-- ---- the line: deflates, then resets, then newcomers, in each by turn, and of one turn the lowest place first

abbrev waiting : ℕ → ℕ → Seat
waiting line turn = record (seat 30 25 30 4) { held = 6; line = line; turn = turn }

lines : map line_of (0 ∷ 1 ∷ 2 ∷ 4294967295 ∷ []) ≡ Deflates ∷ Resets ∷ Arrivals ∷ Arrivals ∷ []
lines = refl

ranks : (map line_number (Deflates ∷ Resets ∷ Arrivals ∷ []) ≡ 0 ∷ 1 ∷ 2 ∷ [])
    × (map rank (waiting 0 7 ∷ waiting 1 7 ∷ waiting 2 7 ∷ []) ≡ 8 ∷ 18446744073709551625 ∷ 36893488147419103242 ∷ [])
ranks = (refl, refl)

turns : map next_turn ([] ∷ (waiting 0 7 ∷ waiting 1 9 ∷ waiting 2 8 ∷ []) ∷ (waiting 0 18446744073709551614 ∷ []) ∷ (waiting 0 18446744073709551615 ∷ []) ∷ [])
    ≡ 1 ∷ 10 ∷ 18446744073709551615 ∷ 18446744073709551615 ∷ []
turns = refl

abbrev first_of : List Seat → List Bool
first_of seats = map (is_first seats) (0 ∷ 1 ∷ 2 ∷ 3 ∷ [])

deflates_first : first_of (waiting 2 1 ∷ waiting 1 2 ∷ waiting 0 18446744073709551615 ∷ seat 30 25 30 4 ∷ []) ≡ false ∷ false ∷ true ∷ false ∷ []
deflates_first = refl

resets_first : first_of (waiting 2 1 ∷ seat 30 25 30 4 ∷ waiting 1 7 ∷ waiting 1 6 ∷ []) ≡ false ∷ false ∷ false ∷ true ∷ []
resets_first = refl

lowest_first : (first_of (seat 30 25 30 4 ∷ waiting 2 5 ∷ waiting 9 5 ∷ waiting 2 6 ∷ []) ≡ false ∷ true ∷ false ∷ false ∷ [])
    × (first_of (seat 30 25 30 4 ∷ seat 30 25 30 4 ∷ []) ≡ false ∷ false ∷ false ∷ false ∷ [])
lowest_first = (refl, refl)

-- a guest that is preferred comes before all of its line, also before one that has no turn, and after those of earlier lines
preferred_first : (first_of (waiting 1 0 ∷ preferring 1 (waiting 1 9) ∷ waiting 1 2 ∷ waiting 2 1 ∷ []) ≡ false ∷ true ∷ false ∷ false ∷ [])
    × (first_of (waiting 1 2 ∷ preferring 1 (waiting 1 9) ∷ waiting 0 18446744073709551615 ∷ []) ≡ false ∷ false ∷ true ∷ false ∷ [])
    × (map rank (preferring 1 (waiting 0 7) ∷ preferring 3 (waiting 1 7) ∷ waiting 1 0 ∷ []) ≡ 0 ∷ 18446744073709551617 ∷ 18446744073709551618 ∷ [])
preferred_first = (refl, refl, refl)

-- one is preferred, or none; nothing else changes
prefers_one : (map (λ n. map (λ s. s.preferred) (preferring_at n (waiting 0 1 ∷ preferring 7 (waiting 0 2) ∷ waiting 0 3 ∷ []))) (0 ∷ 2 ∷ 3 ∷ []) ≡ (1 ∷ 0 ∷ 0 ∷ []) ∷ (0 ∷ 0 ∷ 1 ∷ []) ∷ (0 ∷ 0 ∷ 0 ∷ []) ∷ [])
    × (preferring_at 0 (waiting 0 1 ∷ preferring 7 (waiting 0 2) ∷ []) ≡ preferring 1 (waiting 0 1) ∷ waiting 0 2 ∷ [])
    × (map is_preferred (newcomer 60 ∷ taken_over 60 (report 30 25 3 5 3) ∷ preferring 2 (newcomer 60) ∷ []) ≡ false ∷ false ∷ true ∷ [])
prefers_one = (refl, refl, refl)

-- until a granted deflate is let go, its pages are in the balloon that is reported, and don't count
counts_without : heard 9 (report 30 25 3 5 3) (record (seat 25 25 30 4) { deflates = 3; granted = 3 }) ≡ record (seat 25 25 30 4) { deflates = 3; granted = 3 }
counts_without = refl

-- a report of before the grant says nothing
is_too_old : heard 9 (report 30 30 4 0 2) (record (seat 25 25 30 4) { deflates = 3; granted = 3 }) ≡ record (seat 25 25 30 4) { deflates = 3; granted = 3 }
is_too_old = refl

-- ---- memory is taken away: 10 pages, of which 4 were in the balloon

abbrev smaller : Report
smaller = record (report 26 25 3 0 2) { removed = 10 }

shrinks : heard 9 smaller (seat 30 25 30 4) ≡ record (seat 26 25 30 4) { pages = 50; removed = 10 }
shrinks = refl

-- a report of before says nothing any longer, and the same one again nothing new
shrinks_once : (heard 9 (report 30 25 3 0 2) (heard 9 smaller (seat 30 25 30 4)) ≡ heard 9 smaller (seat 30 25 30 4))
    × (heard 9 smaller (heard 9 smaller (seat 30 25 30 4)) ≡ heard 9 smaller (seat 30 25 30 4))
shrinks_once = (refl, refl)

-- one that shows more pages gone from the balloon than were taken away says nothing of the memory
shrinks_by : map (λ ballooned. (heard 9 (record (report ballooned 25 3 0 2) { removed = 10 }) (seat 30 25 30 4)).ballooned) (19 ∷ 20 ∷ 21 ∷ []) ≡ 30 ∷ 20 ∷ 21 ∷ []
shrinks_by = refl

-- no more is taken away than there is
shrinks_to_none : lent (heard 9 (record (report 0 25 3 0 2) { removed = 99 }) (seat 30 25 30 4)) ≡ 0
shrinks_to_none = refl

-- ---- a target: it rises at once, falls for free to what is reclaimed, and below as far as there is room

falls_to : map (λ room. possible_target room (seat 20 25 30 4)) (0 ∷ 4 ∷ 10 ∷ 99 ∷ []) ≡ 20 ∷ 16 ∷ 10 ∷ 10 ∷ []
falls_to = refl

rises_to : possible_target 0 (record (seat 20 25 30 4) { wanted = 40 }) ≡ 40
rises_to = refl

is_told : targeted 16 (seat 20 25 30 4) ≡ seat 20 16 16 5
is_told = refl

is_told_more : targeted 40 (seat 20 25 30 4) ≡ seat 20 25 40 5
is_told_more = refl

is_told_no_news : (targeted 30 (seat 20 25 30 4) ≡ seat 20 25 30 4) × (targeted 20 (seat 20 25 20 4) ≡ seat 20 20 20 4)
is_told_no_news = (refl, refl)

-- after 2^64 - 1 targets there is no other
is_told_no_more : targeted 16 (seat 20 25 30 18446744073709551615) ≡ seat 20 25 30 18446744073709551615
is_told_no_more = refl

-- a guest that waits is lent nothing by a target
falls_to_none : map (λ room. possible_target room (waiting 0 1)) (0 ∷ 4 ∷ 99 ∷ []) ≡ 25 ∷ 25 ∷ 25 ∷ []
falls_to_none = refl

-- nor is one that wasn't let in
waits_to_come : map (λ room. possible_target room (newcomer 60)) (0 ∷ 4 ∷ 99 ∷ []) ≡ 60 ∷ 60 ∷ 60 ∷ []
waits_to_come = refl

-- the guest at the lowest place has its target first, and the next what it leaves
all_targets : map (λ room. map (λ s. s.target) (all_targeted room (seat 20 25 30 4 ∷ waiting 0 1 ∷ seat 20 25 30 4 ∷ []))) (0 ∷ 6 ∷ 16 ∷ 20 ∷ [])
    ≡ (20 ∷ 25 ∷ 20 ∷ []) ∷ (14 ∷ 25 ∷ 20 ∷ []) ∷ (10 ∷ 25 ∷ 14 ∷ []) ∷ (10 ∷ 25 ∷ 10 ∷ []) ∷ []
all_targets = refl

-- ---- two guests of 4 pages on 6 frames

-- the first arrives; the second waits, until the first has given two pages for a target
abbrev day : List Step
day = Reports 0 ∷ Hears 0 0 ∷ Grants 0 ∷ Limits 0 ∷ Confirms 0 ∷ Sends 0 ∷ Obeys 0 1
    ∷ Reports 1 ∷ Hears 1 0 ∷ Grants 1 ∷ Wants 0 2 ∷ Targets 0 ∷ Sends 0 ∷ Obeys 0 0 ∷ Does 0 Reads ∷ Does 0 (Gives 2) ∷ []

abbrev evening : List Step
evening = Reports 0 ∷ Hears 0 0 ∷ Grants 1 ∷ Limits 1 ∷ Limits 0 ∷ Confirms 0 ∷ Confirms 1 ∷ Sends 1 ∷ Obeys 1 1 ∷ []

by_day : (map used (through day (opened 6 0 (4 ∷ 4 ∷ []))).guests ≡ 2 ∷ 0 ∷ []) × (map (λ s. lent s) (seats (through day (opened 6 0 (4 ∷ 4 ∷ []))).guests) ≡ 4 ∷ 0 ∷ [])
by_day = (refl, refl)

by_evening : (map used (through evening (through day (opened 6 0 (4 ∷ 4 ∷ [])))).guests ≡ 2 ∷ 4 ∷ [])
    × (map (λ s. lent s) (seats (through evening (through day (opened 6 0 (4 ∷ 4 ∷ [])))).guests) ≡ 2 ∷ 4 ∷ [])
by_evening = (refl, refl)

-- a grant isn't sent before the limit is sure
too_early : map used (through (Reports 0 ∷ Hears 0 0 ∷ Grants 0 ∷ Limits 0 ∷ Lands 0 ∷ Sends 0 ∷ Obeys 0 0 ∷ Obeys 0 1 ∷ []) (opened 6 0 (4 ∷ 4 ∷ []))).guests ≡ 0 ∷ 0 ∷ []
too_early = refl

limits : map (λ g. g.limit.force) (through evening (through day (opened 6 0 (4 ∷ 4 ∷ [])))).guests ≡ 2 ∷ 4 ∷ []
limits = refl

-- 4 pages, 2 of them in the balloon
abbrev shrinkable : Process
shrinkable = record { pages = 4; balloon = 2; target = 2; read_target = 2; held = 0; line = 0; target_number = 1; deflates = 1; removed = 0; outside = 0 }

-- In the evening one page of the first guest's balloon and one beside it are taken away: the lender counts 2 as lent until that is reported.
abbrev smaller_host : List Step → Host
smaller_host steps = through steps (through (Does 0 (Shrinks 2 1 0 0) ∷ []) (through evening (through day (opened 6 0 (4 ∷ 4 ∷ [])))))

by_shrinking : (map used (smaller_host []).guests ≡ 1 ∷ 4 ∷ []) × (map (λ s. lent s) (seats (smaller_host []).guests) ≡ 2 ∷ 4 ∷ [])
    × (map (λ s. lent s) (seats (smaller_host (Reports 0 ∷ Hears 0 0 ∷ [])).guests) ≡ 1 ∷ 4 ∷ [])
    × (map (λ s. s.pages) (seats (smaller_host (Reports 0 ∷ Hears 0 0 ∷ [])).guests) ≡ 2 ∷ 4 ∷ [])
by_shrinking = (refl, refl, refl, refl)

-- what is left has no more pages outside of its balloon than before, and no more in its balloon or its deflate
may_shrink_which : may_shrink 2 1 0 0 shrinkable ∷ may_shrink 2 0 0 0 shrinkable ∷ may_shrink 3 1 0 0 shrinkable ∷ may_shrink 1 2 0 0 shrinkable ∷ may_shrink 4 2 1 0 shrinkable ∷ may_shrink 5 2 0 0 shrinkable ∷ may_shrink 3 3 0 0 shrinkable ∷ []
    ≡ true ∷ true ∷ true ∷ false ∷ false ∷ false ∷ false ∷ []
may_shrink_which = refl

-- a later lender sees all pages as lent until each process connects to it
by_night : (map (λ s. lent s) (seats (through (Forgets ∷ []) (through evening (through day (opened 6 0 (4 ∷ 4 ∷ []))))).guests) ≡ 4 ∷ 4 ∷ [])
    × (map (λ s. lent s) (seats (through (Forgets ∷ TakesOver 0 ∷ TakesOver 1 ∷ []) (through evening (through day (opened 6 0 (4 ∷ 4 ∷ []))))).guests) ≡ 2 ∷ 4 ∷ [])
by_night = (refl, refl)

-- ---- without numbers

-- the least target raised where the last target was read by its value, whichever order it came by
abbrev by_value : Report → Seat → Seat
by_value r s = if (r.target == s.target) && (r.read_target == s.target) then record s { least_target = s.target } else s

-- A guest of 4 pages, all in its balloon for target 4, reports that. Before that arrives, its target is 2 and then 4 again. By value, nothing of its balloon
-- stays lent; but its process hears 2 now, its driver reads that, and takes two pages: they aren't lent, and it waits.
abbrev told_again : Seat
told_again = targeted 4 (targeted 2 (record (newcomer 4) { target_number = 1; deflates = 1; granted = 1 }))

abbrev of_before : Report
of_before = record { ballooned = 4; target = 4; read_target = 4; held = 0; line = 0; outside = 0; target_number = 1; deflates = 1; removed = 0 }

abbrev of_after : Report
of_after = record { ballooned = 4; target = 2; read_target = 2; held = 2; line = 0; outside = 0; target_number = 2; deflates = 2; removed = 0 }

waits_by_value : (lent (by_value of_before told_again) ≡ 0) × (asked (heard 1 of_after (by_value of_before told_again)) ≡ 2)
waits_by_value = (refl, refl)

waits_not_by_number : (lent (heard 1 of_before told_again) ≡ 2) × (waits (heard 1 of_after (heard 1 of_before told_again)) ≡ false)
waits_not_by_number = (refl, refl)

-- ---- nothing is on its way, and one waits: it is granted where the targets serve, and else the guests are short

abbrev noon : ℕ → Host
noon frames = through (Reports 0 ∷ Hears 0 0 ∷ []) (through day (opened frames 0 (4 ∷ 4 ∷ [])))

quiet_at_noon : AllByRecursion IsQuiet (noon 6).guests
quiet_at_noon = (
  record { known = refl; no_target = refl; no_grant = refl; read_told = refl; heard_read = refl; heard_held = λ w _. absurd (omega (arith, w)) },
  (record { known = refl; no_target = refl; no_grant = refl; read_told = refl; heard_read = refl; heard_held = λ _ _. refl }, tt),
)

given_at_noon : AllByRecursion HasGiven (noon 6).guests
given_at_noon = (λ _ _. omega arith, (λ _ _. omega arith, tt))

keep_at_noon : (all_keep (noon 6) ≡ 6) × (all_keep (noon 5) ≡ 6)
keep_at_noon = (refl, refl)

granted_at_noon : (may_grant (lending (noon 6)) 1 ≡ true) × (may_grant (lending (noon 5)) 1 ≡ false)
granted_at_noon = (refl, refl)

-- ---- memory that is added: the guest at noon gets 2 pages more, which wait until there is room, and then join it

abbrev adds : List Step
adds = Does 0 (Gives 2) ∷ Wants 0 4 ∷ Targets 0 ∷ Sends 0 ∷ Obeys 0 0 ∷ Does 0 Reads ∷ Reports 0 ∷ Hears 0 0
    ∷ Reports 1 ∷ Hears 1 0 ∷ Grants 1 ∷ Limits 1 ∷ Confirms 1 ∷ Sends 1 ∷ Obeys 1 1 ∷ Reports 1 ∷ Hears 1 0 ∷ Joins 0 1 ∷ []

abbrev with_more : Host
with_more = through adds (through day (opened 6 0 (4 ∷ 2 ∷ [])))

is_grown : (map used with_more.guests ≡ 2 ∷ 0 ∷ []) × (map (λ g. g.process.pages) with_more.guests ≡ 6 ∷ 0 ∷ []) × (map (λ s. lent s) (seats with_more.guests) ≡ 2 ∷ 0 ∷ [])
is_grown = (refl, refl, refl)
