-- Worked facts of pages outside of memory slots: what is lent, which reports are news, and a guest of whose memory a part is taken away.
use Rattle.std.proofs.Common.{◌≡◌, ℕ, true, false, List, [], ◌∷◌, map, refl}
use Rattle.vb_host.specs.declared.report.Report.{Report}
use Rattle.vb_host.specs.declared.seat.Seat.{Seat}
use Rattle.vb_host.specs.Lending.{joined_at, may_join_at}
use Rattle.vb_host.specs.Outside.{believed_outside, taken_unasked, tells_memory, with_outside}
use Rattle.vb_host.specs.Promises.{keeps, used}
use Rattle.vb_host.specs.Seats.{apart, asked, heard, is_news, lent, newcomer, taken_over, uncounting}
use Rattle.vb_host.specs.System.{Confirms, Does, Forgets, Gives, Grants, Hears, Host, Limits, Obeys, Process, Reads, Reports, Sends, Shrinks, Step, TakesOver, Targets, Wants}
use Rattle.vb_host.specs.System.{does, may_shrink, opened, seats, through}

-- a guest of 60 pages, 30 of them in its balloon, with pages outside
abbrev seat : ℕ → Seat
seat outside = record (newcomer 60) { ballooned = 30; least_target = 25; target = 30; outside = outside; deflates = 2; granted = 2 }

-- what its process reports: its balloon, what is outside, and what was taken away
abbrev report : ℕ → ℕ → ℕ → Report
report ballooned outside removed = record { ballooned = ballooned; target = 30; read_target = 25; held = 0; line = 0; outside = outside; target_number = 0; deflates = 2; removed = removed }

-- ---- what is lent: also beyond 2^32 pages

lends : (map (λ s. lent s) (seat 0 ∷ seat 7 ∷ uncounting (seat 7) ∷ newcomer 60 ∷ []) ≡ 35 ∷ 42 ∷ 67 ∷ 0 ∷ [])
    × (lent (record (newcomer 4294967295) { ballooned = 0; outside = 4294967295 }) ≡ 8589934590)
    × (map apart (seat 0 ∷ seat 7 ∷ uncounting (seat 7) ∷ uncounting (seat 0) ∷ []) ≡ 25 ∷ 32 ∷ 7 ∷ 0 ∷ [])
    × (map keeps (seat 7 ∷ uncounting (seat 7) ∷ record (seat 7) { held = 10 } ∷ []) ≡ 37 ∷ 67 ∷ 47 ∷ [])
    × (lent (taken_over 60 (report 30 7 0)) ≡ 42)
lends = (refl, refl, refl, refl, refl)

-- what it asks for doesn't depend on them
asks : map (λ outside. asked (record (seat outside) { held = 10 })) (0 ∷ 7 ∷ []) ≡ 5 ∷ 5 ∷ []
asks = refl

-- ---- 10 pages are taken away: those of the balloon have no frames, and of the others any may stay

news : map (λ r. is_news r.ballooned r (seat 7)) (report 30 17 10 ∷ report 26 13 10 ∷ report 20 7 10 ∷ report 20 0 10 ∷ report 34 17 10 ∷ []) ≡ true ∷ true ∷ true ∷ true ∷ true ∷ []
news = refl

no_news : map (λ r. is_news r.ballooned r (seat 7)) (report 30 18 10 ∷ report 26 14 10 ∷ report 20 8 10 ∷ report 19 0 10 ∷ report 34 18 10 ∷ report 30 8 0 ∷ report 29 6 0 ∷ []) ≡ false ∷ false ∷ false ∷ false ∷ false ∷ false ∷ false ∷ []
no_news = refl

-- no more is taken away than there is
no_more_news : map (λ outside. is_news 30 (report 30 outside 99) (seat 7)) (67 ∷ 68 ∷ []) ≡ true ∷ false ∷ []
no_more_news = refl

stays_outside : (heard 9 (report 26 13 10) (seat 7) ≡ record (seat 13) { pages = 50; ballooned = 26; removed = 10 }) × (lent (heard 9 (report 26 13 10) (seat 7)) ≡ 38)
    × (heard 9 (report 30 3 0) (seat 7) ≡ seat 3)
stays_outside = (refl, refl, refl)

-- what appears without being taken away isn't counted, nor is the balloon of that report; its deflate is
appears : (heard 9 (report 33 8 0) (seat 7) ≡ seat 7) × (heard 9 (record (report 33 8 0) { held = 10; deflates = 3 }) (seat 7) ≡ record (seat 7) { held = 10; deflates = 3; turn = 9 })
appears = (refl, refl)

-- ---- how many may be outside by a report, and which pages were taken unasked

believes : map (λ r. believed_outside r (seat 7)) (report 30 7 0 ∷ report 30 3 0 ∷ report 30 8 0 ∷ report 30 99 10 ∷ report 26 99 10 ∷ report 20 99 10 ∷ report 19 99 10 ∷ report 34 99 10 ∷ []) ≡ 7 ∷ 3 ∷ 7 ∷ 17 ∷ 13 ∷ 7 ∷ 6 ∷ 17 ∷ []
believes = refl

-- where more is taken away than there is, and where the pages of a granted deflate have left the balloon; those of one that waits haven't
believes_at_ends : map (λ r. believed_outside r (seat 7)) (report 30 99 99 ∷ report 0 99 99 ∷ record (report 30 7 0) { held = 3 } ∷ record (report 30 7 0) { held = 3; deflates = 3 } ∷ []) ≡ 67 ∷ 37 ∷ 4 ∷ 7 ∷ []
believes_at_ends = refl

-- none of a balloon that doesn't count
believes_uncounted : map (λ r. believed_outside r (uncounting (seat 7))) (report 30 7 0 ∷ report 30 8 0 ∷ report 30 99 10 ∷ []) ≡ 7 ∷ 7 ∷ 17 ∷ []
believes_uncounted = refl

takes_unasked : map (λ r. taken_unasked r (seat 7)) (report 30 7 0 ∷ report 34 7 0 ∷ report 29 7 0 ∷ report 20 7 10 ∷ report 19 7 10 ∷ record (report 30 7 0) { held = 3 } ∷ record (report 30 7 0) { held = 3; deflates = 3 } ∷ [])
    ≡ 0 ∷ 0 ∷ 1 ∷ 0 ∷ 1 ∷ 3 ∷ 0 ∷ []
takes_unasked = refl

takes_uncounted : map (λ s. taken_unasked (report 30 7 0) s) (uncounting (seat 7) ∷ record (seat 7) { uncounted = 1 } ∷ []) ≡ 0 ∷ 30 ∷ []
takes_uncounted = refl

-- with one more outside a report says nothing of memory
tells_of_memory : map (λ outside. tells_memory (report 26 outside 10) (seat 7)) (13 ∷ 14 ∷ []) ≡ true ∷ false ∷ []
tells_of_memory = refl

corrects : (heard 9 (with_outside (believed_outside (report 26 14 10) (seat 7)) (report 26 14 10)) (seat 7) ≡ record (seat 13) { pages = 50; ballooned = 26; removed = 10 })
    × (heard 9 (report 26 14 10) (seat 7) ≡ seat 7)
corrects = (refl, refl)

-- ---- memory with pages outside joins no guest

places : map (λ outside. may_join_at (seat 0 ∷ record (newcomer 6) { ballooned = 0; outside = outside } ∷ []) 0 1) (0 ∷ 1 ∷ []) ≡ true ∷ false ∷ []
places = refl

-- a guest keeps its own
joins : map (λ s. s.outside) (joined_at 0 1 (seat 7 ∷ record (newcomer 6) { ballooned = 0 } ∷ [])) ≡ 7 ∷ 0 ∷ []
joins = refl

-- ---- a process of 10 pages, 4 of them in its balloon, and 2 outside

abbrev process : Process
process = record { pages = 10; balloon = 4; target = 4; read_target = 4; held = 0; line = 0; target_number = 1; deflates = 1; removed = 0; outside = 2 }

-- of 3 pages that are taken away 1 was in the balloon: the other 2 may stay outside, and what was there before may go
shrinks_to : map (λ outside. may_shrink 7 3 0 outside process) (0 ∷ 3 ∷ 4 ∷ 5 ∷ []) ≡ true ∷ true ∷ true ∷ false ∷ []
shrinks_to = refl

-- without memory that is taken away they go, and no other appears; and no page of the balloon goes for one of them
goes_alone : may_shrink 10 4 0 1 process ∷ may_shrink 10 4 0 2 process ∷ may_shrink 10 4 0 3 process ∷ may_shrink 10 3 0 1 process ∷ [] ≡ true ∷ true ∷ false ∷ false ∷ []
goes_alone = refl

shrinks : (does (Shrinks 7 3 0 4) process ≡ record process { pages = 7; balloon = 3; removed = 3; outside = 4 }) × (does (Shrinks 7 3 0 5) process ≡ process)
    × (does (Shrinks 10 4 0 0) process ≡ record process { outside = 0 })
shrinks = (refl, refl, refl)

-- ---- two guests of 4 pages on 6 frames; the first gives 2, of its other 2 one is taken away, and stays outside, until its file is closed

abbrev day : List Step
day = Reports 0 ∷ Hears 0 0 ∷ Grants 0 ∷ Wants 0 2 ∷ Targets 0 ∷ Limits 0 ∷ Confirms 0 ∷ Sends 0 ∷ Obeys 0 1 ∷ Obeys 0 0 ∷ Does 0 Reads ∷ Does 0 (Gives 2)
    ∷ Reports 0 ∷ Hears 0 0 ∷ []

abbrev noon : Host
noon = through (Does 0 (Shrinks 3 2 0 1) ∷ []) (through day (opened 6 0 (4 ∷ 4 ∷ [])))

abbrev told : Host
told = through (Reports 0 ∷ Hears 0 0 ∷ []) noon

abbrev closed : Host
closed = through (Does 0 (Shrinks 3 2 0 0) ∷ Reports 0 ∷ Hears 0 0 ∷ []) told

abbrev uses : Host → List ℕ
uses h = map used h.guests

abbrev lends_each : Host → List ℕ
lends_each h = map (λ s. lent s) (seats h.guests)

counts : (map uses (noon ∷ told ∷ closed ∷ []) ≡ (2 ∷ 0 ∷ []) ∷ (2 ∷ 0 ∷ []) ∷ (1 ∷ 0 ∷ []) ∷ []) × (map lends_each (noon ∷ told ∷ closed ∷ []) ≡ (2 ∷ 0 ∷ []) ∷ (2 ∷ 0 ∷ []) ∷ (1 ∷ 0 ∷ []) ∷ [])
    × (map (λ s. s.outside) (seats told.guests) ≡ 1 ∷ 0 ∷ []) × (map (λ s. s.pages) (seats told.guests) ≡ 3 ∷ 4 ∷ [])
counts = (refl, refl, refl, refl)

-- the report of noon that comes late doesn't bring it back
comes_late : lends_each (through (Hears 0 1 ∷ []) closed) ≡ 1 ∷ 0 ∷ []
comes_late = refl

-- a later lender counts it: before the process connects with all that there is, and then as it reports
later : map lends_each (through (Forgets ∷ []) told ∷ through (Forgets ∷ TakesOver 0 ∷ []) told ∷ []) ≡ (4 ∷ 4 ∷ []) ∷ (2 ∷ 4 ∷ []) ∷ []
later = refl
