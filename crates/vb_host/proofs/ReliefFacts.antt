-- Worked facts of four guests that wait, or don't: one boots again, one comes, one is out of memory, and the last one gives.
use Rattle.std.proofs.Common.{◌≡◌, ℕ, true, false, List, [], ◌∷◌, map, Some, None, refl}
use Rattle.vb_host.specs.declared.event.Event.TheVariants.{Overdraws, Prefers, Defers}
use Rattle.vb_host.specs.declared.relief.Look.{Look}
use Rattle.vb_host.specs.declared.relief.Stand.{Stand}
use Rattle.vb_host.specs.declared.seat.Seat.{Seat}
use Rattle.vb_host.specs.Lending.{Lending, shown_owed}
use Rattle.vb_host.specs.Line.{lined}
use Rattle.vb_host.specs.Relief.{alone, count, deferral, due_relief, first_from, found, has_headed, has_stood, is_due_to_defer, is_just_preferred, overdraft_relief, place_of, stands_still, stood, turn_of}
use Rattle.vb_host.specs.Seats.{is_preferred, may_defer, newcomer}

-- 40 pages are lent to each of the first three, which wait for 20, 40 and 4 more; and 60 to the last one, which has given what its target says
abbrev boots : Seat
boots = record (newcomer 60) { ballooned = 20; least_target = 20; target = 20; held = 20; line = 1; deflates = 2; granted = 1; turn = 3 }

abbrev comes : Seat
comes = record (newcomer 80) { ballooned = 40; least_target = 80; target = 80; held = 40; line = 2; deflates = 1; turn = 5 }

abbrev needs : Seat
needs = record (newcomer 50) { ballooned = 10; least_target = 10; target = 10; held = 4; deflates = 3; granted = 2; turn = 7 }

abbrev gives : Seat
gives = record (newcomer 90) { ballooned = 30; least_target = 30; target = 30; deflates = 1; granted = 1 }

abbrev seats : List Seat
seats = boots ∷ comes ∷ needs ∷ gives ∷ []

-- the last pages of the budget are lent; the overdraft has the 4 that the third waits for
abbrev host : List Seat → Lending
host xs = record { frames = 180; overdraft = 4; seats = xs }

-- ---- who waits first

finds : (found (λ n. true) 3 ≡ 3) × (found (λ n. false) 3 ≡ 0)
finds = (refl, refl)

lines : map (λ n. (lined n comes).held) (0 ∷ 2 ∷ 3 ∷ []) ≡ 40 ∷ 40 ∷ 0 ∷ []
lines = refl

firsts : map (λ n. first_from n seats) (0 ∷ 1 ∷ 2 ∷ 3 ∷ []) ≡ 3 ∷ 1 ∷ 2 ∷ 0 ∷ []
firsts = refl

-- it lets the newcomer pass; nobody waits
others : (first_from 1 (record boots { deferred = 1; turn = 9 } ∷ comes ∷ []) ≡ 2) × (first_from 0 (gives ∷ []) ≡ 0)
others = (refl, refl)

turns : map (λ n. turn_of n seats) (0 ∷ 1 ∷ 2 ∷ 4 ∷ 5 ∷ []) ≡ 0 ∷ 3 ∷ 5 ∷ 0 ∷ 0 ∷ []
turns = refl

-- ---- since when it stands still

abbrev stand : Stand
stand = record { first = 3; lent = 180; since = 1000; head = 1; turn = 3; head_since = 500 }

owes : (shown_owed seats ≡ 180) × (shown_owed (gives ∷ []) ≡ 60)
owes = (refl, refl)

stands : map (λ x. has_stood x seats) (stand ∷ record stand { first = 1 } ∷ record stand { lent = 179 } ∷ record stand { head = 2; turn = 5 } ∷ []) ≡ true ∷ false ∷ false ∷ true ∷ []
stands = refl

heads : map (λ x. has_headed x seats) (stand ∷ record stand { head = 2 } ∷ record stand { turn = 5 } ∷ record stand { first = 1; lent = 179 } ∷ []) ≡ true ∷ false ∷ false ∷ true ∷ []
heads = refl

notes : (stood 9000 stand seats ≡ stand) × (stood 9000 (record stand { lent = 179 }) seats ≡ record stand { since = 9000 }) × (stood 9000 (record stand { turn = 2 }) seats ≡ record stand { head_since = 9000 })
    × (stood 9000 stand (gives ∷ []) ≡ record { first = 0; lent = 60; since = 9000; head = 0; turn = 0; head_since = 9000 })
notes = (refl, refl, refl, refl)

-- ---- who is helped

abbrev look : ℕ → Look
look time = record { time = time; missing = 7; patience = 2; awaits = 0 }

rests : (map (λ t. stands_still (look t) stand) (1999 ∷ 2000 ∷ []) ≡ false ∷ true ∷ []) × (stands_still (record (look 9000) { awaits = 1 }) stand ≡ false)
rests = (refl, refl)

proceeds : (alone (look 0) stand ≡ 3) × (alone (record (look 0) { missing = 0 }) stand ≡ 0)
proceeds = (refl, refl)

counts : (count may_defer seats ≡ 2) × (count is_preferred seats ≡ 0) × (count is_preferred (record gives { preferred = 5 } ∷ gives ∷ []) ≡ 1)
counts = (refl, refl, refl)

abbrev preferred : List Seat
preferred = boots ∷ comes ∷ record needs { preferred = 1 } ∷ gives ∷ []

just : (map (λ n. is_just_preferred n preferred) (0 ∷ 2 ∷ 3 ∷ 5 ∷ []) ≡ false ∷ false ∷ true ∷ false ∷ []) × (map (λ n. is_just_preferred n seats) (0 ∷ 3 ∷ []) ≡ true ∷ false ∷ [])
    × (is_just_preferred 1 (record boots { preferred = 1 } ∷ record gives { preferred = 1 } ∷ []) ≡ false)
just = (refl, refl, refl)

places : map (λ n. place_of n seats) (0 ∷ 1 ∷ 3 ∷ []) ≡ 4 ∷ 0 ∷ 2 ∷ []
places = refl

-- patient for two seconds; alone it keeps nobody waiting
passes : (map (λ t. is_due_to_defer (look t) stand seats) (2499 ∷ 2500 ∷ []) ≡ false ∷ true ∷ []) × (is_due_to_defer (record (look 9000) { awaits = 1 }) stand seats ≡ false)
    × (is_due_to_defer (look 9000) (record stand { head = 0 }) seats ≡ false) × (is_due_to_defer (look 9000) stand (boots ∷ needs ∷ []) ≡ false)
passes = (refl, refl, refl, refl)

lets : (deferral stand seats ≡ Defers 0) × (deferral stand (record boots { preferred = 1 } ∷ comes ∷ []) ≡ Prefers 2) × (deferral (record stand { head = 2 }) seats ≡ Defers 1)
lets = (refl, refl, refl)

draws : (overdraft_relief 3 (host seats) ≡ Some (Overdraws 2)) × (overdraft_relief 1 (host seats) ≡ None) × (overdraft_relief 0 (host seats) ≡ None)
    × (overdraft_relief 3 (record (host seats) { overdraft = 3 }) ≡ None)
draws = (refl, refl, refl, refl)

-- ---- all of it: nothing within a second; then the third proceeds alone, and from the overdraft; and after two seconds the first lets others pass

helps : (map (λ t. due_relief (look t) stand (host seats)) (1999 ∷ 2000 ∷ 2499 ∷ 2500 ∷ []) ≡ None ∷ Some (Prefers 2) ∷ Some (Prefers 2) ∷ Some (Defers 0) ∷ [])
    × (due_relief (look 2000) stand (host preferred) ≡ Some (Overdraws 2)) × (due_relief (look 2000) stand (record (host preferred) { overdraft = 3 }) ≡ None)
    × (due_relief (record (look 2000) { missing = 0 }) stand (host preferred) ≡ Some (Prefers 4)) × (due_relief (record (look 2000) { missing = 0 }) stand (host seats) ≡ Some (Overdraws 2))
    × (due_relief (record (look 9000) { awaits = 1 }) stand (host seats) ≡ None)
helps = (refl, refl, refl, refl, refl, refl)
