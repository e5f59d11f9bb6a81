-- Worked facts of what is wanted of a guest of 60 pages in its balloon, where targets grow by all its pages in 4 seconds.
use Rattle.std.proofs.Common.{◌≡◌, true, false, [], ◌∷◌, map, refl}
use Rattle.vb_host.specs.declared.pace.Aim.{Aim}
use Rattle.vb_host.specs.declared.seat.Seat.{Seat}
use Rattle.vb_host.specs.Paces.{by_steps, gains, growth, in_the_end, pace_of, rises, stepped, told, waits_for_driver, wanted_now}
use Rattle.vb_host.specs.Seats.{newcomer}

-- 20 pages are in its balloon, and were its first target
abbrev seat : Seat
seat = record (newcomer 60) { ballooned = 20; least_target = 20; target = 20; wanted = 20; target_number = 1; deflates = 1; granted = 1 }

-- 50 are to be there; a second has passed
abbrev aim : Aim
aim = record { target = 50; strict = 1; ready = 1; seconds = 4; needed = 0; frames = 100; held_kib = 400; passed = 1000 }

tells : map told (seat ∷ record seat { target_number = 0 } ∷ []) ≡ 20 ∷ 0 ∷ []
tells = refl

gets : (map (λ t. gains (record aim { target = t }) seat) (19 ∷ 20 ∷ 50 ∷ []) ≡ true ∷ false ∷ false ∷ []) × (gains (record aim { target = 19; strict = 0 }) seat ≡ false)
gets = (refl, refl)

grows : (map (λ t. rises (record aim { target = t }) seat) (20 ∷ 21 ∷ []) ≡ false ∷ true ∷ []) × (rises (record aim { seconds = 0 }) seat ≡ false)
grows = (refl, refl)

steps : map (λ a. by_steps a seat) (aim ∷ record aim { needed = 1 } ∷ record aim { held_kib = 401 } ∷ record aim { target = 20 } ∷ record aim { seconds = 0 } ∷ []) ≡ true ∷ false ∷ false ∷ false ∷ false ∷ []
steps = refl

-- its driver isn't there: what it gave isn't lent to it
no_driver : (map (λ t. waits_for_driver (record aim { ready = 0; target = t }) seat) (19 ∷ 20 ∷ []) ≡ true ∷ false ∷ []) × (waits_for_driver (record aim { target = 19 }) seat ≡ false) × (waits_for_driver (record aim { ready = 0; strict = 0; target = 19 }) seat ≡ false)
no_driver = (refl, refl, refl)

ends : (map (λ t. in_the_end (record aim { ready = 0; target = t }) seat) (9 ∷ 20 ∷ 50 ∷ []) ≡ 20 ∷ 20 ∷ 50 ∷ []) × (map (λ t. in_the_end (record aim { target = t }) seat) (9 ∷ 50 ∷ []) ≡ 9 ∷ 50 ∷ [])
    × (in_the_end (record aim { ready = 0; target = 9 }) (record seat { least_target = 15 }) ≡ 15)
ends = (refl, refl, refl)

-- one that wasn't let in comes with what it does, unless it isn't strict
comes : map (λ a. in_the_end a (record seat { granted = 0; wanted = 7 })) (aim ∷ record aim { strict = 0 } ∷ []) ≡ 7 ∷ 50 ∷ []
comes = refl

parts : (map (λ ms. growth (record aim { passed = ms }) seat) (0 ∷ 66 ∷ 67 ∷ 133 ∷ 134 ∷ 1000 ∷ 4000 ∷ []) ≡ 1 ∷ 1 ∷ 1 ∷ 1 ∷ 2 ∷ 15 ∷ 60 ∷ []) × (growth (record aim { seconds = 0 }) seat ≡ 1)
parts = (refl, refl)

-- 30 pages in two steps
wants : (map (λ ms. wanted_now (record aim { passed = ms }) seat) (0 ∷ 1 ∷ 1000 ∷ 1999 ∷ 2000 ∷ []) ≡ 20 ∷ 21 ∷ 35 ∷ 49 ∷ 50 ∷ []) × (wanted_now aim (record seat { wanted = 50 }) ≡ 50)
    × (map (λ a. wanted_now a seat) (record aim { needed = 1 } ∷ record aim { target = 9 } ∷ []) ≡ 50 ∷ 9 ∷ [])
wants = (refl, refl, refl)

-- by the last target, not by what is wanted
steps_on : stepped aim (record seat { wanted = 30 }) ≡ 35
steps_on = refl

all : (pace_of aim seat ≡ record { all = 50; now = 35; rises = 1; gains = 0 }) × (pace_of (record aim { target = 9 }) seat ≡ record { all = 9; now = 9; rises = 0; gains = 1 })
all = (refl, refl)
