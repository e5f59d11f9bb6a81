-- Worked facts of the system: what a process does and obeys, how a limit is written, and which memory may join a guest.
use Rattle.std.proofs.Common.{◌≡◌, ℕ, Bool, true, false, List, [], ◌∷◌, map, refl}
use Rattle.vb_host.specs.declared.seat.Seat.{Seat}
use Rattle.vb_host.specs.Lending.{joined_at, may_join_at}
use Rattle.vb_host.specs.Seats.{asked, newcomer}
use Rattle.vb_host.specs.System.{Drops, Gives, Grant, Holds, Limit, Process, Reads, Shrinks, Target, confirms, does, fails, lands, obeys, writes}

-- a process of 10 pages, with its balloon, and the pages and the number of its deflate
abbrev process : ℕ → ℕ → ℕ → Process
process balloon held deflates = record { pages = 10; balloon = balloon; target = 6; read_target = 5; held = held; line = 0; target_number = 2; deflates = deflates; removed = 0; outside = 0 }

-- ---- deeds

gives : map (λ pages. (does (Gives pages) (process 4 0 1)).balloon) (0 ∷ 5 ∷ 6 ∷ 7 ∷ []) ≡ 4 ∷ 9 ∷ 10 ∷ 10 ∷ []
gives = refl

-- no deflate while one is held, of no page, or of more than the balloon has
holds : (does (Holds 1 4) (process 4 0 1) ≡ record (process 4 4 2) { line = 1 }) × (does (Holds 1 4) (process 4 1 1) ≡ process 4 1 1)
    × (does (Holds 1 0) (process 4 0 1) ≡ process 4 0 1) × (does (Holds 1 5) (process 4 0 1) ≡ process 4 0 1)
holds = (refl, refl, refl, refl)

drops : does Drops (process 4 3 2) ≡ process 4 0 2
drops = refl

reads : (does Reads (process 4 0 1)).read_target ≡ 6
reads = refl

shrinks : does (Shrinks 7 2 1 0) (process 4 3 2) ≡ record (process 2 1 2) { pages = 7; removed = 3 }
shrinks = refl

-- ---- orders: no older target, and no grant of another deflate

obeyed : (obeys (Target 3 9) (process 4 0 1) ≡ record (process 4 0 1) { target = 9; target_number = 3 }) × (obeys (Target 2 9) (process 4 0 1) ≡ process 4 0 1)
    × (obeys (Grant 2) (process 4 3 2) ≡ process 1 0 2) × (obeys (Grant 1) (process 4 3 2) ≡ process 4 3 2) × (obeys (Grant 3) (process 4 3 2) ≡ process 4 3 2)
obeyed = (refl, refl, refl, refl, refl)

-- ---- a limit: sure is the lower one while a write is on its way, and nothing once that failed

abbrev limit : ℕ → ℕ → ℕ → Bool → Limit
limit force asked sure writing = record { force = force; asked = asked; sure = sure; writing = writing }

written : (writes 7 (limit 5 5 5 false) ≡ limit 5 7 5 true) × (writes 3 (limit 5 5 5 false) ≡ limit 5 3 3 true) × (writes 3 (limit 5 7 5 true) ≡ limit 5 7 5 true)
    × (lands (limit 5 7 5 true) ≡ limit 7 7 5 true) × (confirms (limit 5 7 5 true) ≡ limit 7 7 7 false) × (fails (limit 5 7 5 true) ≡ limit 5 5 0 false)
written = (refl, refl, refl, refl, refl, refl)

-- ---- memory joins another guest, of which nothing is reclaimed or outside, and up to 2^32 - 1 pages

abbrev places : List Seat
places = record (newcomer 6) { ballooned = 0 } ∷ newcomer 6 ∷ record (newcomer 4294967290) { ballooned = 0 } ∷ record (newcomer 4294967289) { ballooned = 0 } ∷ []

may_join_which : may_join_at places 1 0 ∷ may_join_at places 3 0 ∷ may_join_at places 0 1 ∷ may_join_at places 0 0 ∷ may_join_at places 2 0 ∷ may_join_at places 4 0 ∷ may_join_at places 0 4 ∷ []
    ≡ true ∷ true ∷ false ∷ false ∷ false ∷ false ∷ false ∷ []
may_join_which = refl

joins_so : map (λ s. s.pages) (joined_at 1 0 places) ≡ 0 ∷ 12 ∷ 4294967290 ∷ 4294967289 ∷ []
joins_so = refl
