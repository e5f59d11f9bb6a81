-- Worked facts of the least budget: guests of 100 pages, and what each is lent in the end.
use Rattle.std.proofs.Common.{◌≡◌, ℕ, [], ◌∷◌, map, refl}
use Rattle.vb_host.specs.declared.seat.Seat.{Seat}
use Rattle.vb_host.specs.Least.{final_loan, least_budget, reached}
use Rattle.vb_host.specs.Seats.{newcomer, uncounting}

-- one that has 60 pages in its balloon, of which its driver may take no more than 20, with this many wanted there
abbrev gives : ℕ → Seat
gives wanted = record (newcomer 100) { ballooned = 60; least_target = 40; target = 40; wanted = wanted; deflates = 1; granted = 1 }

-- the same, while it waits for these of them
abbrev asks : ℕ → Seat
asks held = record (gives 90) { held = held; deflates = 2; turn = 5 }

-- who gives is lent all but what is wanted, and no more than now: of 40 that stay given none is lent
lends : map final_loan (gives 0 ∷ gives 40 ∷ gives 41 ∷ gives 60 ∷ gives 90 ∷ gives 100 ∷ gives 101 ∷ []) ≡ 60 ∷ 60 ∷ 59 ∷ 40 ∷ 10 ∷ 0 ∷ 0 ∷ []
lends = refl

-- who waits is lent what it asks for, whatever is wanted of it: 20 pages of its balloon are lent already
waits_for : map final_loan (asks 1 ∷ asks 20 ∷ asks 21 ∷ asks 60 ∷ asks 99 ∷ []) ≡ 60 ∷ 60 ∷ 61 ∷ 100 ∷ 100 ∷ []
waits_for = refl

-- all pages of one whose balloon doesn't count, and what is outside of each one's memory
others : map final_loan (uncounting (gives 90) ∷ record (gives 90) { outside = 7 } ∷ record (asks 21) { outside = 7 } ∷ newcomer 100 ∷ record (newcomer 100) { held = 100 } ∷ []) ≡ 100 ∷ 17 ∷ 68 ∷ 0 ∷ 100 ∷ []
others = refl

what_is_done : (reached (gives 90) ≡ record (gives 90) { ballooned = 90; target = 90; least_target = 90 }) × (reached (gives 50) ≡ record (gives 50) { target = 50; least_target = 50 })
    × (reached (gives 10) ≡ gives 10) × (reached (asks 21) ≡ asks 21) × (reached (uncounting (gives 90)) ≡ uncounting (gives 90))
what_is_done = (refl, refl, refl, refl, refl)

all : map least_budget ([] ∷ (gives 90 ∷ []) ∷ (gives 90 ∷ asks 21 ∷ []) ∷ (asks 60 ∷ asks 21 ∷ gives 60 ∷ []) ∷ []) ≡ 0 ∷ 10 ∷ 71 ∷ 201 ∷ []
all = refl
