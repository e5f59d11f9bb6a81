-- What the calls of a host's lender answer in C, worked out: each kind, each field, and all that is left.
use Rattle.std.proofs.Common.{◌≡◌, inl, inr, refl, subst, arith, ℕ, zero, suc, ◌<◌, false, List, [], ◌∷◌, map, Option, Some, None}
use Rattle.vb_host.specs.declared.event.Event.{Event}
use Rattle.vb_host.specs.declared.event.Event.TheVariants.{Hears, Grants, Overdraws, Wants, Targets, Arrives, Joins, TakesOver, Uncounts, Budget, Prefers, Defers}
use Rattle.vb_host.specs.declared.report.Report.{Report}
use Rattle.vb_host.specs.declared.seat.Seat.{Seat}
use Rattle.vb_host.specs.Lending.{held_at, test_at}
use Rattle.vb_host.specs.Line.{IsStep, Stays}
use Rattle.vb_host.specs.Seats.{covers, newcomer}
use Rattle.vb_host.proofs.Outcome.{step_one}
use Rattle.vb_c.specs.declared.seats.VbHost.{VbHost}
use Rattle.vb_c.specs.declared.seats.VbHostEvent.{VbHostEvent}
use Rattle.vb_c.specs.declared.seats.VbRelief.{VbRelief}
use Rattle.vb_c.specs.Seats.{event_of, lending_of, relief_of, FirstFor, HappensFor, StepsFor}
use Rattle.vb_c.proofs.Samples.{Same}

abbrev report : Report
report = record {
  ballooned = 21;
  target = 22;
  read_target = 23;
  held = 0;
  line = 1;
  outside = 27;
  target_number = 24;
  deflates = 25;
  removed = 26;
}

-- another number in each field
abbrev event : ℕ → VbHostEvent
event kind = record {
  kind = kind;
  guest = 0;
  added = 2;
  pages = 60;
  ballooned = 20;
  frames = 90;
  report = report;
}

abbrev host : VbHost
host = record { frames = 50; overdraft = 7 }

-- ---- each kind, and those on both sides

abbrev none : Option Event
none = None

abbrev some : Event → Option Event
some e = Some e

events : map event_of (event 0 ∷ event 1 ∷ event 2 ∷ event 3 ∷ event 4 ∷ event 5 ∷ [])
    ≡ none ∷ some (Hears 0 report) ∷ some (Grants 0) ∷ some (Overdraws 0) ∷ some (Wants 0 60) ∷ some (Targets 0) ∷ []
events = refl

more_events : map event_of (event 6 ∷ event 7 ∷ event 8 ∷ event 9 ∷ event 10 ∷ event 11 ∷ event 12 ∷ event 13 ∷ event 256 ∷ [])
    ≡ some (Arrives 0 60 20) ∷ some (Joins 0 2) ∷ some (TakesOver 0 60 report) ∷ some (Uncounts 0) ∷ some (Budget 90) ∷ some (Prefers 0) ∷ some (Defers 0) ∷ none ∷ none ∷ []
more_events = refl

lends : lending_of host (newcomer 8 ∷ []) ≡ record { frames = 50; overdraft = 7; seats = newcomer 8 ∷ [] }
lends = refl

-- ---- a step: one guest of 60 pages, 30 of which are in its balloon, and 20 frames of room

abbrev seat : ℕ → ℕ → ℕ → ℕ → Seat
seat least target wanted number = record (newcomer 60) {
  ballooned = 30;
  least_target = least;
  target = target;
  wanted = wanted;
  target_number = number;
  deflates = 1;
  granted = 1;
}

-- 10 pages are wanted of it where it had no target below 30: 20 frames are lent to it
abbrev told : VbHostEvent
told = record (event 4) { pages = 10 }

abbrev before : List Seat
before = seat 30 30 30 3 ∷ []

abbrev after : List Seat
after = seat 10 10 10 4 ∷ []

waits_nowhere : (n : ℕ) → held_at (seat 30 30 10 3 ∷ []) n ≡ 0
waits_nowhere zero = refl
waits_nowhere (suc n) = refl

covers_nowhere : (n : ℕ) → test_at covers (seat 30 30 10 3 ∷ []) n ≡ false
covers_nowhere zero = refl
covers_nowhere (suc n) = refl

steps : IsStep (lending_of host before) (Wants 0 10) (lending_of host after)
steps = record {
  granted = lending_of host (seat 30 30 10 3 ∷ []);
  by_grants = Stays (lending_of host (seat 30 30 10 3 ∷ []));
  grants_none = record { none_covered = covers_nowhere; no_room = inl waits_nowhere };
  targets = refl;
}

stepped : StepsFor host host before after told 0
stepped = record {
  refused = λ e. absurd cc;
  stepped = λ e is. (refl, subst (λ e. IsStep (lending_of host before) e (lending_of host after)) (same_event e is) steps);
} where
  same_event : (e : Event) → some (Wants 0 10) ≡ Some e → Wants 0 10 ≡ e
  same_event e is = cc

-- it answers nothing else, and leaves nothing else: neither as it was, nor another budget
stepped_so : (new : VbHost) (seats : List Seat) (n : ℕ) → StepsFor host new before seats told n
    → (n ≡ 0) × (lending_of new seats ≡ lending_of host after)
stepped_so new seats n h =
    let it = h.stepped (Wants 0 10) refl in
    (it.0, step_one (lending_of host before) (lending_of new seats) (lending_of host after) (Wants 0 10) it.1 steps)

-- a kind that is none, with an event that would change all
refused_so : (new : VbHost) (seats : List Seat) (n : ℕ) → StepsFor host new before seats (record told { kind = 13 }) n
    → (n ≡ 7) × (new ≡ host) × (seats ≡ before)
refused_so new seats n h = h.refused refl

refused_at_zero : (new : VbHost) (seats : List Seat) (n : ℕ) → StepsFor host new before seats (record told { kind = 0 }) n
    → (n ≡ 7) × (new ≡ host) × (seats ≡ before)
refused_at_zero new seats n h = h.refused refl

-- ---- an event alone: no target follows

happens_so : (new : VbHost) (seats : List Seat) (n : ℕ) → HappensFor host new before seats told n
    → (n ≡ 0) × (lending_of new seats ≡ lending_of host (seat 30 30 10 3 ∷ []))
happens_so new seats n h = h.happened (Wants 0 10) refl

happens_not : (new : VbHost) (seats : List Seat) (n : ℕ) → HappensFor host new before seats (record told { kind = 13 }) n
    → (n ≡ 7) × (new ≡ host) × (seats ≡ before)
happens_not new seats n h = h.refused refl

-- ---- who is helped

abbrev relief : ℕ → ℕ → VbRelief
relief kind guest = record { kind = kind; guest = guest }

helps : map relief_of (some (Prefers 4) ∷ some (Overdraws 5) ∷ some (Defers 6) ∷ some (Grants 7) ∷ none ∷ [])
    ≡ relief 11 4 ∷ relief 3 5 ∷ relief 12 6 ∷ relief 0 0 ∷ relief 0 0 ∷ []
helps = refl

-- ---- who waits first

abbrev waiting : Seat
waiting = record (seat 30 30 30 3) { held = 4; turn = 2 }

nobody : (n : ℕ) → FirstFor before n → n ≡ 18446744073709551615
nobody n (inl idle) = idle.0
nobody zero (inr first) = absurd (let w : 0 < 0 = first.1.waits in omega (arith, w))
nobody (suc n) (inr first) = absurd (let w : 0 < 0 = first.1.waits in omega (arith, w))

second : (n : ℕ) → FirstFor (seat 30 30 30 3 ∷ waiting ∷ []) n → n ≡ 1
second n (inl idle) = let e : Same 4 0 = idle.1 1 in absurd (omega (arith, e))
second zero (inr first) = absurd (let w : 0 < 0 = first.1.waits in omega (arith, w))
second (suc zero) (inr first) = refl
second (suc (suc n)) (inr first) = absurd (let w : 0 < 0 = first.1.waits in omega (arith, w))
