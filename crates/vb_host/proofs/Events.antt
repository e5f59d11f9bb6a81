-- What a step does is its event, then grants and targets: events of the lender.
use Rattle.std.proofs.Common.{◌≡◌, ℕ, zero, suc, ◌+◌, ◌-◌, ◌<◌, ◌≤◌, List, [], ◌∷◌, length, refl, ap, ◌∙◌, arith}
use Rattle.std.proofs.lemmas.List.Sums.{sum_by-cons}
use Rattle.std.specs.List.{AllByRecursion}
use Rattle.vb_host.specs.declared.event.Event.{Event}
use Rattle.vb_host.specs.declared.event.Event.TheVariants.{Grants, Targets}
use Rattle.vb_host.specs.declared.seat.Seat.{Seat}
use Rattle.vb_host.specs.Lending.{Lending, all_targeted, each_at, happens, owed, room, run, value_at, waited}
use Rattle.vb_host.specs.Line.{ByGrants, Granted, IsStep, Stays}
use Rattle.vb_host.specs.Promises.{IsByEvents, IsOwn}
use Rattle.vb_host.specs.Seats.{asked, lent, retargeted, room_after}
use Rattle.vb_host.proofs.Possible.{asks_equal, lends_more}
use Rattle.vb_host.proofs.Targeting.{at_length, next_targeted, none_left, targeted_from}

-- ---- grants

abbrev Ran : Lending → Lending → Type 0
Ran l m = (events : List Event) × AllByRecursion IsOwn events × (m ≡ run events l)

ran_grants : (l m : Lending) → ByGrants l m → Ran l m
ran_grants _ _ (Stays l) = ([], tt, refl)
ran_grants _ _ (Granted l m n e b) = let r = ran_grants (happens l (Grants n)) m b in (Grants n ∷ r.0, (tt, r.1), r.2)

-- ---- the room after one target

owed_at : (room n : ℕ) (xs : List Seat) → owed (each_at n (retargeted room) xs) + value_at lent xs n ≡ owed xs + value_at (λ s. lent (retargeted room s)) xs n
owed_at room n [] = refl
owed_at room zero (x ∷ xs) = omega (arith, sum_by-cons lent (retargeted room x) xs, sum_by-cons lent x xs)
owed_at room (suc n) (x ∷ xs) = omega (arith, owed_at room n xs, sum_by-cons lent x (each_at n (retargeted room) xs), sum_by-cons lent x xs)

waited_at : (room n : ℕ) (xs : List Seat) → waited (each_at n (retargeted room) xs) ≡ waited xs
waited_at room n [] = refl
waited_at room zero (x ∷ xs) = omega (arith, asks_equal room x, sum_by-cons asked (retargeted room x) xs, sum_by-cons asked x xs)
waited_at room (suc n) (x ∷ xs) = omega (arith, waited_at room n xs, sum_by-cons asked x (each_at n (retargeted room) xs), sum_by-cons asked x xs)

more_at : (room n : ℕ) (xs : List Seat) → value_at lent xs n ≤ value_at (λ s. lent (retargeted room s)) xs n
more_at room n [] = omega arith
more_at room zero (x ∷ xs) = lends_more room x
more_at room (suc n) (x ∷ xs) = more_at room n xs

after_at : (room n : ℕ) (xs : List Seat) → n < length xs → value_at (room_after room) xs n ≡ room - (value_at (λ s. lent (retargeted room s)) xs n - value_at lent xs n)
after_at room n [] h = absurd (omega arith)
after_at room zero (x ∷ xs) h = refl
after_at room (suc n) (x ∷ xs) h = after_at room n xs (omega arith)

room_then : (l : Lending) (n : ℕ) → n < length l.seats → value_at (room_after (room l)) l.seats n ≡ room (happens l (Targets n))
room_then l n h = omega (arith, after_at (room l) n l.seats h, owed_at (room l) n l.seats, waited_at (room l) n l.seats, more_at (room l) n l.seats)

-- ---- all targets

abbrev targets_of : ℕ → ℕ → List Event
targets_of n zero = []
targets_of n (suc k) = Targets n ∷ targets_of (suc n) k

own_targets : (n k : ℕ) → AllByRecursion IsOwn (targets_of n k)
own_targets n zero = tt
own_targets n (suc k) = (tt, own_targets (suc n) k)

with_seats : (l : Lending) (xs ys : List Seat) → xs ≡ ys → record l { seats = xs } ≡ record l { seats = ys }
with_seats l xs ys e = ap (λ (ss : List Seat). record l { seats = ss }) e

ran_from : (l : Lending) (n k : ℕ) → n + k ≡ length l.seats → record l { seats = targeted_from n (room l) l.seats } ≡ run (targets_of n k) l
ran_from l n zero e = with_seats l _ _ (none_left n (room l) l.seats (omega (arith, e)))
ran_from l n (suc k) e = let h : n < length l.seats = omega (arith, e) in
    with_seats l _ _ (next_targeted n (room l) l.seats h
    ∙ ap (λ (r : ℕ). targeted_from (suc n) r (each_at n (retargeted (room l)) l.seats)) (room_then l n h))
    ∙ ran_from (happens l (Targets n)) (suc n) k (omega (arith, e, at_length n (retargeted (room l)) l.seats))

ran_targets : (l : Lending) → Ran l (record l { seats = all_targeted (room l) l.seats })
ran_targets l = (targets_of 0 (length l.seats), own_targets 0 (length l.seats), ran_from l 0 (length l.seats) (omega arith))

-- ---- a step

pub step_events : (l m : Lending) (e : Event) → IsStep l e m → IsByEvents l e m
step_events l m e s = let g = ran_grants (happens l e) s.granted s.by_grants in let t = ran_targets s.granted in record {
  grants = g.0;
  targets = t.0;
  own_grants = g.1;
  own_targets = t.1;
  runs = s.targets ∙ (t.2 ∙ ap (λ (k : Lending). run t.0 k) g.2);
}
