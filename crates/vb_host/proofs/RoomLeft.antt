-- A target lends no more than nobody has and nobody waits for.
use Rattle.std.proofs.Common.{ℕ, zero, suc, ◌+◌, ◌-◌, ◌≤◌, if◌then◌else◌, List, [], ◌∷◌, max, arith}
use Rattle.std.proofs.lemmas.List.Sums.{sum_by-cons}
use Rattle.vb_host.specs.declared.event.Event.TheVariants.{Targets}
use Rattle.vb_host.specs.declared.seat.Seat.{Seat}
use Rattle.vb_host.specs.Lending.{Lending, owed, waited, room, each_at, happens}
use Rattle.vb_host.specs.Seats.{lent, possible_target, retargeted, reclaimed, needs_grant}
use Rattle.vb_host.proofs.LentBy.{targets_lend}

owed_plus : (more n : ℕ) (f : Seat → Seat) (xs : List Seat) → ((s : Seat) → lent (f s) ≤ lent s + more) → owed (each_at n f xs) ≤ owed xs + more
owed_plus more n f [] h = omega arith
owed_plus more zero f (x ∷ xs) h = omega (arith, h x, sum_by-cons lent (f x) xs, sum_by-cons lent x xs)
owed_plus more (suc n) f (x ∷ xs) h = omega (arith, owed_plus more n f xs h, sum_by-cons lent x (each_at n f xs), sum_by-cons lent x xs)

pub leaves_room : (l : Lending) (n : ℕ) → owed (happens l (Targets n)).seats + waited l.seats ≤ max l.frames (owed l.seats + waited l.seats)
leaves_room l n = omega (arith, owed_plus (room l) n (retargeted (room l)) l.seats (targets_lend (room l)))

pub never_below : (room : ℕ) (s : Seat) → s.wanted ≤ possible_target room s
never_below room s = below_max s.wanted (reclaimed s - (if needs_grant s then 0 else room)) where
  below_max : (a b : ℕ) → a ≤ max a b
  below_max a b = omega arith
