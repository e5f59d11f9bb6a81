-- After a step each target is the one that is possible.
use Rattle.std.proofs.Common.{◌≡◌, ℕ, ◌+◌, ◌-◌, ◌≤◌, inl, inr, Bool, true, false, ◌==◌, List, [], ◌∷◌, max, min, if◌then◌else◌, refl, subst, sym, arith}
use Rattle.std.proofs.lemmas.List.Sums.{sum_by-cons}
use Rattle.std.specs.List.{AllByRecursion}
use Rattle.vb_host.specs.declared.event.Event.{Event}
use Rattle.vb_host.specs.declared.seat.Seat.{Seat}
use Rattle.vb_host.specs.Lending.{Lending, all_targeted, owed, room, waited}
use Rattle.vb_host.specs.Line.{IsStep}
use Rattle.vb_host.specs.Promises.{IsPossible}
use Rattle.vb_host.specs.Seats.{asked, lent, needs_grant, possible_target, reclaimed, retargeted, room_after, waits}
use Rattle.vb_host.proofs.Grants.{or_left}
use Rattle.vb_host.proofs.LentBy.{retargets}
use Rattle.vb_host.proofs.Passing.{lowers_none, lowers_none_then}
use Rattle.vb_host.proofs.Sound.{eq_true}

-- ---- one target, with less room than it left

possible_again : (w R t room less R' : ℕ) → t ≡ max w (R - room) → R' ≡ min R t → less ≤ room - (R - R') → max w (R' - less) ≡ t
possible_again w R t room less R' e f l = omega (arith, e, f, l)

room_by : (b : Bool) (room less P R R' : ℕ) → R ≤ P → R' ≤ R → less ≤ room - ((P - R') - (P - R)) → (if b then 0 else less) ≤ (if b then 0 else room) - (R - R')
room_by true room less P R R' a c l = omega arith
room_by false room less P R R' a c l = omega (arith, a, c, l)

-- with the target t, and this number
abbrev with_target : Seat → ℕ → ℕ → Seat
with_target s t number = record s { target = t; target_number = number; least_target = min s.least_target t }

again : (s : Seat) (room less number : ℕ) → s.ballooned ≤ s.pages → less ≤ room - (lent (with_target s (possible_target room s) number) - lent s)
    → possible_target room s ≡ possible_target less (with_target s (possible_target room s) number)
again s room less number w l = sym (possible_again s.wanted (reclaimed s) (possible_target room s) (if needs_grant s then 0 else room) (if needs_grant s then 0 else less)
    (reclaimed (with_target s (possible_target room s) number)) refl (lowered s (possible_target room s))
    (room_by (needs_grant s) room less (s.pages + s.outside) (reclaimed s) (reclaimed (with_target s (possible_target room s) number)) (omega (arith, w)) (lowers s (possible_target room s)) l)) where
      lowered : (s : Seat) (t : ℕ) → min s.ballooned (min s.least_target t) ≡ min (reclaimed s) t
      lowered s t = omega arith

      lowers : (s : Seat) (t : ℕ) → min s.ballooned (min s.least_target t) ≤ reclaimed s
      lowers s t = omega arith

by_number : (s : Seat) (room less number : ℕ) (b : Bool) → (s.target_number == 18446744073709551615) ≡ b → s.ballooned ≤ s.pages
    → less ≤ room - (lent (if b then s else with_target s (possible_target room s) number) - lent s) → IsPossible less (if b then s else with_target s (possible_target room s) number)
by_number s room less number true e w l = inl (eq_true s.target_number 18446744073709551615 e)
by_number s room less number false e w l = inr (again s room less number w l)

single : (s : Seat) (room less : ℕ) → s.ballooned ≤ s.pages → less ≤ room_after room s → IsPossible less (retargeted room s)
single s room less w l = by_number s room less _ (s.target_number == 18446744073709551615) refl w l

-- ---- all targets

abbrev left_room : ℕ → List Seat → ℕ
left_room room [] = room
left_room room (x ∷ xs) = left_room (room_after room x) xs

less_left : (room : ℕ) (xs : List Seat) → left_room room xs ≤ room
less_left room [] = omega arith
less_left room (x ∷ xs) = omega (arith, less_left (room_after room x) xs)

abbrev IsWithin : Seat → Type 0
IsWithin s = s.ballooned ≤ s.pages

all_possible : (room less : ℕ) (xs : List Seat) → less ≤ left_room room xs → AllByRecursion IsWithin xs → AllByRecursion (IsPossible less) (all_targeted room xs)
all_possible room less [] l w = tt
all_possible room less (x ∷ xs) l w = (single x room less w.0 (omega (arith, l, less_left (room_after room x) xs)), all_possible (room_after room x) less xs l w.1)

pub lends_more : (room : ℕ) (s : Seat) → lent s ≤ lent (retargeted room s)
lends_more room s = retargets (λ (x : Seat). lent s ≤ lent x) room s (omega arith) (λ number. lends_more_by s (possible_target room s)) where
  lends_more_by : (s : Seat) (t : ℕ) → lent s ≤ s.pages + s.outside - min s.ballooned (min s.least_target t)
  lends_more_by s t = omega arith

waits_reclaims : (b : Bool) (w R room : ℕ) → b ≡ true → R ≤ max w (R - (if b then 0 else room))
waits_reclaims true w R room e = omega arith
waits_reclaims false w R room e = absurd (cc)

same_by : (b : Bool) (x y u v : ℕ) → (b ≡ true → x ≡ u) → (b ≡ true → y ≡ v) → (if b then x - y else 0) ≡ (if b then u - v else 0)
same_by true x y u v e f = omega (arith, e refl, f refl)
same_by false x y u v e f = refl

-- a target takes nothing of what a guest asks for
pub asks_equal : (room : ℕ) (s : Seat) → asked (retargeted room s) ≡ asked s
asks_equal room s = retargets (λ (x : Seat). asked x ≡ asked s) room s refl
    (λ number. same_by (waits s) _ _ _ _ (λ e. lowers_none_then s (possible_target room s) number (waits_reclaims (needs_grant s) s.wanted (reclaimed s) room (or_left (waits s) _ e)))
    (λ e. lowers_none s (possible_target room s) number (waits_reclaims (needs_grant s) s.wanted (reclaimed s) room (or_left (waits s) _ e))))

owes_more : (room : ℕ) (xs : List Seat) → owed xs + waited xs + room ≤ owed (all_targeted room xs) + waited (all_targeted room xs) + left_room room xs
owes_more room [] = omega arith
owes_more room (x ∷ xs) = omega (
  arith,
  owes_more (room_after room x) xs,
  lends_more room x,
  asks_equal room x,
  sum_by-cons lent x xs,
  sum_by-cons asked x xs,
  sum_by-cons lent (retargeted room x) (all_targeted (room_after room x) xs),
  sum_by-cons asked (retargeted room x) (all_targeted (room_after room x) xs),
)

less_room : (l : Lending) → room (record l { seats = all_targeted (room l) l.seats }) ≤ left_room (room l) l.seats
less_room l = omega (arith, owes_more (room l) l.seats)

within_same : (room : ℕ) (xs : List Seat) → AllByRecursion IsWithin (all_targeted room xs) → AllByRecursion IsWithin xs
within_same room [] w = tt
within_same room (x ∷ xs) w = (within_by room x w.0, within_same (room_after room x) xs w.1) where
  within_by : (room : ℕ) (x : Seat) → IsWithin (retargeted room x) → IsWithin x
  within_by room x = retargets (λ (y : Seat). IsWithin y → IsWithin x) room x (λ h. h) (λ number h. h)

targets_possible : (l m : Lending) → m ≡ record l { seats = all_targeted (room l) l.seats } → AllByRecursion IsWithin m.seats → AllByRecursion (IsPossible (room m)) m.seats
targets_possible l m e w = let v = within_same (room l) l.seats (subst (λ (k : Lending). AllByRecursion IsWithin k.seats) e w) in
    subst (λ (k : Lending). AllByRecursion (IsPossible (room k)) k.seats) (sym e) (all_possible (room l) _ l.seats (less_room l) v)

pub all_are_possible : (l m : Lending) (e : Event) → IsStep l e m → AllByRecursion (λ s. s.ballooned ≤ s.pages) m.seats → AllByRecursion (IsPossible (room m)) m.seats
all_are_possible l m e s w = targets_possible s.granted m s.targets w
