-- A settled host stays as it is, where nothing changes.
use Rattle.std.proofs.Common.{◌≡◌, ℕ, ◌+◌, ◌-◌, ◌≤◌, ◌⊎◌, inl, inr, Bool, true, false, ◌==◌, List, [], ◌∷◌, min, if◌then◌else◌, refl, sym, ap, subst, ◌∙◌, arith}
use Rattle.std.proofs.lemmas.Bool.Decides.{nat_tests}
use Rattle.std.specs.List.{AllByRecursion}
use Rattle.vb_host.specs.declared.event.Event.{Event}
use Rattle.vb_host.specs.declared.seat.Seat.{Seat}
use Rattle.vb_host.specs.Lending.{Lending, all_targeted, happens, room}
use Rattle.vb_host.specs.Line.{ByGrants, IsStep, Stays}
use Rattle.vb_host.specs.Promises.{IsPossible}
use Rattle.vb_host.specs.Seats.{possible_target, lent, retargeted, room_after}
use Rattle.vb_host.proofs.Outcome.{step_one}
use Rattle.vb_host.proofs.Passing.{step_settles}
use Rattle.vb_host.proofs.Possible.{all_are_possible}
use Rattle.vb_host.proofs.Sound.{eq_true, eq_false}

-- ---- a target that is set already

-- its driver may obey no target above the last one, unless no number is left
abbrev IsLowered : Seat → Type 0
IsLowered s = (s.target_number ≡ 18446744073709551615) ⊎ (s.least_target ≤ s.target)

lowered_by : (b : Bool) (s : Seat) (t number : ℕ) → (s.target_number == 18446744073709551615) ≡ b
    → IsLowered (if b then s else record s { target = t; target_number = number; least_target = min s.least_target t })
lowered_by true s t number e = inl (eq_true s.target_number 18446744073709551615 e)
lowered_by false s t number e = inr (omega arith)

lowered : (room : ℕ) (s : Seat) → IsLowered (retargeted room s)
lowered room s = lowered_by (s.target_number == 18446744073709551615) s (possible_target room s) _ refl

all_lowered : (room : ℕ) (xs : List Seat) → AllByRecursion IsLowered (all_targeted room xs)
all_lowered room [] = tt
all_lowered room (x ∷ xs) = (lowered room x, all_lowered (room_after room x) xs)

is_itself : (n : ℕ) → (n == n) ≡ true
is_itself n = grind (arith, nat_tests)

set_already : (s : Seat) (t : ℕ) → s.target ≡ t → s.least_target ≤ t
    → record s { target = t; target_number = if s.target == t then s.target_number else s.target_number + 1; least_target = min s.least_target t } ≡ s
set_already s t e l = subst (λ (u : ℕ). record s { target = u; target_number = if s.target == u then s.target_number else s.target_number + 1; least_target = min s.least_target u } ≡ s) e
    (ap (λ (b : Bool). record s { target_number = if b then s.target_number else s.target_number + 1; least_target = min s.least_target s.target }) (is_itself s.target)
    ∙ ap (λ (n : ℕ). record s { least_target = n }) (least s.least_target s.target t e l)) where
      least : (m u t : ℕ) → u ≡ t → m ≤ t → min m u ≡ m
      least m u t e l = omega (arith, e, l)

target_stays : (b : Bool) (room : ℕ) (s : Seat) → (s.target_number == 18446744073709551615) ≡ b → IsPossible room s → IsLowered s
    → (if b then s else record s { target = possible_target room s; target_number = if s.target == possible_target room s then s.target_number else s.target_number + 1; least_target = min s.least_target (possible_target room s) }) ≡ s
target_stays true room s e p q = refl
target_stays false room s e p q = elim p [
  | inl n ↦ absurd (eq_false s.target_number 18446744073709551615 e n)
  | inr t ↦ elim q [
    | inl n ↦ absurd (eq_false s.target_number 18446744073709551615 e n)
    | inr l ↦ set_already s (possible_target room s) t (omega (arith, l, t))
  ]
]

seat_stays : (room : ℕ) (s : Seat) → IsPossible room s → IsLowered s → retargeted room s ≡ s
seat_stays room s p q = target_stays (s.target_number == 18446744073709551615) room s refl p q

room_stays : (room : ℕ) (s t : Seat) → t ≡ s → room - (lent t - lent s) ≡ room
room_stays room s t e = subst (λ (x : Seat). room - (lent x - lent s) ≡ room) (sym e) (omega arith)

all_stay : (room : ℕ) (xs : List Seat) → AllByRecursion (IsPossible room) xs → AllByRecursion IsLowered xs → all_targeted room xs ≡ xs
all_stay room [] p q = refl
all_stay room (x ∷ xs) p q =
    let same = seat_stays room x p.0 q.0 in
    ap (λ (y : Seat). y ∷ all_targeted (room_after room x) xs) same
    ∙ ap (λ (ys : List Seat). x ∷ ys) (ap (λ (n : ℕ). all_targeted n xs) (room_stays room x (retargeted room x) same) ∙ all_stay room xs p.1 q.1)

-- ---- a step

seats_lowered : (l m : Lending) (e : Event) → IsStep l e m → AllByRecursion IsLowered m.seats
seats_lowered l m e s = subst (λ (k : Lending). AllByRecursion IsLowered k.seats) (sym s.targets) (all_lowered (room s.granted) s.granted.seats)

stays_by : (l m : Lending) (e f : Event) → IsStep l e m → AllByRecursion (λ s. s.ballooned ≤ s.pages) m.seats → happens m f ≡ m → IsStep m f m
stays_by l m e f s w h = record {
  granted = m;
  by_grants = subst (λ (x : Lending). ByGrants x m) (sym h) (Stays m);
  grants_none = step_settles l m e s;
  targets = sym (ap (λ (ys : List Seat). record m { seats = ys }) (all_stay (room m) m.seats (all_are_possible l m e s w) (seats_lowered l m e s)));
}

pub settled_stays : (l m k : Lending) (e f : Event) → IsStep l e m → AllByRecursion (λ s. s.ballooned ≤ s.pages) m.seats → happens m f ≡ m → IsStep m f k → k ≡ m
settled_stays l m k e f s w h t = step_one m k m f t (stays_by l m e f s w h)
