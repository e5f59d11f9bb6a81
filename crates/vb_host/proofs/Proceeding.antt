-- With the least budget all that wait proceed, and with less one doesn't.
use Rattle.std.proofs.Common.{◌≡◌, ℕ, zero, suc, ◌+◌, ◌-◌, ◌<◌, ◌≤◌, Bool, true, false, ◌||◌, nat_lt, if◌then◌else◌, List, [], ◌∷◌, map, inl, inr, max, refl, ap, sym, ◌∙◌, arith}
use Rattle.std.proofs.lemmas.Bool.Decides.{nat_tests}
use Rattle.std.proofs.lemmas.List.Sums.{sum_by-cons}
use Rattle.vb_host.specs.declared.event.Event.TheVariants.{Budget, Grants}
use Rattle.vb_host.specs.declared.seat.Seat.{Seat}
use Rattle.vb_host.specs.Least.{after_a_round, final_loan, least_budget, reached}
use Rattle.vb_host.specs.Lending.{Lending, all_targeted, each_at, happens, held_at, owed, room, test_at, value_at, waited}
use Rattle.vb_host.specs.Line.{ByGrants, Granted, GrantsNone, IsNextGrant, IsStep, Stays}
use Rattle.vb_host.specs.Seats.{asked, covers, granting, is_uncounted, lent, reclaimed, retargeted, room_after, waits}
use Rattle.vb_host.proofs.Grants.{as_set, may_waits, next_may}
use Rattle.vb_host.proofs.LentBy.{retargets}
use Rattle.vb_host.proofs.Places.{value_within}
use Rattle.vb_host.proofs.Sound.{either, lt_true}

-- ---- one guest

-- what a guest that doesn't wait has done
abbrev done : Seat → Seat
done s = record s { ballooned = max s.ballooned s.wanted; target = max s.wanted (reclaimed s); least_target = max s.wanted (reclaimed s) }

asks_more : (s : Seat) → waits s ≡ true → asked s ≡ lent (granting s) - lent s
asks_more s e = ap (λ (b : Bool). if b then lent (granting s) - lent s else 0) e

asks_none : (s : Seat) → waits s ≡ false → asked s ≡ 0
asks_none s e = ap (λ (b : Bool). if b then lent (granting s) - lent s else 0) e

grants_more : (s : Seat) → lent s ≤ lent (granting s)
grants_more s = omega arith

-- what is lent, with what is asked for, is what a grant lends
asks_all : (s : Seat) → waits s ≡ true → lent s + asked s ≡ lent (granting s)
asks_all s e = omega (arith, asks_more s e, grants_more s)

waits_still : (s : Seat) → waits s ≡ true → reached s ≡ s
waits_still s e = ap (λ (b : Bool). if b || is_uncounted s then s else done s) e

holds_as : (s : Seat) → (reached s).held ≡ s.held
holds_as s = either (λ (x : Seat). x.held ≡ s.held) (waits s || is_uncounted s) s (done s) (λ _. refl) (λ _. refl)

waits_as : (s : Seat) → waits (reached s) ≡ waits s
waits_as s = ap (λ (k : ℕ). nat_lt 0 k) (holds_as s)

final_waits : (s : Seat) → waits s ≡ true → final_loan s ≡ lent (granting s)
final_waits s e = ap (λ (b : Bool). if b then lent (granting s) else lent (reached s)) e

final_idle : (s : Seat) → waits s ≡ false → final_loan s ≡ lent (reached s)
final_idle s e = ap (λ (b : Bool). if b then lent (granting s) else lent (reached s)) e

ends_if : (s : Seat) (b : Bool) → waits s ≡ b → lent (reached s) + asked (reached s) ≡ final_loan s
ends_if s true e = ap (λ (x : Seat). lent x + asked x) (waits_still s e) ∙ (asks_all s e ∙ sym (final_waits s e))
ends_if s false e = omega (arith, asks_none (reached s) (waits_as s ∙ e), final_idle s e)

ends : (s : Seat) → lent (reached s) + asked (reached s) ≡ final_loan s
ends s = ends_if s (waits s) refl

asks_as_if : (s : Seat) (b : Bool) → waits s ≡ b → asked (reached s) ≡ asked s
asks_as_if s true e = ap (λ (x : Seat). asked x) (waits_still s e)
asks_as_if s false e = asks_none (reached s) (waits_as s ∙ e) ∙ sym (asks_none s e)

-- ---- as code says it

pub final_by_grant : (s : Seat) → waits s ≡ true → lent (granting s) ≡ final_loan s
final_by_grant s e = sym (final_waits s e)

reached_if : (s : Seat) (b : Bool) → waits s ≡ false → is_uncounted s ≡ b → reached s ≡ (if b then s else done s)
reached_if s b e f = ap (λ (a : Bool). if a || is_uncounted s then s else done s) e ∙ ap (λ (a : Bool). if a then s else done s) f

pub final_uncounted : (s : Seat) → waits s ≡ false → is_uncounted s ≡ true → lent s ≡ final_loan s
final_uncounted s e f = sym (final_idle s e ∙ ap (λ (x : Seat). lent x) (reached_if s true e f))

done_lends : (s : Seat) → lent (done s) ≡ s.pages + s.outside - max s.wanted (reclaimed s)
done_lends s = omega arith

pub final_done : (s : Seat) → waits s ≡ false → is_uncounted s ≡ false → s.pages + s.outside - max s.wanted (reclaimed s) ≡ final_loan s
final_done s e f = sym (final_idle s e ∙ (ap (λ (x : Seat). lent x) (reached_if s false e f) ∙ done_lends s))

pub ruleset final_loans = (final_by_grant, final_uncounted, final_done)

-- ---- all guests

all_end : (xs : List Seat) → owed (map reached xs) + waited (map reached xs) ≡ least_budget xs
all_end [] = refl
all_end (x ∷ xs) = omega (
  arith,
  ends x,
  all_end xs,
  sum_by-cons lent (reached x) (map reached xs),
  sum_by-cons asked (reached x) (map reached xs),
  sum_by-cons final_loan x xs,
)

all_ask : (xs : List Seat) → waited (map reached xs) ≡ waited xs
all_ask [] = refl
all_ask (x ∷ xs) = omega (arith, asks_as_if x (waits x) refl, all_ask xs, sum_by-cons asked (reached x) (map reached xs), sum_by-cons asked x xs)

-- ---- grants

-- what a grant lends isn't asked for any longer
pub grant_lends : (n : ℕ) (xs : List Seat) → test_at waits xs n ≡ true → owed (each_at n granting xs) + waited (each_at n granting xs) ≡ owed xs + waited xs
grant_lends n [] e = refl
grant_lends zero (x ∷ xs) e = omega (
  arith,
  asks_all x e,
  sum_by-cons lent (granting x) xs,
  sum_by-cons asked (granting x) xs,
  sum_by-cons lent x xs,
  sum_by-cons asked x xs,
)
grant_lends (suc n) (x ∷ xs) e = omega (
  arith,
  grant_lends n xs e,
  sum_by-cons lent x (each_at n granting xs),
  sum_by-cons asked x (each_at n granting xs),
  sum_by-cons lent x xs,
  sum_by-cons asked x xs,
)

grant_asks : (n : ℕ) (xs : List Seat) → waited (each_at n granting xs) + value_at asked xs n ≡ waited xs
grant_asks n [] = refl
grant_asks zero (x ∷ xs) = omega (arith, sum_by-cons asked (granting x) xs, sum_by-cons asked x xs)
grant_asks (suc n) (x ∷ xs) = omega (arith, grant_asks n xs, sum_by-cons asked x (each_at n granting xs), sum_by-cons asked x xs)

covered_asks : (n : ℕ) (xs : List Seat) → test_at covers xs n ≡ true → value_at asked xs n ≡ 0
covered_asks n [] e = refl
covered_asks zero (x ∷ xs) e = asks_nothing x e where
  asks_nothing : (s : Seat) → covers s ≡ true → asked s ≡ 0
  asks_nothing s e = grind (arith, nat_tests)
covered_asks (suc n) (x ∷ xs) e = covered_asks n xs e

pub is_granted : (l : Lending) (n : ℕ) → IsNextGrant l n → happens l (Grants n) ≡ record l { seats = each_at n granting l.seats }
is_granted l n e = as_set l n (each_at n granting l.seats) (next_may l n e) refl

abbrev all_of : Lending → ℕ
all_of l = owed l.seats + waited l.seats

one_keeps : (l : Lending) (n : ℕ) → IsNextGrant l n → all_of (happens l (Grants n)) ≡ all_of l
one_keeps l n e = ap all_of (is_granted l n e) ∙ grant_lends n l.seats (may_waits l n (next_may l n e))

pub grants_keep : (l m : Lending) → ByGrants l m → (all_of m ≡ all_of l) × (m.frames ≡ l.frames)
grants_keep _ _ (Stays l) = (refl, refl)
grants_keep _ _ (Granted l m n e b) = let rest = grants_keep (happens l (Grants n)) m b in (rest.0 ∙ one_keeps l n e, rest.1)

-- ---- nobody waits

none_wait : (l : Lending) → all_of l ≤ l.frames → GrantsNone l → (n : ℕ) → held_at l.seats n ≡ 0
none_wait l h g n = elim g.no_room [
  | inl none ↦ none n
  | inr first ↦ absurd (omega (arith, h, first.2, value_within asked first.0 l.seats))
]

target_holds : (room : ℕ) (s : Seat) → (retargeted room s).held ≡ s.held
target_holds room s = retargets (λ (x : Seat). x.held ≡ s.held) room s refl (λ _. refl)

targets_hold : (room : ℕ) (xs : List Seat) (n : ℕ) → held_at (all_targeted room xs) n ≡ held_at xs n
targets_hold room [] n = refl
targets_hold room (x ∷ xs) zero = target_holds room x
targets_hold room (x ∷ xs) (suc n) = targets_hold (room_after room x) xs n

step_holds : (l m : Lending) (n : ℕ) → m ≡ record l { seats = all_targeted (room l) l.seats } → held_at m.seats n ≡ held_at l.seats n
step_holds l m n e = ap (λ (k : Lending). held_at k.seats n) e ∙ targets_hold (room l) l.seats n

pub suffices : (l m : Lending) (frames : ℕ) → least_budget l.seats ≤ frames → IsStep (after_a_round l) (Budget frames) m → (n : ℕ) → held_at m.seats n ≡ 0
suffices l m frames h s n =
    let kept = grants_keep (happens (after_a_round l) (Budget frames)) s.granted s.by_grants in
    let all : all_of s.granted ≤ s.granted.frames = omega (arith, kept.0, kept.1, all_end l.seats, h) in
    step_holds s.granted m n s.targets ∙ none_wait s.granted all s.grants_none n

-- ---- somebody waits

still_asked : (l m : Lending) → ByGrants l m → l.frames < all_of l → 0 < waited l.seats → 0 < waited m.seats
still_asked _ _ (Stays l) h w = w
still_asked _ _ (Granted l m n e b) h w = still_asked (happens l (Grants n)) m b (omega (arith, h, one_keeps l n e)) (asked_after e) where
  left : waited (happens l (Grants n)).seats + value_at asked l.seats n ≡ waited l.seats
  left = ap (λ (k : Lending). waited k.seats + value_at asked l.seats n) (is_granted l n e) ∙ grant_asks n l.seats

  asked_after : IsNextGrant l n → 0 < waited (happens l (Grants n)).seats
  asked_after e = elim e [
    | inl covered ↦ omega (arith, left, covered_asks n l.seats covered.0, w)
    | inr first ↦ omega (arith, left, first.2, h)
  ]

who_if : (x : Seat) (xs : List Seat) (b : Bool) → waits x ≡ b → 0 < waited (x ∷ xs) → (0 < waited xs → (n : ℕ) × (0 < held_at xs n)) → (n : ℕ) × (0 < held_at (x ∷ xs) n)
who_if x xs true e w h = (0, lt_true 0 x.held e)
who_if x xs false e w h = let rest = h (omega (arith, w, asks_none x e, sum_by-cons asked x xs)) in (suc rest.0, rest.1)

who_waits : (xs : List Seat) → 0 < waited xs → (n : ℕ) × (0 < held_at xs n)
who_waits [] w = absurd (omega (arith, w))
who_waits (x ∷ xs) w = who_if x xs (waits x) refl w (λ h. who_waits xs h)

pub does_not : (l m : Lending) (frames : ℕ) → frames < least_budget l.seats → 0 < waited l.seats → IsStep (after_a_round l) (Budget frames) m → (n : ℕ) × (0 < held_at m.seats n)
does_not l m frames h w s =
    let start = happens (after_a_round l) (Budget frames) in
    let asks : 0 < waited s.granted.seats = still_asked start s.granted s.by_grants (omega (arith, all_end l.seats, h)) (omega (arith, all_ask l.seats, w)) in
    let one = who_waits s.granted.seats asks in
    (one.0, omega (arith, step_holds s.granted m one.0 s.targets, one.1))
