-- While a guest waits, none that comes after it is lent more.
use Rattle.std.proofs.Common.{◌≡◌, ◌≢◌, ℕ, zero, suc, ◌-◌, ◌<◌, ◌≤◌, inl, inr, Bool, true, false, ◌==◌, List, [], ◌∷◌, ◌&&◌, nat_lt, map, sum_by, if◌then◌else◌, min, refl, subst, sym, ap, ◌∙◌, arith}
use Rattle.std.proofs.lemmas.List.Sums.{sum_by-cons}
use Rattle.vb_host.specs.declared.event.Event.{Event}
use Rattle.vb_host.specs.declared.event.Event.TheVariants.{Hears, Grants, Overdraws, Wants, Targets, Arrives, Joins, TakesOver, Uncounts, Budget, Prefers, Defers}
use Rattle.vb_host.specs.declared.seat.Seat.{Seat}
use Rattle.vb_host.specs.Lending.{Lending, all_targeted, each_at, happens, held_at, may_grant, may_join_at, next_turn, pages_at, room, test_at}
use Rattle.vb_host.specs.Lending.{lent_at, value_at, waited}
use Rattle.vb_host.specs.Line.{ByGrants, Granted, GrantsNone, IsFirst, IsStep, Stays}
use Rattle.vb_host.specs.Seats.{asked, covers, granting, grown, heard, lent, may_defer, newcomer, possible_target, queued, rank, reclaimed, retargeted}
use Rattle.vb_host.specs.Seats.{deferring, preferring, room_after, taken_over, uncounting, waits, starting}
use Rattle.vb_host.specs.Turns.{IsAfter, IsNoLoan}
use Rattle.vb_host.proofs.Changes.{covers_waits}
use Rattle.vb_host.proofs.Grants.{in_turn, next_may}
use Rattle.vb_host.proofs.LentBy.{covered_lends, hears_lend, possible_reclaims, retargets}
use Rattle.vb_host.proofs.Places.{value_elsewhere, value_less, value_map, value_same, value_within}
use Rattle.vb_host.proofs.Sound.{either, eq_false, eq_true}

-- ---- a target where there is no room

pub lowers_none : (s : Seat) (t number : ℕ) → reclaimed s ≤ t → lent (record s { target = t; target_number = number; least_target = min s.least_target t }) ≡ lent s
lowers_none s t number l = omega (arith, l)

pub lowers_none_then : (s : Seat) (t number : ℕ) → reclaimed s ≤ t → lent (granting (record s { target = t; target_number = number; least_target = min s.least_target t })) ≡ lent (granting s)
lowers_none_then s t number l = omega (arith, l)

same_asked : (b : Bool) (x y u v : ℕ) → x ≡ u → y ≡ v → (if b then x - y else 0) ≡ (if b then u - v else 0)
same_asked b x y u v e f = ap (λ (k : ℕ). if b then k - y else 0) e ∙ ap (λ (k : ℕ). if b then u - k else 0) f

no_room : (s : Seat) → reclaimed s ≤ possible_target 0 s
no_room s = omega (arith, possible_reclaims 0 s)

lends_same : (s : Seat) → lent (retargeted 0 s) ≡ lent s
lends_same s = retargets (λ (x : Seat). lent x ≡ lent s) 0 s refl (λ number. lowers_none s (possible_target 0 s) number (no_room s))

asks_same : (s : Seat) → asked (retargeted 0 s) ≡ asked s
asks_same s = retargets (λ (x : Seat). asked x ≡ asked s) 0 s refl
    (λ number. same_asked (waits s) _ _ _ _ (lowers_none_then s (possible_target 0 s) number (no_room s)) (lowers_none s (possible_target 0 s) number (no_room s)))

holds_same : (room : ℕ) (s : Seat) → (retargeted room s).held ≡ s.held
holds_same room s = retargets (λ (x : Seat). x.held ≡ s.held) room s refl (λ _. refl)

ranks_same : (room : ℕ) (s : Seat) → rank (retargeted room s) ≡ rank s
ranks_same room s = retargets (λ (x : Seat). rank x ≡ rank s) room s refl (λ _. refl)

-- ---- all targets

values_same : (v : Seat → ℕ) (room : ℕ) (xs : List Seat) (n : ℕ) → ((room : ℕ) (s : Seat) → v (retargeted room s) ≡ v s) → value_at v (all_targeted room xs) n ≡ value_at v xs n
values_same v room [] n h = refl
values_same v room (x ∷ xs) zero h = h room x
values_same v room (x ∷ xs) (suc n) h = values_same v (room_after room x) xs n h

still_none : (room : ℕ) (s : Seat) → room ≡ 0 → room_after room s ≡ 0
still_none room s e = omega (arith, e)

values_still : (v : Seat → ℕ) (room : ℕ) (xs : List Seat) (n : ℕ) → room ≡ 0 → ((s : Seat) → v (retargeted 0 s) ≡ v s) → value_at v (all_targeted room xs) n ≡ value_at v xs n
values_still v room [] n e h = refl
values_still v room (x ∷ xs) zero e h = ap (λ (k : ℕ). v (retargeted k x)) e ∙ h x
values_still v room (x ∷ xs) (suc n) e h = values_still v (room_after room x) xs n (still_none room x e) h

sums_still : (v : Seat → ℕ) (room : ℕ) (xs : List Seat) → room ≡ 0 → ((s : Seat) → v (retargeted 0 s) ≡ v s) → sum_by v (all_targeted room xs) ≡ sum_by v xs
sums_still v room [] e h = refl
sums_still v room (x ∷ xs) e h = omega (
  arith,
  sum_by-cons v (retargeted room x) (all_targeted (room_after room x) xs),
  sum_by-cons v x xs,
  sums_still v (room_after room x) xs (still_none room x e) h,
  ap (λ (k : ℕ). v (retargeted k x)) e,
  h x,
)

-- ---- no guest that waits takes what the first is waiting for

asked_within : (xs : List Seat) (n : ℕ) → value_at asked xs n ≤ waited xs
asked_within xs n = value_within asked n xs

no_room_left : (l : Lending) (i : ℕ) → 0 < held_at l.seats i → GrantsNone l → room l ≡ 0
no_room_left l i w g = elim g.no_room [
  | inl none ↦ absurd (omega (arith, w, none i))
  | inr first ↦ omega (arith, first.2, asked_within l.seats first.0)
]

-- ---- grants

granted_value : (v : Seat → ℕ) (l : Lending) (n i : ℕ) → i ≢ n → value_at v (happens l (Grants n)).seats i ≡ value_at v l.seats i
granted_value v l n i d = either (λ (xs : List Seat). value_at v xs i ≡ value_at v l.seats i) (may_grant l n) (each_at n granting l.seats) l.seats
    (λ _. value_elsewhere v n granting l.seats i d) (λ _. refl)

granted_none : (n : ℕ) (xs : List Seat) → held_at (each_at n granting xs) n ≡ 0
granted_none n [] = refl
granted_none zero (x ∷ xs) = refl
granted_none (suc n) (x ∷ xs) = granted_none n xs

granted_held : (l : Lending) (n : ℕ) → may_grant l n ≡ true → held_at (happens l (Grants n)).seats n ≡ 0
granted_held l n e = either (λ (xs : List Seat). held_at xs n ≡ 0) (may_grant l n) (each_at n granting l.seats) l.seats
    (λ _. granted_none n l.seats) (λ f. absurd (cc))

-- no grant makes a guest wait
holds_less : (l : Lending) (n i : ℕ) → held_at (happens l (Grants n)).seats i ≤ held_at l.seats i
holds_less l n i = either (λ (xs : List Seat). held_at xs i ≤ held_at l.seats i) (may_grant l n) (each_at n granting l.seats) l.seats
    (λ _. value_less (λ s. s.held) n granting l.seats i (λ s. omega arith)) (λ _. omega arith)

waited_before : (l m : Lending) (i : ℕ) → ByGrants l m → 0 < held_at m.seats i → 0 < held_at l.seats i
waited_before _ _ i (Stays l) w = w
waited_before _ _ i (Granted l m n e b) w = omega (arith, holds_less l n i, waited_before (happens l (Grants n)) m i b w)

covered_at : (n : ℕ) (xs : List Seat) → test_at covers xs n ≡ true → value_at lent (each_at n granting xs) n ≤ value_at lent xs n
covered_at n [] e = omega arith
covered_at zero (x ∷ xs) e = covered_lends x e
covered_at (suc n) (x ∷ xs) e = covered_at n xs e

-- the first that waits doesn't come after another that waits
pub not_after : (xs : List Seat) (i j : ℕ) → 0 < held_at xs i → IsAfter xs i j → IsFirst xs j → ⊥
not_after xs i j w a f = elim (a f.waits) [
  | inl less ↦ omega (arith, less, f.before_all i w)
  | inr same ↦ omega (arith, same.0, f.lowest i same.1 w)
]

-- what is lent to guest j by a grant to it
lends_covered : (l : Lending) (j : ℕ) (b : Bool) → may_grant l j ≡ b → test_at covers l.seats j ≡ true → value_at lent (if b then each_at j granting l.seats else l.seats) j ≤ value_at lent l.seats j
lends_covered l j true e c = covered_at j l.seats c
lends_covered l j false e c = omega arith

granted_lends : (l : Lending) (i j : ℕ) → 0 < held_at l.seats i → IsAfter l.seats i j → may_grant l j ≡ true → lent_at (happens l (Grants j)).seats j ≤ lent_at l.seats j
granted_lends l i j w a e = elim (in_turn l j e) [
  | inl covered ↦ lends_covered l j (may_grant l j) refl covered
  | inr first ↦ absurd (not_after l.seats i j w a first.0)
]

-- guest j still comes after guest i
still_after : (l : Lending) (n i j : ℕ) → may_grant l n ≡ true → i ≢ n → IsAfter l.seats i j → (b : Bool) → (j == n) ≡ b → IsAfter (happens l (Grants n)).seats i j
still_after l n i j e d a true f w = absurd (omega (arith, w, subst (λ (k : ℕ). held_at (happens l (Grants n)).seats k ≡ 0) (sym (eq_true j n f)) (granted_held l n e)))
still_after l n i j e d a false f w = let r = granted_value rank l n i d in let t = granted_value rank l n j (eq_false j n f) in
    elim (a (omega (arith, w, granted_value (λ s. s.held) l n j (eq_false j n f)))) [
      | inl less ↦ inl (omega (arith, r, t, less))
      | inr same ↦ inr (omega (arith, r, t, same.0), same.1)
    ]

pub lends_no_more_by : (l : Lending) (n i j : ℕ) → 0 < held_at l.seats i → may_grant l n ≡ true → IsAfter l.seats i j → (b : Bool) → (j == n) ≡ b → lent_at (happens l (Grants n)).seats j ≤ lent_at l.seats j
lends_no_more_by l n i j w e a true f = let same = eq_true j n f in
    subst (λ (k : ℕ). lent_at (happens l (Grants k)).seats j ≤ lent_at l.seats j) same (granted_lends l i j w a (subst (λ (k : ℕ). may_grant l k ≡ true) (sym same) e))
lends_no_more_by l n i j w e a false f = omega (arith, granted_value lent l n j (eq_false j n f))

not_it : (l : Lending) (n i : ℕ) → may_grant l n ≡ true → 0 < held_at (happens l (Grants n)).seats i → i ≢ n
not_it l n i e w f = omega (arith, w, subst (λ (k : ℕ). held_at (happens l (Grants n)).seats k ≡ 0) (sym f) (granted_held l n e))

grants_pass : (l m : Lending) (i j : ℕ) → ByGrants l m → 0 < held_at m.seats i → IsAfter l.seats i j → lent_at m.seats j ≤ lent_at l.seats j
grants_pass _ _ i j (Stays l) w a = omega arith
grants_pass _ _ i j (Granted l m n f b) w a =
    let e = next_may l n f in
    let v = waited_before (happens l (Grants n)) m i b w in
    let u = waited_before l (happens l (Grants n)) i (Granted l (happens l (Grants n)) n f (Stays (happens l (Grants n)))) v in
    let d = not_it l n i e v in
    omega (arith, grants_pass (happens l (Grants n)) m i j b w (still_after l n i j e d a (j == n) refl), lends_no_more_by l n i j u e a (j == n) refl)

-- ---- a step

-- with its last targets a state is as before, but for these
waits_then : (l : Lending) (i : ℕ) → 0 < held_at (all_targeted (room l) l.seats) i → 0 < held_at l.seats i
waits_then l i w = omega (arith, w, values_same (λ s. s.held) (room l) l.seats i holds_same)

pass_by : (l x m : Lending) (i j : ℕ) → ByGrants x l → GrantsNone l → m ≡ record l { seats = all_targeted (room l) l.seats } → 0 < held_at m.seats i → IsAfter x.seats i j
    → lent_at m.seats j ≤ lent_at x.seats j
pass_by l x m i j b g e w a =
    let v = waits_then l i (subst (λ (k : Lending). 0 < held_at k.seats i) e w) in
    let same : lent_at m.seats j ≡ lent_at (all_targeted (room l) l.seats) j = ap (λ (k : Lending). lent_at k.seats j) e in
    omega (arith, same, values_still lent (room l) l.seats j (no_room_left l i v g) lends_same, grants_pass x l i j b v a)

pub none_is_passed : (l m : Lending) (e : Event) (i j : ℕ) → IsStep l e m → 0 < held_at m.seats i → IsAfter (happens l e).seats i j → lent_at m.seats j ≤ lent_at (happens l e).seats j
none_is_passed l m e i j s w a = pass_by s.granted (happens l e) m i j s.by_grants s.grants_none s.targets w a

-- ---- what events lend

pub events_lend : (l : Lending) (e : Event) (j : ℕ) → IsNoLoan j e → lent_at (happens l e).seats j ≤ lent_at l.seats j
events_lend l (Hears n r) j h = value_less lent n (heard (next_turn l.seats) r) l.seats j (λ s. hears_lend (next_turn l.seats) r s)
events_lend l (Grants n) j h = absurd h
events_lend l (Overdraws n) j h = absurd h
events_lend l (Targets n) j h = absurd h
events_lend l (Wants n pages) j h = value_less lent n (λ s. record s { wanted = pages }) l.seats j (λ s. omega arith)
events_lend l (Arrives n pages ballooned) j h = value_less lent n (λ _. starting pages ballooned) l.seats j (λ s. omega arith)
events_lend l (Joins n m) j h = either (λ (xs : List Seat). lent_at xs j ≤ lent_at l.seats j) (may_join_at l.seats n m) _ l.seats
    (λ _. omega (
      arith,
      value_less lent m (λ _. newcomer 0) (each_at n (grown (pages_at l.seats m)) l.seats) j (λ s. omega arith),
      value_elsewhere lent n (grown (pages_at l.seats m)) l.seats j h,
    )) (λ _. omega arith)
events_lend l (TakesOver n pages r) j h = omega (arith, value_elsewhere lent n (λ _. queued (next_turn l.seats) (taken_over pages r)) l.seats j h)
events_lend l (Uncounts n) j h = omega (arith, value_elsewhere lent n uncounting l.seats j h)
events_lend l (Budget frames) j h = omega arith
events_lend l (Defers n) j h = value_less lent n (deferring (next_turn l.seats)) l.seats j
    (λ s. either (λ (x : Seat). lent x ≤ lent s) (may_defer s) _ _ (λ _. omega arith) (λ _. omega arith))
events_lend l (Prefers n) j h = omega (arith, value_same lent n (preferring 1) (map (preferring 0) l.seats) j (λ _. refl), value_map lent (preferring 0) l.seats j (λ _. refl))

-- ---- a step leaves nothing to grant

covers_none : (l : Lending) (n : ℕ) (b : Bool) → test_at covers (all_targeted (room l) l.seats) n ≡ b → ((i : ℕ) → held_at l.seats i ≡ 0) → b ≡ false
covers_none l n true e h = absurd (omega (arith, values_same (λ s. s.held) (room l) l.seats n holds_same, h n, covers_held (all_targeted (room l) l.seats) n e)) where
  covers_held : (xs : List Seat) (n : ℕ) → test_at covers xs n ≡ true → 0 < held_at xs n
  covers_held [] n e = absurd (cc)
  covers_held (x ∷ xs) zero e = covers_waits x e
  covers_held (x ∷ xs) (suc n) e = covers_held xs n e
covers_none l n false e h = refl

covers_still : (room : ℕ) (xs : List Seat) (n : ℕ) → room ≡ 0 → test_at covers (all_targeted room xs) n ≡ test_at covers xs n
covers_still room [] n e = refl
covers_still room (x ∷ xs) zero e = ap (λ (k : ℕ). covers (retargeted k x)) e ∙ covers_same x where
  covers_same : (s : Seat) → covers (retargeted 0 s) ≡ covers s
  covers_same s = ap (λ (h : ℕ). nat_lt 0 h && (asked (retargeted 0 s) == 0)) (holds_same 0 s) ∙ ap (λ (k : ℕ). waits s && (k == 0)) (asks_same s)
covers_still room (x ∷ xs) (suc n) e = covers_still (room_after room x) xs n (still_none room x e)

first_still : (room n : ℕ) (xs : List Seat) → IsFirst xs n → IsFirst (all_targeted room xs) n
first_still room n xs f = let h = λ (i : ℕ). values_same (λ s. s.held) room xs i holds_same in let r = λ (i : ℕ). values_same rank room xs i ranks_same in record {
  waits = omega (arith, h n, f.waits);
  before_all = λ i w. omega (arith, r n, r i, f.before_all i (omega (arith, h i, w)));
  lowest = λ i l w. omega (arith, r n, r i, f.lowest i l (omega (arith, h i, w)));
}

targets_grant_none : (l : Lending) → GrantsNone l → GrantsNone (record l { seats = all_targeted (room l) l.seats })
targets_grant_none l g = elim g.no_room [
  | inl none ↦ record {
    none_covered = λ n. covers_none l n (test_at covers (all_targeted (room l) l.seats) n) refl none;
    no_room = inl (λ n. values_same (λ s. s.held) (room l) l.seats n holds_same ∙ none n);
  }
  | inr first ↦ let e = no_room_left l first.0 first.1.waits g in record {
    none_covered = λ n. covers_still (room l) l.seats n e ∙ g.none_covered n;
    no_room = inr (
      first.0,
      first_still (room l) first.0 l.seats first.1,
      omega (arith, first.2, sums_still lent (room l) l.seats e lends_same, values_still asked (room l) l.seats first.0 e asks_same),
    );
  }
]

pub step_settles : (l m : Lending) (e : Event) → IsStep l e m → GrantsNone m
step_settles l m e s = subst GrantsNone (sym s.targets) (targets_grant_none s.granted s.grants_none)
