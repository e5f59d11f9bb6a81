-- Once each guest had a round, and another one, no process holds back a deflate, unless the host is short.
use Rattle.std.proofs.Common.{◌≡◌, ◌≢◌, ℕ, zero, suc, ◌-◌, ◌<◌, ◌≤◌, ◌⊎◌, ◌==◌, ◌&&◌, Bool, true, false, nat_lt, if◌then◌else◌, inl, inr, List, [], ◌∷◌, Some, refl, sym, subst, ap, ◌∙◌, arith}
use Rattle.std.proofs.lemmas.Bool.Decides.{nat_tests}
use Rattle.std.specs.Prelude.{⊤, slice_get}
use Rattle.std.specs.List.{AllByRecursion}
use Rattle.vb_host.specs.declared.seat.Seat.{Seat}
use Rattle.vb_host.specs.Lending.{each_at, held_at, may_grant, room, test_at}
use Rattle.vb_host.specs.Line.{GrantsNone}
use Rattle.vb_host.specs.Outstanding.{HadRounds, HasRound, InEachState, IsGranted, IsTargeted, Move, all_need, by_moves, has_round, moved}
use Rattle.vb_host.specs.Rounds.{round}
use Rattle.vb_host.specs.Seats.{covers, granting, heard, lent, retargeted, waits}
use Rattle.vb_host.specs.System.{Confirms, Grants, Guest, Host, Limits, Process, Targets, by_lender, changed, lending, opened, seats, snapshot, through, view, viewed}
use Rattle.vb_host.proofs.Budget.{opened_safe, run_true, step_true}
use Rattle.vb_host.proofs.Giving.{process_then, rounded, rounded_process, seat_by, seen_by, then_known}
use Rattle.vb_host.proofs.Grants.{may_waits}
use Rattle.vb_host.proofs.Heard.{heard_deflates, heard_held}
use Rattle.vb_host.proofs.LentBy.{retargets}
use Rattle.vb_host.proofs.Lines.{by_waits}
use Rattle.vb_host.proofs.Lists.{all_get, some_is}
use Rattle.vb_host.proofs.Moving.{has_told, held_there}
use Rattle.vb_host.proofs.Serving.{round_is, serves, turn_of}
use Rattle.vb_host.proofs.Settling.{granted_drops, ordered_ready}
use Rattle.vb_host.proofs.Sound.{IsKnown, IsTrusty, either, eq_false, eq_true, lt_false, lt_true, or_either}

-- ---- the guest at a place, before and after moves

abbrev At : (Guest → Type 0) → ℕ → List Guest → Type 0
At P n xs = (g : Guest) → slice_get xs n ≡ Some g → P g

kept_at : (P : Guest → Type 0) (k n : ℕ) (f : Guest → Guest) (xs : List Guest) → ((g : Guest) → slice_get xs k ≡ Some g → P g → P (f g)) → At P n xs → At P n (each_at k f xs)
kept_at P k n f [] h a g e = a g e
kept_at P zero zero f (x ∷ xs) h a g e = subst P (some_is (f x) g e) (h x refl (a x refl))
kept_at P zero (suc n) f (x ∷ xs) h a g e = a g e
kept_at P (suc k) zero f (x ∷ xs) h a g e = a g e
kept_at P (suc k) (suc n) f (x ∷ xs) h a g e = kept_at P k n f xs h a g e

made_at : (P : Guest → Type 0) (n : ℕ) (f : Guest → Guest) (xs : List Guest) → ((g : Guest) → slice_get xs n ≡ Some g → P (f g)) → At P n (each_at n f xs)
made_at P n f [] h g e = absurd (cc)
made_at P zero f (x ∷ xs) h g e = subst P (some_is (f x) g e) (h x refl)
made_at P (suc n) f (x ∷ xs) h g e = made_at P n f xs h g e

-- What a round, a grant to a guest that waits, and a target leave of a guest; and what a round makes of it.
record IsStable (P : Guest → Type 0) : Type 0 where
  rounds : (turn pages : ℕ) (g : Guest) → IsTrusty g → P g → P (rounded turn pages g)
  grants : (g : Guest) → IsTrusty g → waits (view g) ≡ true → P g → P (by_lender granting g)
  targets : (room : ℕ) (g : Guest) → P g → P (by_lender (retargeted room) g)

abbrev IsMade : (Guest → Type 0) → (Guest → Type 0) → Type 0
IsMade P Q = (turn pages : ℕ) (g : Guest) → IsTrusty g → P g → Q (rounded turn pages g)

move_true : (h : Host) (m : Move) → AllByRecursion IsTrusty h.guests → AllByRecursion IsTrusty (moved h m).guests
move_true h (HasRound n pages) t = run_true h (Confirms n ∷ Limits n ∷ Confirms n ∷ round n pages) t
move_true h (IsGranted n) t = step_true h (Grants n) t
move_true h (IsTargeted n) t = step_true h (Targets n) t

moves_true : (h : Host) (moves : List Move) → AllByRecursion IsTrusty h.guests → AllByRecursion IsTrusty (by_moves moves h).guests
moves_true h [] t = t
moves_true h (m ∷ moves) t = moves_true (moved h m) moves (move_true h m t)

test_there : (test : Seat → Bool) (b : Bool) (xs : List Guest) (n : ℕ) (g : Guest) → test_at test (seats xs) n ≡ b → slice_get xs n ≡ Some g → test (view g) ≡ b
test_there test b [] n g w e = absurd (cc)
test_there test b (x ∷ xs) zero g w e = subst (λ (y : Guest). test (view y) ≡ b) (some_is x g e) w
test_there test b (x ∷ xs) (suc n) g w e = test_there test b xs n g w e

move_keeps : (P : Guest → Type 0) (n : ℕ) (h : Host) (m : Move) → IsStable P → AllByRecursion IsTrusty h.guests → At P n h.guests → At P n (moved h m).guests
move_keeps P n h (HasRound k pages) s t a = subst (λ (xs : List Guest). At P n xs) (sym (round_is h k pages))
    (kept_at P k n (rounded (turn_of k pages h) pages) h.guests (λ g e. s.rounds (turn_of k pages h) pages g (all_get IsTrusty h.guests k g t e)) a)
move_keeps P n h (IsGranted k) s t a = either (λ (x : Host). At P n x.guests) (may_grant (lending h) k) _ _
    (λ e. kept_at P k n (by_lender granting) h.guests (λ g there. s.grants g (all_get IsTrusty h.guests k g t there) (test_there waits true h.guests k g (may_waits (lending h) k e) there)) a) (λ _. a)
move_keeps P n h (IsTargeted k) s t a = kept_at P k n (by_lender (retargeted (room (lending h)))) h.guests (λ g _. s.targets (room (lending h)) g) a

moves_keep : (P : Guest → Type 0) (n : ℕ) (h : Host) (moves : List Move) → IsStable P → AllByRecursion IsTrusty h.guests → At P n h.guests → At P n (by_moves moves h).guests
moves_keep P n h [] s t a = a
moves_keep P n h (m ∷ moves) s t a = moves_keep P n (moved h m) moves s (move_true h m t) (move_keeps P n h m s t a)

moves_make : (P Q : Guest → Type 0) (n : ℕ) (h : Host) (moves : List Move) → IsStable P → IsStable Q → IsMade P Q → AllByRecursion IsTrusty h.guests → At P n h.guests → has_round n moves ≡ true
    → At Q n (by_moves moves h).guests
moves_make P Q n h [] s q i t a r = absurd (cc)
moves_make P Q n h (HasRound k pages ∷ moves) s q i t a r =
    let x = moved h (HasRound k pages) in
    or_either (k == n) _ r
    (λ e. moves_keep Q n x moves q (move_true h (HasRound k pages) t) (subst (λ (xs : List Guest). At Q n xs) (sym (round_is h k pages))
    (subst (λ (j : ℕ). At Q n (each_at j (rounded (turn_of k pages h) pages) h.guests)) (sym (eq_true k n e))
    (made_at Q n (rounded (turn_of k pages h) pages) h.guests (λ g there. i (turn_of k pages h) pages g (all_get IsTrusty h.guests n g t there) (a g there))))))
    (λ later. moves_make P Q n x moves s q i (move_true h (HasRound k pages) t) (move_keeps P n h (HasRound k pages) s t a) later)
moves_make P Q n h (IsGranted k ∷ moves) s q i t a r = moves_make P Q n (moved h (IsGranted k)) moves s q i (move_true h (IsGranted k) t) (move_keeps P n h (IsGranted k) s t a) r
moves_make P Q n h (IsTargeted k ∷ moves) s q i t a r = moves_make P Q n (moved h (IsTargeted k)) moves s q i (move_true h (IsTargeted k) t) (move_keeps P n h (IsTargeted k) s t a) r

-- ---- what is true of a strict guest that the lender knows

abbrev Ours : (Process → Seat → Type 0) → Guest → Type 0
Ours P g = g.strict ≡ true → g.known ≡ true → P g.process g.seat

-- after a round, in these parts
round_is_ours : (P : Process → Seat → Type 0) (turn pages : ℕ) (g : Guest) → g.known ≡ true
    → P (process_then pages g.process g.seat) (heard turn (snapshot (process_then pages g.process g.seat)) g.seat) → P (rounded turn pages g).process (rounded turn pages g).seat
round_is_ours P turn pages g k h =
    let x = rounded turn pages g in
    let p = rounded_process turn pages g k in
    let s : x.seat ≡ heard turn (snapshot (process_then pages g.process g.seat)) g.seat = sym (seen_by g.known x.seat k) ∙ (seat_by g.known turn x.process g.seat k
    ∙ ap (λ (y : Process). heard turn (snapshot y) g.seat) p) in
    subst (λ (y : Process). P y x.seat) (sym p) (subst (λ (y : Seat). P (process_then pages g.process g.seat) y) (sym s) h)

changes_ours : (P : Process → Seat → Type 0) (f : Seat → Seat) (b : Bool) (p : Process) (s : Seat) → b ≡ true → P p (f s) → P p (changed b f s)
changes_ours P f true p s e h = h
changes_ours P f false p s e h = absurd (cc)

waits_by : (b : Bool) (s : Seat) → b ≡ true → waits (viewed b s) ≡ true → 0 < s.held
waits_by true s e w = lt_true 0 s.held w
waits_by false s e w = absurd (cc)

-- ---- its deflate was heard of, or granted

abbrev IsHeardOf : Process → Seat → Type 0
IsHeardOf p s = (p.held ≡ 0) ⊎ ((0 < s.held) × (s.deflates ≡ p.deflates)) ⊎ (p.deflates ≡ s.granted)

heard_of : (q : Process) (t : Seat) (b c : Bool) → nat_lt 0 q.held ≡ b → (q.deflates == t.granted) ≡ c → t.deflates ≡ q.deflates → (0 < q.held → q.deflates ≢ t.granted → waits t ≡ true) → IsHeardOf q t
heard_of q t false c e f d h = inl (omega (arith, lt_false 0 q.held e))
heard_of q t true true e f d h = inr (inr (eq_true q.deflates t.granted f))
heard_of q t true false e f d h = inr (inl (lt_true 0 t.held (h (lt_true 0 q.held e) (eq_false q.deflates t.granted f)), d))

round_hears : (turn pages : ℕ) (g : Guest) → IsTrusty g → Ours IsHeardOf (rounded turn pages g)
round_hears turn pages g t strict known =
    let q = process_then pages g.process g.seat in
    let k = then_known pages g.process g.seat (t strict).known in
    let s = heard turn (snapshot q) g.seat in
    round_is_ours IsHeardOf turn pages g known (heard_of q s (nat_lt 0 q.held) (q.deflates == s.granted) refl refl (heard_deflates q turn g.seat k) (has_told q turn g.seat k).held)

grant_hears : (p : Process) (s : Seat) → 0 < s.held → IsKnown p s → IsHeardOf p s → IsHeardOf p (granting s)
grant_hears p s w k h = elim h [
  | inl none ↦ inl none
  | inr other ↦ elim other [
    | inl held ↦ inr (inr (sym held.1))
    | inr granted ↦ absurd (omega (arith, granted, k.memory.waiting w, k.memory.waited w))
  ]
]

heard_stays : IsStable (Ours IsHeardOf)
heard_stays = record {
  rounds = λ turn pages g t _. round_hears turn pages g t;
  grants = λ g t w h strict known. changes_ours IsHeardOf granting g.known g.process g.seat known (grant_hears g.process g.seat (waits_by g.known g.seat known w) (t strict).known (h strict known));
  targets = λ room g h strict known. changes_ours IsHeardOf (retargeted room) g.known g.process g.seat known
      (retargets (λ (x : Seat). IsHeardOf g.process x) room g.seat (h strict known) (λ _. h strict known));
}

-- ---- nothing waits, and its deflate was granted

abbrev IsServed : Process → Seat → Type 0
IsServed p s = ((p.held ≡ 0) ⊎ (p.deflates ≡ s.granted)) × (s.held ≡ 0)

at_most_none : (a b : ℕ) → a ≤ b → b ≡ 0 → a ≡ 0
at_most_none a b l e = omega (arith, l, e)

served_none : (p : Process) (s : Seat) (pages : ℕ) → IsKnown p s → IsServed p s → (process_then pages p s).held ≡ 0
served_none p s pages k h = elim h.0 [
  | inl none ↦ at_most_none (process_then pages p s).held p.held (ordered_ready p s k).held none
  | inr granted ↦ granted_drops p s granted
]

round_serves : (turn pages : ℕ) (g : Guest) → IsTrusty g → Ours IsServed g → Ours IsServed (rounded turn pages g)
round_serves turn pages g t h strict known =
    let q = process_then pages g.process g.seat in
    let k = (t strict).known in
    let none = served_none g.process g.seat pages k (h strict known) in
    round_is_ours IsServed turn pages g known (inl none, at_most_none (heard turn (snapshot q) g.seat).held q.held (heard_held q turn g.seat (then_known pages g.process g.seat k)) none)

waits_none : (n : ℕ) → 0 < n → n ≡ 0 → ⊥
waits_none n w e = omega (arith, w, e)

served_stays : IsStable (Ours IsServed)
served_stays = record {
  rounds = round_serves;
  grants = λ g t w h strict known. absurd (waits_none g.seat.held (waits_by g.known g.seat known w) (h strict known).1);
  targets = λ room g h strict known. changes_ours IsServed (retargeted room) g.known g.process g.seat known
      (retargets (λ (x : Seat). IsServed g.process x) room g.seat (h strict known) (λ _. h strict known));
}

-- ---- its process holds back nothing

abbrev HoldsNone : Process → Seat → Type 0
HoldsNone p s = p.held ≡ 0

none_stays : IsStable (Ours HoldsNone)
none_stays = record {
  rounds = λ turn pages g t h strict known. round_is_ours HoldsNone turn pages g known
      (at_most_none (process_then pages g.process g.seat).held g.process.held (ordered_ready g.process g.seat (t strict).known).held (h strict known));
  grants = λ g _ _ h. h;
  targets = λ _ g h. h;
}

round_gives : IsMade (Ours IsServed) (Ours HoldsNone)
round_gives turn pages g t h strict known = round_is_ours HoldsNone turn pages g known (served_none g.process g.seat pages (t strict).known (h strict known))

-- ---- who waits

not_none : (n : ℕ) → (n == 0) ≡ false → 0 < n
not_none n e = grind (arith, nat_tests)

asks_for : (b : Bool) (n : ℕ) → b ≡ true → (b && ((if b then n else 0) == 0)) ≡ false → 0 < n
asks_for true n e f = not_none n f
asks_for false n e f = absurd (cc)

goes_deeper : (s : Seat) → 0 < s.held → covers s ≡ false → s.least_target ≤ s.target → s.ballooned - s.held < s.target
goes_deeper s w c l = omega (arith, asks_for (waits s) (lent (granting s) - lent s) (by_waits s.held w) c, l)

pub waiters_go_deeper : InEachState (λ h. (n : ℕ) (g : Guest) → GrantsNone (lending h) → slice_get h.guests n ≡ Some g → g.strict ≡ true → g.known ≡ true → 0 < g.seat.held
    → g.seat.ballooned - g.seat.held < g.seat.target)
waiters_go_deeper frames overdraft sizes steps n g none there strict known w =
    let h = through steps (opened frames overdraft sizes) in
    goes_deeper g.seat w (ap (λ (s : Seat). covers s) (sym (seen_by g.known g.seat known)) ∙ test_there covers false h.guests n g (none.none_covered n) there)
    (all_get IsTrusty h.guests n g (run_true (opened frames overdraft sizes) steps (opened_safe frames overdraft sizes).each) there strict).known.targets.least_given

-- ---- both

none_waits : (h : Host) (moves : List Move) (n : ℕ) (b : Bool) → nat_lt 0 (held_at (seats (by_moves moves h).guests) n) ≡ b → AllByRecursion IsTrusty h.guests → HadRounds h moves
    → all_need h ≤ h.frames → held_at (seats (by_moves moves h).guests) n ≡ 0
none_waits h moves n true e t r l = absurd (omega (arith, l, serves h moves n t r (lt_true 0 (held_at (seats (by_moves moves h).guests) n) e)))
none_waits h moves n false e t r l = omega (arith, lt_false 0 (held_at (seats (by_moves moves h).guests) n) e)

then_served : (p : Process) (s : Seat) → s.held ≡ 0 → IsHeardOf p s → IsServed p s
then_served p s w h = elim h [
  | inl none ↦ (inl none, w)
  | inr other ↦ elim other [
    | inl held ↦ absurd (omega (arith, held.0, w))
    | inr granted ↦ (inr granted, w)
  ]
]

gives_all : (h : Host) (moves later : List Move) (n : ℕ) → AllByRecursion IsTrusty h.guests → HadRounds h moves → all_need h ≤ h.frames → has_round n moves ≡ true → has_round n later ≡ true
    → At (Ours HoldsNone) n (by_moves later (by_moves moves h)).guests
gives_all h moves later n t r l first second =
    let k = by_moves moves h in
    let known_of : At (Ours IsHeardOf) n k.guests = moves_make (λ _. ⊤) (Ours IsHeardOf) n h moves (record { rounds = λ _ _ _ _ _. tt; grants = λ _ _ _ _. tt; targets = λ _ _ _. tt }) heard_stays
    (λ turn pages g t _. round_hears turn pages g t) t (λ _ _. tt) first in
    moves_make (Ours IsServed) (Ours HoldsNone) n k later served_stays none_stays round_gives (moves_true h moves t)
    (λ g e strict known. then_served g.process g.seat
    (ap (λ (s : Seat). s.held) (sym (seen_by g.known g.seat known)) ∙ (sym (held_there k.guests n g e) ∙ none_waits h moves n _ refl t r l)) (known_of g e strict known)) second

pub two_rounds_each : InEachState (λ h. (moves later : List Move) (n : ℕ) (g : Guest) → HadRounds h moves → all_need h ≤ h.frames → has_round n moves ≡ true → has_round n later ≡ true
    → slice_get (by_moves later (by_moves moves h)).guests n ≡ Some g → g.strict ≡ true → g.known ≡ true → g.process.held ≡ 0)
two_rounds_each frames overdraft sizes steps moves later n g r l first second e strict known =
    gives_all (through steps (opened frames overdraft sizes)) moves later n (run_true (opened frames overdraft sizes) steps (opened_safe frames overdraft sizes).each) r l first second g e strict known
