-- After one round nothing is on its way between a guest and the lender, or its grant is.
use Rattle.std.proofs.Common.{◌≡◌, ◌≢◌, ℕ, zero, suc, ◌+◌, ◌<◌, ◌≤◌, ◌⊎◌, inl, inr, Bool, true, false, not, ◌&&◌, ◌==◌, nat_lt, nat_le, List, [], ◌∷◌, min, Some, refl, subst, sym, ap, ◌∙◌, arith}
use Rattle.std.proofs.lemmas.Bool.Decides.{nat_tests}
use Rattle.std.specs.Prelude.{slice_get}
use Rattle.vb_host.specs.declared.report.Report.{Report}
use Rattle.vb_host.specs.declared.seat.Seat.{Seat}
use Rattle.vb_host.specs.Lending.{each_at, next_turn}
use Rattle.vb_host.specs.Promises.{HasGiven, HasTold, IsQuiet}
use Rattle.std.specs.List.{AllByRecursion}
use Rattle.vb_host.specs.Rounds.{IsRegular, IsSettled, round}
use Rattle.vb_host.specs.Seats.{due_grant, due_target, heard, lent, waits}
use Rattle.vb_host.specs.System.{Gives, Grant, Guest, Host, Limit, Order, Process, Reads, Step, Target, by_lender, changed, does, hearing, obeying, obeys, opened}
use Rattle.vb_host.specs.System.{order_at, report_at, seats, sending, snapshot, through}
use Rattle.vb_host.proofs.Budget.{opened_safe, run_true}
use Rattle.vb_host.proofs.Changes.{sends_grant, sends_target}
use Rattle.vb_host.proofs.Lists.{all_get, some_is}
use Rattle.vb_host.proofs.Moving.{has_told, target_same}
use Rattle.vb_host.proofs.Processes.{does_moves, obeys_moves}
use Rattle.vb_host.proofs.LentBy.{hears_lend}
use Rattle.vb_host.proofs.Sound.{IsKnown, IsTrusty, and_left, and_right, counts, either, eq_false, eq_true, hears, lt_false, lt_true}

-- ---- what the process is then

abbrev pub ordered : Process → Seat → Process
ordered p s = obeys (Grant s.granted) (obeys (Target s.target_number s.target) p)

abbrev settled : Process → Seat → Process
settled p s = does (Gives s.target) (does Reads (ordered p s))

settled_known : (p : Process) (s : Seat) → IsKnown p s → IsKnown (settled p s) s
settled_known p s k =
    let a = (obeys_moves s p (Target s.target_number s.target) (sends_target p s k) k).known in
    let b = (obeys_moves s (obeys (Target s.target_number s.target) p) (Grant s.granted) (sends_grant (obeys (Target s.target_number s.target) p) s) a).known in
    (does_moves s (does Reads (ordered p s)) (Gives s.target) (does_moves s (ordered p s) Reads b).known).known

-- what it received, and what it has
pub record IsReady (p q : Process) (s : Seat) : Type 0 where
  pub number : q.target_number ≡ s.target_number
  pub target : q.target ≡ s.target
  pub pages : q.pages ≡ p.pages
  pub held : q.held ≤ p.held

target_ready : (p : Process) (s : Seat) → IsKnown p s → IsReady p (obeys (Target s.target_number s.target) p) s
target_ready p s k = either (λ (x : Process). IsReady p x s) (nat_lt p.target_number s.target_number) _ _
    (λ _. record { number = refl; target = refl; pages = refl; held = omega arith })
    (λ f. let e : p.target_number ≡ s.target_number = omega (arith, k.targets.number, lt_false p.target_number s.target_number f) in
    record { number = e; target = k.targets.target e; pages = refl; held = omega arith })

grant_ready : (p q : Process) (s : Seat) (n : ℕ) → IsReady p q s → IsReady p (obeys (Grant n) q) s
grant_ready p q s n r = either (λ (x : Process). IsReady p x s) (q.deflates == n) _ _
    (λ _. record { number = r.number; target = r.target; pages = r.pages; held = omega arith }) (λ _. r)

pub ordered_ready : (p : Process) (s : Seat) → IsKnown p s → IsReady p (ordered p s) s
ordered_ready p s k = grant_ready p (obeys (Target s.target_number s.target) p) s s.granted (target_ready p s k)

has_pages : (p q : Process) (s : Seat) → IsReady p q s → s.target ≤ p.pages → s.target ≤ min (q.balloon + s.target) q.pages
has_pages p q s r l = omega (arith, r.pages, l)

-- ---- what a report leaves of the seat

heard_number : (turn : ℕ) (r : Report) (s : Seat) → (heard turn r s).target_number ≡ s.target_number
heard_number turn r s = hears (λ (x : Seat). x.target_number ≡ s.target_number) turn r s (record { granted = λ _ _ e. e; raised_to = λ _ e. e; turned = λ _ _ e. e }) refl
    (λ q. counts (λ (x : Seat). x.target_number ≡ s.target_number) q s (λ _ _. refl) (λ _. refl))

pub heard_uncounted : (turn : ℕ) (r : Report) (s : Seat) → (heard turn r s).uncounted ≡ s.uncounted
heard_uncounted turn r s = hears (λ (x : Seat). x.uncounted ≡ s.uncounted) turn r s (record { granted = λ _ _ e. e; raised_to = λ _ e. e; turned = λ _ _ e. e }) refl
    (λ q. counts (λ (x : Seat). x.uncounted ≡ s.uncounted) q s (λ _ _. refl) (λ _. refl))

-- ---- nothing is on its way

-- `IsQuiet` and `HasGiven`, of a process and a seat
record IsIdle (p : Process) (s : Seat) : Type 0 where
  no_target : due_target (snapshot p) s ≡ false
  no_grant : due_grant (snapshot p) s ≡ false
  read_told : p.read_target ≡ s.target
  heard_read : s.least_target ≡ s.target
  heard_held : 0 < p.held → p.deflates ≢ s.granted → waits s ≡ true
  has_given : waits s ≡ false → s.uncounted ≡ 0 → s.target ≤ s.ballooned

abbrev Settles : Process → Seat → Type 0
Settles p s = (due_grant (snapshot p) s ≡ true) ⊎ IsIdle p s

pub no_due : (a b : ℕ) → a ≡ b → not (a == b) ≡ false
no_due a b e = grind (arith, nat_tests)

due_is : (held deflates granted : ℕ) → 0 < held → deflates ≡ granted → (nat_lt 0 held && (deflates == granted)) ≡ true
due_is held deflates granted w e = grind (arith, nat_tests)

-- where no grant is due, all of the balloon counts
counts_all : (p : Process) (s t : Seat) (w e : Bool) → nat_lt 0 p.held ≡ w → (p.deflates == t.granted) ≡ e → (w && e) ≡ false → HasTold p s t → s.uncounted ≡ 0 → p.balloon ≤ t.ballooned
counts_all p s t true true f g n h u = absurd (cc)
counts_all p s t true false f g n h u = h.balloon u (eq_false p.deflates t.granted g)
counts_all p s t false e f g n h u = omega (arith, h.without u, lt_false 0 p.held f)

idle : (p : Process) (s : Seat) (turn : ℕ) → IsKnown p s → p.target_number ≡ s.target_number → p.read_target ≡ s.target → s.target ≤ p.balloon
    → due_grant (snapshot p) (heard turn (snapshot p) s) ≡ false → IsIdle p (heard turn (snapshot p) s)
idle p s turn k n r l d =
    let t = heard turn (snapshot p) s in let h = has_told p turn s k in let same = target_same turn (snapshot p) s in record {
      no_target = no_due p.target_number t.target_number (n ∙ sym (heard_number turn (snapshot p) s));
      no_grant = d;
      read_told = r ∙ sym same;
      heard_read = h.read_target (no_due p.target_number s.target_number n) r;
      heard_held = h.held;
      has_given = λ _ u. within p.balloon t.ballooned t.target s.target (counts_all p s t (nat_lt 0 p.held) (p.deflates == t.granted) refl refl d h (sym (heard_uncounted turn (snapshot p) s) ∙ u)) same l;
    } where
      within : (b c t u : ℕ) → b ≤ c → t ≡ u → u ≤ b → t ≤ c
      within b c t u l e m = omega (arith, l, e, m)

settles_by : (p : Process) (s : Seat) (turn : ℕ) (b : Bool) → due_grant (snapshot p) (heard turn (snapshot p) s) ≡ b → IsKnown p s → p.target_number ≡ s.target_number
    → p.read_target ≡ s.target → s.target ≤ p.balloon → Settles p (heard turn (snapshot p) s)
settles_by p s turn true e k n r l = inl e
settles_by p s turn false e k n r l = inr (idle p s turn k n r l e)

settles : (p : Process) (s : Seat) (turn : ℕ) → IsKnown p s → s.target ≤ p.pages → Settles (settled p s) (heard turn (snapshot (settled p s)) s)
settles p s turn k l = let r = ordered_ready p s k in
    settles_by (settled p s) s turn (due_grant (snapshot (settled p s)) (heard turn (snapshot (settled p s)) s)) refl (settled_known p s k) r.number r.target (has_pages p (ordered p s) s r l)

-- ---- a round

pub sends_both : (b : Bool) (l : Limit) (s : Seat) (orders : List Order) → b ≡ true → lent s ≤ l.sure → sending b l s orders ≡ Target s.target_number s.target ∷ Grant s.granted ∷ orders
sends_both true l s orders e h = either (λ (os : List Order). os ≡ Target s.target_number s.target ∷ Grant s.granted ∷ orders) (nat_le (lent s) l.sure) _ _
    (λ _. refl) (λ f. absurd (not_within (lent s) l.sure h f)) where
      not_within : (a b : ℕ) → a ≤ b → nat_le a b ≡ false → ⊥
      not_within a b h f = grind (arith, nat_tests)
sends_both false l s orders e h = absurd (cc)

-- by these orders
abbrev process_after : List Order → Process → ℕ → Process
process_after orders p pages = does (Gives pages) (does Reads (obeying (order_at orders 1) (obeying (order_at orders 0) p)))

abbrev round_after : ℕ → Guest → Guest
round_after turn g =
    let q = process_after (sending g.known g.limit g.seat g.orders) g.process g.seat.target in
    record g {
      process = q;
      seat = changed g.known (hearing turn (Some (snapshot q))) g.seat;
      orders = sending g.known g.limit g.seat g.orders;
      reports = snapshot q ∷ g.reports;
    }

seat_after : (b : Bool) (turn : ℕ) (q : Process) (s : Seat) → b ≡ true → changed b (hearing turn (Some (snapshot q))) s ≡ heard turn (snapshot q) s
seat_after true turn q s e = refl
seat_after false turn q s e = absurd (cc)

idle_guest : (x : Guest) → x.known ≡ true → Settles x.process x.seat → (due_grant (snapshot x.process) x.seat ≡ true) ⊎ (IsQuiet x × HasGiven x)
idle_guest x k h = elim h [
  | inl due ↦ inl due
  | inr i ↦ inr (
    record { known = k; no_target = i.no_target; no_grant = i.no_grant; read_told = i.read_told; heard_read = i.heard_read; heard_held = i.heard_held },
    i.has_given,
  )
]

round_settles : (turn : ℕ) (g : Guest) → g.known ≡ true → lent g.seat ≤ g.limit.sure → g.seat.target ≤ g.process.pages → IsKnown g.process g.seat → IsSettled g (round_after turn g)
round_settles turn g k l t h =
    let x = round_after turn g in
    let e : x.process ≡ settled g.process g.seat = ap (λ (os : List Order). process_after os g.process g.seat.target) (sends_both g.known g.limit g.seat g.orders k l) in
    let f : x.seat ≡ heard turn (snapshot (settled g.process g.seat)) g.seat = seat_after g.known turn x.process g.seat k ∙ ap (λ (q : Process). heard turn (snapshot q) g.seat) e in
    record {
      held = omega (arith, ap (λ (q : Process). q.held) e, (ordered_ready g.process g.seat h).held);
      settled = idle_guest x k (subst (λ (q : Process). Settles q x.seat) (sym e) (subst (λ (s : Seat). Settles (settled g.process g.seat) s) (sym f) (settles g.process g.seat turn h t)));
    }

-- ---- at its place

pub at_there : (n : ℕ) (f : Guest → Guest) (xs : List Guest) (g : Guest) → slice_get xs n ≡ Some g → slice_get (each_at n f xs) n ≡ Some (f g)
at_there n f [] g e = absurd (cc)
at_there zero f (x ∷ xs) g e = ap (λ (y : Guest). Some (f y)) (some_is x g e)
at_there (suc n) f (x ∷ xs) g e = at_there n f xs g e

abbrev pub sent : Guest → Guest
sent g = record g { orders = sending g.known g.limit g.seat g.orders }

abbrev pub obeyed : ℕ → Guest → Guest
obeyed i g = record g { process = obeying (order_at g.orders i) g.process }

abbrev pub has_read : Guest → Guest
has_read g = record g { process = does Reads g.process }

abbrev pub given : ℕ → Guest → Guest
given pages g = record g { process = does (Gives pages) g.process }

abbrev pub reported : Guest → Guest
reported g = record g { reports = snapshot g.process ∷ g.reports }

abbrev pub received : ℕ → Guest → Guest
received turn g = by_lender (hearing turn (report_at g.reports 0)) g

abbrev pub all_but_last : ℕ → ℕ → List Guest → List Guest
all_but_last n pages xs = each_at n reported (each_at n (given pages) (each_at n has_read (each_at n (obeyed 1) (each_at n (obeyed 0) (each_at n sent xs)))))

abbrev pub last_turn_of : ℕ → ℕ → Host → ℕ
last_turn_of n pages h = next_turn (seats (all_but_last n pages h.guests))

round_there : (h : Host) (n : ℕ) (g : Guest) → slice_get h.guests n ≡ Some g
    → slice_get (through (round n g.seat.target) h).guests n ≡ Some (round_after (last_turn_of n g.seat.target h) g)
round_there h n g e =
    let xs = h.guests in
    let a = at_there n sent xs g e in
    let b = at_there n (obeyed 0) (each_at n sent xs) (sent g) a in
    let c = at_there n (obeyed 1) (each_at n (obeyed 0) (each_at n sent xs)) (obeyed 0 (sent g)) b in
    let d = at_there n has_read (each_at n (obeyed 1) (each_at n (obeyed 0) (each_at n sent xs))) (obeyed 1 (obeyed 0 (sent g))) c in
    let t = g.seat.target in
    let f = at_there n (given t) (each_at n has_read (each_at n (obeyed 1) (each_at n (obeyed 0) (each_at n sent xs)))) (has_read (obeyed 1 (obeyed 0 (sent g)))) d in
    let i = at_there n reported (each_at n (given t) (each_at n has_read (each_at n (obeyed 1) (each_at n (obeyed 0) (each_at n sent xs)))))
    (given t (has_read (obeyed 1 (obeyed 0 (sent g))))) f in
    at_there n (received (last_turn_of n t h)) (all_but_last n t xs) (reported (given t (has_read (obeyed 1 (obeyed 0 (sent g)))))) i

-- in any state in which what is true of each guest is
settles_at : (h : Host) (n : ℕ) (g x : Guest) → AllByRecursion IsTrusty h.guests → slice_get h.guests n ≡ Some g → IsRegular g
    → slice_get (through (round n g.seat.target) h).guests n ≡ Some x → IsSettled g x
settles_at h n g x a e r f = subst (λ (y : Guest). IsSettled g y) (some_is _ x (sym (round_there h n g e) ∙ f))
    (round_settles (last_turn_of n g.seat.target h) g r.known r.limit r.target (all_get IsTrusty h.guests n g a e r.strict).known)

pub rounds_settle : (frames overdraft : ℕ) (sizes : List ℕ) (steps : List Step) (n : ℕ) (g x : Guest) → slice_get (through steps (opened frames overdraft sizes)).guests n ≡ Some g
    → IsRegular g → slice_get (through (round n g.seat.target) (through steps (opened frames overdraft sizes))).guests n ≡ Some x → IsSettled g x
rounds_settle frames overdraft sizes steps n g x e r f =
    settles_at (through steps (opened frames overdraft sizes)) n g x (run_true (opened frames overdraft sizes) steps (opened_safe frames overdraft sizes).each) e r f

-- ---- another round, where the grant is on its way

-- what a round leaves of a guest for the next one
record IsNextRound (g x : Guest) : Type 0 where
  regular : IsRegular x
  target : x.seat.target ≡ g.seat.target

pages_ready : (p : Process) (s : Seat) → IsKnown p s → (settled p s).pages ≡ p.pages
pages_ready p s k = (ordered_ready p s k).pages

regular_after : (turn : ℕ) (g : Guest) → IsRegular g → IsKnown g.process g.seat → IsNextRound g (round_after turn g)
regular_after turn g r h =
    let x = round_after turn g in
    let p = settled g.process g.seat in
    let e : x.process ≡ p = ap (λ (os : List Order). process_after os g.process g.seat.target) (sends_both g.known g.limit g.seat g.orders r.known r.limit) in
    let f : x.seat ≡ heard turn (snapshot p) g.seat = seat_after g.known turn x.process g.seat r.known ∙ ap (λ (q : Process). heard turn (snapshot q) g.seat) e in
    let t : x.seat.target ≡ g.seat.target = ap (λ (s : Seat). s.target) f ∙ target_same turn (snapshot p) g.seat in
    let w : x.process.pages ≡ g.process.pages = ap (λ (q : Process). q.pages) e ∙ pages_ready g.process g.seat h in
    let l : lent x.seat ≡ lent (heard turn (snapshot p) g.seat) = ap (λ (s : Seat). lent s) f in record {
      regular = record { strict = r.strict; known = r.known; limit = less_is (lent x.seat) _ _ _ l (hears_lend turn (snapshot p) g.seat) r.limit; target = omega (arith, t, w, r.target) };
      target = t;
    } where
      less_is : (a b c d : ℕ) → a ≡ b → b ≤ c → c ≤ d → a ≤ d
      less_is a b c d e l m = omega (arith, e, l, m)

-- what was granted isn't held back any longer
pub granted_drops : (p : Process) (s : Seat) → p.deflates ≡ s.granted → (ordered p s).held ≡ 0
granted_drops p s e = either (λ (x : Process). x.held ≡ 0) ((obeys (Target s.target_number s.target) p).deflates == s.granted) _ _
    (λ _. refl) (λ f. absurd (eq_false _ _ f (target_keeps p s ∙ e))) where
      target_keeps : (p : Process) (s : Seat) → (obeys (Target s.target_number s.target) p).deflates ≡ p.deflates
      target_keeps p s = either (λ (x : Process). x.deflates ≡ p.deflates) (nat_lt p.target_number s.target_number) _ _ (λ _. refl) (λ _. refl)

none_due : (held deflates granted : ℕ) → (nat_lt 0 held && (deflates == granted)) ≡ true → (0 < held) × (deflates ≡ granted)
none_due held deflates granted e = (lt_true 0 held (and_left (nat_lt 0 held) _ e), eq_true deflates granted (and_right (nat_lt 0 held) _ e))

quiet_after : (turn : ℕ) (g : Guest) → IsRegular g → IsKnown g.process g.seat → due_grant (snapshot g.process) g.seat ≡ true
    → IsQuiet (round_after turn g) × HasGiven (round_after turn g)
quiet_after turn g r h d =
    let x = round_after turn g in
    let e : x.process ≡ settled g.process g.seat = ap (λ (os : List Order). process_after os g.process g.seat.target) (sends_both g.known g.limit g.seat g.orders r.known r.limit) in
    let none : x.process.held ≡ 0 = ap (λ (q : Process). q.held) e ∙ granted_drops g.process g.seat (none_due g.process.held g.process.deflates g.seat.granted d).1 in
    elim (round_settles turn g r.known r.limit r.target h).settled [
      | inl due ↦ absurd (omega (arith, none, (none_due x.process.held x.process.deflates x.seat.granted due).0))
      | inr idle ↦ idle
    ]

quiet_at : (h : Host) (n t : ℕ) (x y : Guest) → AllByRecursion IsTrusty h.guests → slice_get h.guests n ≡ Some x → IsRegular x → x.seat.target ≡ t → due_grant (snapshot x.process) x.seat ≡ true
    → slice_get (through (round n t) h).guests n ≡ Some y → IsQuiet y × HasGiven y
quiet_at h n t x y a e r s d f = subst (λ (z : Guest). IsQuiet z × HasGiven z)
    (some_is _ y (sym (round_there h n x e) ∙ (ap (λ (k : ℕ). slice_get (through (round n k) h).guests n) s ∙ f)))
    (quiet_after (last_turn_of n x.seat.target h) x r (all_get IsTrusty h.guests n x a e r.strict).known d)

next_at : (h : Host) (n : ℕ) (g x : Guest) → AllByRecursion IsTrusty h.guests → slice_get h.guests n ≡ Some g → IsRegular g
    → slice_get (through (round n g.seat.target) h).guests n ≡ Some x → IsNextRound g x
next_at h n g x a e r f = subst (λ (z : Guest). IsNextRound g z) (some_is _ x (sym (round_there h n g e) ∙ f))
    (regular_after (last_turn_of n g.seat.target h) g r (all_get IsTrusty h.guests n g a e r.strict).known)

two_at : (h : Host) (n : ℕ) (g x y : Guest) → AllByRecursion IsTrusty h.guests → slice_get h.guests n ≡ Some g → IsRegular g
    → slice_get (through (round n g.seat.target) h).guests n ≡ Some x → slice_get (through (round n g.seat.target) (through (round n g.seat.target) h)).guests n ≡ Some y
    → (IsQuiet x × HasGiven x) ⊎ (IsQuiet y × HasGiven y)
two_at h n g x y a e r f i = let next = next_at h n g x a e r f in elim (settles_at h n g x a e r f).settled [
  | inl due ↦ inr (quiet_at (through (round n g.seat.target) h) n g.seat.target x y (run_true h (round n g.seat.target) a) f next.regular next.target due i)
  | inr idle ↦ inl idle
]

pub two_rounds_suffice : (frames overdraft : ℕ) (sizes : List ℕ) (steps : List Step) (n : ℕ) (g x y : Guest)
    → slice_get (through steps (opened frames overdraft sizes)).guests n ≡ Some g → IsRegular g
    → slice_get (through (round n g.seat.target) (through steps (opened frames overdraft sizes))).guests n ≡ Some x
    → slice_get (through (round n g.seat.target) (through (round n g.seat.target) (through steps (opened frames overdraft sizes)))).guests n ≡ Some y
    → (IsQuiet x × HasGiven x) ⊎ (IsQuiet y × HasGiven y)
two_rounds_suffice frames overdraft sizes steps n g x y e r f i =
    two_at (through steps (opened frames overdraft sizes)) n g x y (run_true (opened frames overdraft sizes) steps (opened_safe frames overdraft sizes).each) e r f i
