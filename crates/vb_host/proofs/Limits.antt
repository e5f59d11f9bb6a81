-- No guest uses more than the limit that is in force, or than one that is on its way.
use Rattle.std.proofs.Common.{◌≡◌, ℕ, zero, suc, ◌+◌, ◌-◌, ◌≤◌, Bool, true, false, ◌&&◌, ◌||◌, ◌==◌, nat_lt, nat_le, if◌then◌else◌, List, [], ◌∷◌, min, map, Option, Some, None, refl, arith}
use Rattle.std.specs.Prelude.{slice_get}
use Rattle.std.specs.List.{AllByRecursion}
use Rattle.vb_host.specs.declared.seat.Seat.{Seat}
use Rattle.vb_host.specs.Lending.{each_at, may_grant, may_overdraw, next_turn}
use Rattle.vb_host.specs.Promises.{used}
use Rattle.vb_host.specs.Seats.{lent, preferring}
use Rattle.vb_host.specs.System.{Process, Order, Target, Grant, obeys, Deed, Gives, Holds, Drops, Reads, does, obeying, order_at, Guest, Host, Limit}
use Rattle.vb_host.specs.System.{seats, lending, arriving, taken_up, forgotten, opened, goes, through, sending, limiting, writes, lands, confirms}
use Rattle.vb_host.specs.System.{fails, joined, may_join, joining, Step, Does, Reports, Obeys, Hears, Grants, Overdraws, Wants, Sends, Limits, Lands}
use Rattle.vb_host.specs.System.{Confirms, Fails, Uncounts, Arrives, Joins, TakesOver, Forgets, Budget, Shrinks, may_shrink, Prefers, Defers, Targets, Deviates, by_lender}
use Rattle.vb_host.proofs.Budget.{prefers_true, step_true, opened_safe}
use Rattle.vb_host.proofs.Lists.{all_map, all_get, all_at}
use Rattle.vb_host.proofs.Processes.{IsLeft, shrink_facts, shrunk}
use Rattle.vb_host.proofs.Sound.{IsKnown, IsSent, IsSound, either, IsTrusty, and_left, and_right, eq_true, le_true}

-- a grant that was sent is within the limit
abbrev Lets : Process → Limit → Order → Type 0
Lets p l (Target number target) = Unit {0}
Lets p l (Grant n) = p.deflates ≡ n → (p.pages - (p.balloon - p.held) + p.outside ≤ l.force) × (p.pages - (p.balloon - p.held) + p.outside ≤ l.asked)

pub record IsLimited (g : Guest) : Type 0 where
  pub now : g.process.pages - g.process.balloon + g.process.outside ≤ g.limit.force
  pub soon : g.process.pages - g.process.balloon + g.process.outside ≤ g.limit.asked
  pub sure : g.limit.sure ≤ g.limit.force
  pub sure_soon : g.limit.sure ≤ g.limit.asked
  pub orders : AllByRecursion (Lets g.process g.limit) g.orders

both : (P Q R : Order → Type 0) (xs : List Order) → ((o : Order) → P o → Q o → R o) → AllByRecursion P xs → AllByRecursion Q xs → AllByRecursion R xs
both P Q R [] h a b = tt
both P Q R (x ∷ xs) h a b = (h x a.0 b.0, both P Q R xs h a.1 b.1)

-- ---- the guest

-- what a change of the process keeps
Stays : Process → Process → Seat → Limit → Type 0
Stays p q s l = (q.pages - q.balloon + q.outside ≤ l.force) × (q.pages - q.balloon + q.outside ≤ l.asked) × ((o : Order) → IsSent p s o → Lets p l o → Lets q l o)

process_limited : (g : Guest) (q : Process) → IsSound g → IsLimited g
    → (q.pages - q.balloon + q.outside ≤ g.limit.force) × (q.pages - q.balloon + q.outside ≤ g.limit.asked) × ((o : Order) → IsSent g.process g.seat o → Lets g.process g.limit o → Lets q g.limit o)
    → IsLimited (record g { process = q })
process_limited g q t i m = record {
  now = m.0;
  soon = m.1;
  sure = i.sure;
  sure_soon = i.sure_soon;
  orders = both (IsSent g.process g.seat) (Lets g.process g.limit) (Lets q g.limit) g.orders m.2 t.orders i.orders;
}

gives_lets : (p : Process) (pages : ℕ) (l : Limit) (o : Order) → p.balloon ≤ p.pages → Lets p l o → Lets (does (Gives pages) p) l o
gives_lets p pages l (Target number target) k h = tt
gives_lets p pages l (Grant n) k h = λ e. (omega (arith, k, (h e).0), omega (arith, k, (h e).1))

holds_lets : (p : Process) (s : Seat) (line pages : ℕ) (l : Limit) (o : Order) → s.granted ≤ p.deflates → IsSent p s o → Lets (record p { held = pages; line = line; deflates = p.deflates + 1 }) l o
holds_lets p s line pages l (Target number target) k h = tt
holds_lets p s line pages l (Grant n) k h = λ e. absurd (omega (arith, k, h, e))

drops_lets : (p : Process) (l : Limit) (o : Order) → p.pages - p.balloon + p.outside ≤ l.force → p.pages - p.balloon + p.outside ≤ l.asked → Lets (does Drops p) l o
drops_lets p l (Target number target) a b = tt
drops_lets p l (Grant n) a b = λ e. (omega (arith, a), omega (arith, b))

reads_lets : (p : Process) (l : Limit) (o : Order) → Lets p l o → Lets (does Reads p) l o
reads_lets p l (Target number target) h = tt
reads_lets p l (Grant n) h = h

shrinks_lets : (p : Process) (pages balloon held outside : ℕ) (l : Limit) (o : Order) → IsLeft pages balloon held outside p → Lets p l o → Lets (shrunk pages balloon held outside p) l o
shrinks_lets p pages balloon held outside l (Target number target) f h = tt
shrinks_lets p pages balloon held outside l (Grant n) f h = λ e. (omega (arith, f.used, f.deflate, f.within, f.inside, (h e).0), omega (arith, f.used, f.deflate, f.within, f.inside, (h e).1))

deed_limited : (deed : Deed) (g : Guest) → IsSound g → IsLimited g → IsLimited (record g { process = does deed g.process })
deed_limited (Gives pages) g t i = process_limited g (does (Gives pages) g.process) t i
    (omega (arith, i.now, t.known.memory.balloon), omega (arith, i.soon, t.known.memory.balloon), λ o s h. gives_lets g.process pages g.limit o t.known.memory.balloon h)
deed_limited (Holds line pages) g t i = either (λ (q : Process). IsLimited (record g { process = q })) ((g.process.held == 0) && nat_lt 0 pages && nat_le pages g.process.balloon) _ _
    (λ _. process_limited g (record g.process { held = pages; line = line; deflates = g.process.deflates + 1 }) t i (i.now, i.soon, λ o s h. holds_lets g.process g.seat line pages g.limit o t.known.memory.granted s)) (λ _. i)
deed_limited Drops g t i = process_limited g (does Drops g.process) t i (i.now, i.soon, λ o s h. drops_lets g.process g.limit o i.now i.soon)
deed_limited (Shrinks pages balloon held outside) g t i = either (λ (q : Process). IsLimited (record g { process = q })) (may_shrink pages balloon held outside g.process) _ _
    (λ e. let f = shrink_facts pages balloon held outside g.process e in process_limited g (shrunk pages balloon held outside g.process) t i
    (omega (arith, i.now, f.used, f.inside), omega (arith, i.soon, f.used, f.inside), λ o s h. shrinks_lets g.process pages balloon held outside g.limit o f h)) (λ _. i)
deed_limited Reads g t i = process_limited g (does Reads g.process) t i (i.now, i.soon, λ o s h. reads_lets g.process g.limit o h)

-- ---- an order arrives

same_lets : (p : Process) (number target : ℕ) (l : Limit) (o : Order) → Lets p l o → Lets (record p { target_number = number; target = target }) l o
same_lets p number target l (Target n t) h = tt
same_lets p number target l (Grant n) h = h

let_go_lets : (p : Process) (l : Limit) (o : Order) → p.pages - (p.balloon - p.held) + p.outside ≤ l.force → p.pages - (p.balloon - p.held) + p.outside ≤ l.asked → Lets (record p { balloon = p.balloon - p.held; held = 0 }) l o
let_go_lets p l (Target n t) a b = tt
let_go_lets p l (Grant n) a b = λ e. (omega (arith, a), omega (arith, b))

obeys_limited : (o : Order) (g : Guest) → IsSound g → IsLimited g → Lets g.process g.limit o → IsLimited (record g { process = obeys o g.process })
obeys_limited (Target number target) g t i h = either (λ (q : Process). IsLimited (record g { process = q })) (nat_lt g.process.target_number number) _ _
    (λ _. process_limited g (record g.process { target_number = number; target = target }) t i (i.now, i.soon, λ o s l. same_lets g.process number target g.limit o l)) (λ _. i)
obeys_limited (Grant n) g t i h = either (λ (q : Process). IsLimited (record g { process = q })) (g.process.deflates == n) _ _
    (λ e. let f = h (eq_true g.process.deflates n e) in
    process_limited g (record g.process { balloon = g.process.balloon - g.process.held; held = 0 }) t i (f.0, f.1, λ o s l. let_go_lets g.process g.limit o f.0 f.1)) (λ _. i)

obey_at : (g : Guest) (orders : List Order) (k : ℕ) → IsSound g → IsLimited g → AllByRecursion (Lets g.process g.limit) orders → IsLimited (record g { process = obeying (order_at orders k) g.process })
obey_at g [] k t i a = i
obey_at g (o ∷ orders) zero t i a = obeys_limited o g t i a.0
obey_at g (o ∷ orders) (suc k) t i a = obey_at g orders k t i a.1

-- ---- the lender

seat_limited : (g : Guest) (s : Seat) → IsLimited g → IsLimited (record g { seat = s })
seat_limited g s i = record { now = i.now; soon = i.soon; sure = i.sure; sure_soon = i.sure_soon; orders = i.orders }

grant_within : (p : Process) (s : Seat) (l : Limit) → IsKnown p s → lent s ≤ l.sure → l.sure ≤ l.force → l.sure ≤ l.asked → Lets p l (Grant s.granted)
grant_within p s l k a b c = λ e. let m = k.memory in
    (omega (arith, m.used_without e, m.pages, m.removed, m.held, m.balloon, a, b), omega (arith, m.used_without e, m.pages, m.removed, m.held, m.balloon, a, c))

sends_lets : (p : Process) (s : Seat) (b : Bool) (l : Limit) (orders : List Order) → IsKnown p s → l.sure ≤ l.force → l.sure ≤ l.asked
    → AllByRecursion (Lets p l) orders → AllByRecursion (Lets p l) (sending b l s orders)
sends_lets p s true l orders k x y a = either (λ (os : List Order). AllByRecursion (Lets p l) os) (nat_le (lent s) l.sure) _ _
    (λ e. (tt, (grant_within p s l k (le_true _ _ e) x y, a))) (λ _. (tt, a))
sends_lets p s false l orders k x y a = a

send_limited : (g : Guest) → IsSound g → IsLimited g → IsLimited (record g { orders = sending g.known g.limit g.seat g.orders })
send_limited g t i = record {
  now = i.now;
  soon = i.soon;
  sure = i.sure;
  sure_soon = i.sure_soon;
  orders = sends_lets g.process g.seat g.known g.limit g.orders t.known i.sure i.sure_soon i.orders;
}

-- ---- the limit

write_lets : (p : Process) (s : Seat) (l : Limit) (o : Order) → IsKnown p s → IsSent p s o → Lets p l o → Lets p (record l { asked = lent s; sure = min l.sure (lent s); writing = true }) o
write_lets p s l (Target n t) k i h = tt
write_lets p s l (Grant n) k i h = λ e. let m = k.memory in ((h e).0, omega (arith, m.pages, m.removed, m.held, m.balloon, m.used_without (omega (arith, i, e, m.granted))))

write_limited : (g : Guest) → IsSound g → IsLimited g → IsLimited (record g { limit = writes (lent g.seat) g.limit })
write_limited g t i = either (λ (l : Limit). IsLimited (record g { limit = l })) g.limit.writing _ _ (λ _. i)
    (λ _. record {
      now = i.now;
      soon = omega (arith, t.known.memory.pages, t.known.memory.used, t.known.memory.removed, t.known.memory.balloon);
      sure = omega (arith, i.sure);
      sure_soon = omega arith;
      orders = both (IsSent g.process g.seat) (Lets g.process g.limit) _ g.orders (λ o s h. write_lets g.process g.seat g.limit o t.known s h) t.orders i.orders;
    })

limiting_limited : (g : Guest) (b : Bool) → IsSound g → IsLimited g → IsLimited (record g { limit = limiting b g.seat g.limit })
limiting_limited g true t i = write_limited g t i
limiting_limited g false t i = i

-- another limit in force, and another on its way, of the two that there are
other_lets : (p : Process) (l : Limit) (sure : ℕ) (writing : Bool) (o : Order) → Lets p l o → Lets p (record { force = l.asked; asked = l.asked; sure = sure; writing = writing }) o
other_lets p l sure writing (Target n t) h = tt
other_lets p l sure writing (Grant n) h = λ e. ((h e).1, (h e).1)

first_lets : (p : Process) (l : Limit) (sure : ℕ) (writing : Bool) (o : Order) → Lets p l o → Lets p (record { force = l.force; asked = l.force; sure = sure; writing = writing }) o
first_lets p l sure writing (Target n t) h = tt
first_lets p l sure writing (Grant n) h = λ e. ((h e).0, (h e).0)

all_lets : (p : Process) (l m : Limit) (orders : List Order) → ((o : Order) → Lets p l o → Lets p m o) → AllByRecursion (Lets p l) orders → AllByRecursion (Lets p m) orders
all_lets p l m [] h a = tt
all_lets p l m (o ∷ orders) h a = (h o a.0, all_lets p l m orders h a.1)

lands_limited : (g : Guest) → IsLimited g → IsLimited (record g { limit = lands g.limit })
lands_limited g i = record {
  now = i.soon;
  soon = i.soon;
  sure = i.sure_soon;
  sure_soon = i.sure_soon;
  orders = all_lets g.process g.limit (lands g.limit) g.orders (λ o. other_lets g.process g.limit g.limit.sure g.limit.writing o) i.orders;
}

confirms_limited : (g : Guest) → IsLimited g → IsLimited (record g { limit = confirms g.limit })
confirms_limited g i = record {
  now = i.soon;
  soon = i.soon;
  sure = omega arith;
  sure_soon = omega arith;
  orders = all_lets g.process g.limit (confirms g.limit) g.orders (λ o. other_lets g.process g.limit g.limit.asked false o) i.orders;
}

fails_limited : (g : Guest) → IsLimited g → IsLimited (record g { limit = fails g.limit })
fails_limited g i = record {
  now = i.now;
  soon = i.now;
  sure = omega arith;
  sure_soon = omega arith;
  orders = all_lets g.process g.limit (fails g.limit) g.orders (λ o. first_lets g.process g.limit 0 false o) i.orders;
}

-- ---- guests that come, and later lenders

arriving_limited : (pages ballooned : ℕ) → IsLimited (arriving pages ballooned)
arriving_limited pages ballooned = record { now = omega arith; soon = omega arith; sure = omega arith; sure_soon = omega arith; orders = tt }

taken_limited : (turn : ℕ) (g : Guest) → IsLimited g → IsLimited (taken_up turn g)
taken_limited turn g i = record { now = i.now; soon = i.now; sure = omega arith; sure_soon = omega arith; orders = tt }

-- ---- each step of each run

-- of a guest that isn't strict nothing is
abbrev IsBounded : Guest → Type 0
IsBounded g = g.strict ≡ true → IsLimited g

at_bounded : (n : ℕ) (f : Guest → Guest) (xs : List Guest) → ((g : Guest) → IsTrusty g → IsBounded g → IsBounded (f g)) → AllByRecursion IsTrusty xs → AllByRecursion IsBounded xs → AllByRecursion IsBounded (each_at n f xs)
at_bounded n f [] h t a = a
at_bounded zero f (x ∷ xs) h t a = (h x t.0 a.0, a.1)
at_bounded (suc n) f (x ∷ xs) h t a = (a.0, at_bounded n f xs h t.1 a.1)

at_limited : (n : ℕ) (f : Guest → Guest) (xs : List Guest) → ((g : Guest) → (f g).strict ≡ true → g.strict ≡ true) → ((g : Guest) → IsSound g → IsLimited g → IsLimited (f g))
    → AllByRecursion IsTrusty xs → AllByRecursion IsBounded xs → AllByRecursion IsBounded (each_at n f xs)
at_limited n f xs k h t a = at_bounded n f xs (λ g u i e. h g (u (k g e)) (i (k g e))) t a

either_limited : (b : Bool) (h k : Host) → AllByRecursion IsBounded k.guests → AllByRecursion IsBounded h.guests → AllByRecursion IsBounded (if b then k else h).guests
either_limited true h k f a = f
either_limited false h k f a = a

joined_lets : (p q : Process) (l k : Limit) (w : Bool) (o : Order) → p.held ≤ p.balloon → q.pages - q.balloon + q.outside ≤ k.force → q.pages - q.balloon + q.outside ≤ k.asked → Lets p l o
    → Lets (record p { pages = p.pages + q.pages; balloon = p.balloon + q.balloon }) (record { force = l.force + k.force; asked = l.asked + k.asked; sure = l.sure + k.sure; writing = w }) o
joined_lets p q l k w (Target n t) a b c h = tt
joined_lets p q l k w (Grant n) a b c h = λ e. (omega (arith, a, b, (h e).0), omega (arith, a, c, (h e).1))

joined_orders : (x g : Guest) (orders : List Order) → IsKnown g.process g.seat → IsLimited x → AllByRecursion (Lets g.process g.limit) orders → AllByRecursion (Lets (joined x g).process (joined x g).limit) orders
joined_orders x g [] k i a = tt
joined_orders x g (o ∷ orders) k i a = (joined_lets g.process x.process g.limit x.limit (g.limit.writing || x.limit.writing) o k.memory.held i.now i.soon a.0, joined_orders x g orders k i a.1)

joined_limited : (x g : Guest) → IsLimited x → IsSound g → IsLimited g → IsLimited (joined x g)
joined_limited x g j t i = record {
  now = omega (arith, i.now, j.now);
  soon = omega (arith, i.soon, j.soon);
  sure = omega (arith, i.sure, j.sure);
  sure_soon = omega (arith, i.sure_soon, j.sure_soon);
  orders = joined_orders x g g.orders t.known j i.orders;
}

arriving_at : (m : ℕ) (xs : List Guest) → AllByRecursion IsBounded xs → AllByRecursion IsBounded (each_at m (λ _. arriving 0 0) xs)
arriving_at m [] a = a
arriving_at zero (x ∷ xs) a = ((λ _. arriving_limited 0 0), a.1)
arriving_at (suc m) (x ∷ xs) a = (a.0, arriving_at m xs a.1)

joins_limited : (h : Host) (n m : ℕ) (o : Option Guest) → slice_get h.guests m ≡ o → AllByRecursion IsTrusty h.guests → AllByRecursion IsBounded h.guests → AllByRecursion IsBounded (joining o n m h).guests
joins_limited h n m None e t a = a
joins_limited h n m (Some x) e t a = either_limited (may_join n m x) h _ (arriving_at m _ (at_bounded n (joined x) h.guests
    (λ g u i s. joined_limited x g (all_get IsBounded h.guests m x a e (and_right g.strict x.strict s)) (u (and_left g.strict x.strict s)) (i (and_left g.strict x.strict s))) t a)) a

seat_forgotten : (g : Guest) → IsLimited g → IsLimited (forgotten g)
seat_forgotten g i = record { now = i.now; soon = i.soon; sure = i.sure; sure_soon = i.sure_soon; orders = i.orders }

step_limited : (h : Host) (step : Step) → AllByRecursion IsTrusty h.guests → AllByRecursion IsBounded h.guests → AllByRecursion IsBounded (goes h step).guests
step_limited h (Does n deed) t a = at_limited n _ h.guests (λ g e. e) (deed_limited deed) t a
step_limited h (Deviates n p reports) t a = all_at IsBounded n _ h.guests (λ g i e. absurd (cc)) a
step_limited h (Reports n) t a = at_limited n _ h.guests (λ g e. e) (λ g _ i. record { now = i.now; soon = i.soon; sure = i.sure; sure_soon = i.sure_soon; orders = i.orders }) t a
step_limited h (Obeys n k) t a = at_limited n _ h.guests (λ g e. e) (λ g u i. obey_at g g.orders k u i i.orders) t a
step_limited h (Hears n k) t a = at_limited n _ h.guests (λ g e. e) (λ g _ i. seat_limited g _ i) t a
step_limited h (Grants n) t a = either_limited (may_grant (lending h) n) h _ (at_limited n _ h.guests (λ g e. e) (λ g _ i. seat_limited g _ i) t a) a
step_limited h (Overdraws n) t a = either_limited (may_overdraw (lending h) n) h _ (at_limited n _ h.guests (λ g e. e) (λ g _ i. seat_limited g _ i) t a) a
step_limited h (Prefers n) t a = at_limited n _ (map (by_lender (preferring 0)) h.guests) (λ g e. e) (λ g _ i. seat_limited g _ i) (prefers_true h t)
    (all_map IsBounded (by_lender (preferring 0)) h.guests (λ g i e. seat_limited g _ (i e)) a)
step_limited h (Defers n) t a = at_limited n _ h.guests (λ g e. e) (λ g _ i. seat_limited g _ i) t a
step_limited h (Wants n pages) t a = at_limited n _ h.guests (λ g e. e) (λ g _ i. seat_limited g _ i) t a
step_limited h (Targets n) t a = at_limited n _ h.guests (λ g e. e) (λ g _ i. seat_limited g _ i) t a
step_limited h (Sends n) t a = at_limited n _ h.guests (λ g e. e) send_limited t a
step_limited h (Limits n) t a = at_limited n _ h.guests (λ g e. e) (λ g u i. limiting_limited g g.known u i) t a
step_limited h (Lands n) t a = at_limited n _ h.guests (λ g e. e) (λ g _ i. lands_limited g i) t a
step_limited h (Confirms n) t a = at_limited n _ h.guests (λ g e. e) (λ g _ i. confirms_limited g i) t a
step_limited h (Fails n) t a = at_limited n _ h.guests (λ g e. e) (λ g _ i. fails_limited g i) t a
step_limited h (Uncounts n) t a = at_limited n _ h.guests (λ g e. e) (λ g _ i. seat_limited g _ i) t a
step_limited h (Arrives n pages ballooned) t a = all_at IsBounded n (λ _. arriving pages ballooned) h.guests (λ _ _ _. arriving_limited pages ballooned) a
step_limited h (Joins n m) t a = joins_limited h n m (slice_get h.guests m) refl t a
step_limited h (TakesOver n) t a = at_limited n _ h.guests (λ g e. e) (λ g _ i. taken_limited (next_turn (seats h.guests)) g i) t a
step_limited h Forgets t a = all_map IsBounded forgotten h.guests (λ g i e. seat_forgotten g (i e)) a
step_limited h (Budget frames) t a = a

run_limited : (h : Host) (steps : List Step) → AllByRecursion IsTrusty h.guests → AllByRecursion IsBounded h.guests → AllByRecursion IsBounded (through steps h).guests
run_limited h [] t a = a
run_limited h (step ∷ steps) t a = run_limited (goes h step) steps (step_true h step t) (step_limited h step t a)

opens_limited : (sizes : List ℕ) → AllByRecursion IsBounded (map (λ pages. arriving pages 0) sizes)
opens_limited [] = tt
opens_limited (pages ∷ sizes) = ((λ _. arriving_limited pages 0), opens_limited sizes)

pub limits_hold : (frames overdraft : ℕ) (sizes : List ℕ) (steps : List Step) (n : ℕ) (g : Guest) → slice_get (through steps (opened frames overdraft sizes)).guests n ≡ Some g
    → g.strict ≡ true → (used g ≤ g.limit.force) × (used g ≤ g.limit.asked)
limits_hold frames overdraft sizes steps n g e strict =
    let i = all_get IsBounded _ n g (run_limited (opened frames overdraft sizes) steps (opened_safe frames overdraft sizes).each (opens_limited sizes)) e strict in (i.now, i.soon)
