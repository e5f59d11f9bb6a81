-- Each step of one guest leaves true what is true of it.
use Rattle.std.proofs.Common.{◌≡◌, ◌≢◌, ℕ, zero, suc, ◌+◌, ◌-◌, ◌<◌, ◌≤◌, Bool, true, false, not, ◌&&◌, ◌==◌, nat_lt, nat_le, List, [], ◌∷◌, refl, arith}
use Rattle.std.proofs.lemmas.Bool.Decides.{nat_tests}
use Rattle.std.specs.List.{AllByRecursion}
use Rattle.vb_host.specs.declared.report.Report.{Report}
use Rattle.vb_host.specs.declared.seat.Seat.{Seat}
use Rattle.vb_host.specs.Seats.{apart, deferring, lent, possible_target, preferring, taking_over, waits, granting, taken_over, uncounting, retargeted}
use Rattle.vb_host.specs.System.{Process, snapshot, Order, Target, Grant, Deed, does, Guest, arriving, taken_up, forgotten, obeying, order_at}
use Rattle.vb_host.specs.System.{hearing, report_at, view, viewed, changed, by_lender, sending, Limit, joined, may_join}
use Rattle.vb_host.proofs.Changes.{Follows, follows_same, grants_follow, hears_follow, sends_grant, sends_target, targets_follow}
use Rattle.vb_host.proofs.Emptied.{uncounts_follow}
use Rattle.vb_host.proofs.Changes.{defers_follow, prefers_follow, turn_follows, wants_follow}
use Rattle.vb_host.proofs.Processes.{Moves, does_moves, obeys_moves, reports_now, moves_same}
use Rattle.vb_host.proofs.Sound.{IsKnown, IsPast, IsSent, IsSound, all_of, either, lt_false, and_left, and_right, eq_true, lt_true}

-- ---- a guest that arrives, and a later lender

pub arriving_true : (pages ballooned : ℕ) → IsSound (arriving pages ballooned)
arriving_true pages ballooned = record {
  known = record {
    memory = record {
      balloon = omega arith;
      held = omega arith;
      numbered = λ _. omega arith;
      granted = omega arith;
      removed = omega arith;
      pages = refl;
      counted = omega arith;
      without = λ e. absurd (omega (arith, e));
      used = omega arith;
      used_without = λ e. absurd (omega (arith, e));
      outside = omega arith;
      waiting = λ w. absurd (omega (arith, w));
      waited = λ w. absurd (omega (arith, w));
      waits_for = λ w _. absurd (omega (arith, w));
    };
    targets = record { number = omega arith; target = λ _. refl; least_given = omega arith; least_received = omega arith; least_read = omega arith };
    empty = λ u. absurd (omega (arith, u));
  };
  orders = tt;
  reports = tt;
}

holds_none : (held deflates granted : ℕ) → (0 < held → granted < deflates) → deflates ≡ granted → held ≡ 0
holds_none zero deflates granted w e = refl
holds_none (suc held) deflates granted w e = absurd (omega (arith, e, w (omega arith)))

takes_over : (granted : ℕ) (p : Process) (s : Seat) → granted ≤ p.deflates → (0 < p.held → granted < p.deflates) → IsKnown p s
    → IsKnown p (taking_over granted p.pages (snapshot p))
takes_over granted p s l w k = let m = k.memory in record {
  memory = record {
    balloon = m.balloon;
    held = m.held;
    numbered = m.numbered;
    granted = l;
    removed = omega arith;
    pages = refl;
    counted = omega arith;
    without = λ e. omega (arith, holds_none p.held p.deflates granted w e);
    used = omega arith;
    used_without = λ e. omega (arith, holds_none p.held p.deflates granted w e);
    outside = omega arith;
    waiting = w;
    waited = λ _. omega arith;
    waits_for = λ _ _. omega arith;
  };
  targets = record { number = omega arith; target = λ _. refl; least_given = omega arith; least_received = omega arith; least_read = omega arith };
  empty = λ u. absurd (omega (arith, u));
}

takes_over_held : (p : Process) (s : Seat) → IsKnown p s → IsKnown p (taken_over p.pages (snapshot p))
takes_over_held p s k = either (λ (n : ℕ). IsKnown p (taking_over n p.pages (snapshot p))) (nat_lt 0 p.held) (p.deflates - 1) p.deflates
    (λ t. takes_over (p.deflates - 1) p s (omega arith) (λ w. omega (arith, k.memory.numbered w)) k)
    (λ t. takes_over p.deflates p s (omega arith) (λ w. absurd (omega (arith, w, lt_false 0 p.held t))) k)

pub taken_true : (turn : ℕ) (g : Guest) → IsSound g → IsSound (taken_up turn g)
taken_true turn g h =
    let k = (turn_follows g.process (taken_over g.process.pages (snapshot g.process)) _ 0 (takes_over_held g.process g.seat h.known)).known in
    record { known = k; orders = tt; reports = (reports_now (taken_up turn g).seat g.process k, tt) }

-- and it is lent no more
pub taken_lends : (turn : ℕ) (g : Guest) → IsSound g → lent (taken_up turn g).seat ≤ lent g.seat
taken_lends turn g h = let m = h.known.memory in let n = h.known.targets in
    omega (arith, m.pages, m.used, m.outside, m.removed, n.least_received, n.least_read)

-- ---- a step of a guest

pub seat_true : (g : Guest) (t : Seat) → IsSound g → Follows g.process g.seat t → IsSound (record g { seat = t })
seat_true g t h f = record {
  known = f.known;
  orders = all_of (IsSent g.process g.seat) (IsSent g.process t) g.orders f.sent h.orders;
  reports = all_of (IsPast g.seat.granted g.process) (IsPast t.granted g.process) g.reports f.past h.reports;
}

pub process_true : (g : Guest) (q : Process) → IsSound g → Moves g.seat g.process q → IsSound (record g { process = q })
process_true g q h m = record {
  known = m.known;
  orders = all_of (IsSent g.process g.seat) (IsSent q g.seat) g.orders m.sent h.orders;
  reports = all_of (IsPast g.seat.granted g.process) (IsPast g.seat.granted q) g.reports m.past h.reports;
}

obeying_moves : (s : Seat) (p : Process) (orders : List Order) (i : ℕ) → AllByRecursion (IsSent p s) orders → IsKnown p s → Moves s p (obeying (order_at orders i) p)
obeying_moves s p [] i a k = moves_same s p k
obeying_moves s p (o ∷ orders) zero a k = obeys_moves s p o a.0 k
obeying_moves s p (o ∷ orders) (suc i) a k = obeying_moves s p orders i a.1 k

hearing_follows : (s : Seat) (p : Process) (turn : ℕ) (reports : List Report) (i : ℕ) → AllByRecursion (IsPast s.granted p) reports → IsKnown p s
    → Follows p s (hearing turn (report_at reports i) s)
hearing_follows s p turn [] i a k = follows_same p s k
hearing_follows s p turn (r ∷ reports) zero a k = hears_follow p s turn r k a.0
hearing_follows s p turn (r ∷ reports) (suc i) a k = hearing_follows s p turn reports i a.1 k

pub deed_true : (deed : Deed) (g : Guest) → IsSound g → IsSound (record g { process = does deed g.process })
deed_true deed g h = process_true g (does deed g.process) h (does_moves g.seat g.process deed h.known)

pub report_true : (g : Guest) → IsSound g → IsSound (record g { reports = snapshot g.process ∷ g.reports })
report_true g h = record { known = h.known; orders = h.orders; reports = (reports_now g.seat g.process h.known, h.reports) }

pub obey_true : (i : ℕ) (g : Guest) → IsSound g → IsSound (record g { process = obeying (order_at g.orders i) g.process })
obey_true i g h = process_true g (obeying (order_at g.orders i) g.process) h (obeying_moves g.seat g.process g.orders i h.orders h.known)

changed_follows : (p : Process) (s : Seat) (b : Bool) (f : Seat → Seat) → IsKnown p s → (b ≡ true → Follows p s (f s)) → Follows p s (changed b f s)
changed_follows p s true f k h = h refl
changed_follows p s false f k h = follows_same p s k

pub lender_true : (f : Seat → Seat) (g : Guest) → (g.known ≡ true → Follows g.process g.seat (f g.seat)) → IsSound g → IsSound (by_lender f g)
lender_true f g k h = seat_true g (changed g.known f g.seat) h (changed_follows g.process g.seat g.known f h.known k)

pub hear_true : (turn i : ℕ) (g : Guest) → IsSound g → IsSound (by_lender (hearing turn (report_at g.reports i)) g)
hear_true turn i g h = lender_true (hearing turn (report_at g.reports i)) g (λ _. hearing_follows g.seat g.process turn g.reports i h.reports h.known) h

-- where it waits as the lender sees it, the lender knows it
viewed_waits : (b : Bool) (s : Seat) → waits (viewed b s) ≡ true → b ≡ true → waits s ≡ true
viewed_waits true s w e = w
viewed_waits false s w e = absurd (cc)

pub grant_true : (g : Guest) → waits (view g) ≡ true → IsSound g → IsSound (by_lender granting g)
grant_true g w h = lender_true granting g (λ e. grants_follow g.process g.seat (lt_true 0 g.seat.held (viewed_waits g.known g.seat w e)) h.known) h

pub target_true : (room : ℕ) (g : Guest) → IsSound g → IsSound (by_lender (retargeted room) g)
target_true room g h = lender_true (retargeted room) g (λ _. targets_follow g.process g.seat (possible_target room g.seat) h.known) h

pub want_true : (pages : ℕ) (g : Guest) → IsSound g → IsSound (by_lender (λ s. record s { wanted = pages }) g)
want_true pages g h = lender_true (λ s. record s { wanted = pages }) g (λ _. wants_follow g.process g.seat pages h.known) h

pub prefer_true : (preferred : ℕ) (g : Guest) → IsSound g → IsSound (by_lender (preferring preferred) g)
prefer_true preferred g h = lender_true (preferring preferred) g (λ _. prefers_follow g.process g.seat preferred h.known) h

pub defer_true : (turn : ℕ) (g : Guest) → IsSound g → IsSound (by_lender (deferring turn) g)
defer_true turn g h = lender_true (deferring turn) g (λ _. defers_follow g.process g.seat turn h.known) h

pub uncount_true : (g : Guest) → IsSound g → IsSound (by_lender uncounting g)
uncount_true g h = lender_true uncounting g (λ _. uncounts_follow g.process g.seat h.known) h

sends_all : (p : Process) (s : Seat) (b : Bool) (l : Limit) (orders : List Order) → IsKnown p s → AllByRecursion (IsSent p s) orders → AllByRecursion (IsSent p s) (sending b l s orders)
sends_all p s true l orders k a = either (λ (os : List Order). AllByRecursion (IsSent p s) os) (nat_le (lent s) l.sure) _ _
    (λ _. (sends_target p s k, (sends_grant p s, a))) (λ _. (sends_target p s k, a))
sends_all p s false l orders k a = a

pub send_true : (g : Guest) → IsSound g → IsSound (record g { orders = sending g.known g.limit g.seat g.orders })
send_true g h = record { known = h.known; orders = sends_all g.process g.seat g.known g.limit g.orders h.known h.orders; reports = h.reports }

pub limit_true : (f : Guest → Limit) (g : Guest) → IsSound g → IsSound (record g { limit = f g })
limit_true f g h = record { known = h.known; orders = h.orders; reports = h.reports }

pub forget_true : (g : Guest) → IsSound g → IsSound (forgotten g)
forget_true g h = record { known = h.known; orders = h.orders; reports = h.reports }

-- ---- memory joins a guest

grown_past : (s : Seat) (p : Process) (pages balloon : ℕ) (r : Report) → IsPast s.granted p r → IsPast s.granted (record p { pages = p.pages + pages; balloon = p.balloon + balloon }) r
grown_past s p pages balloon r h = let n = h.memory in record {
  memory = record {
    deflates = n.deflates;
    held = n.held;
    removed = n.removed;
    later = λ e. omega (arith, n.later e);
    same = λ e. omega (arith, n.same e);
    without = λ e f. omega (arith, n.without e f);
    later_used = λ e. omega (arith, n.later_used e);
    same_used = λ e. omega (arith, n.same_used e);
    without_used = λ e f. omega (arith, n.without_used e f);
    outside = n.outside;
  };
  targets = h.targets;
}

grown_sent : (s : Seat) (p : Process) (pages balloon more : ℕ) (o : Order) → IsSent p s o → IsSent (record p { pages = p.pages + pages; balloon = p.balloon + balloon }) (record s { pages = s.pages + more }) o
grown_sent s p pages balloon more (Target number target) h = h
grown_sent s p pages balloon more (Grant n) h = h

grown_known : (p q : Process) (s t : Seat) → q.removed ≡ t.removed → IsKnown p s → IsKnown q t
    → IsKnown (record p { pages = p.pages + q.pages; balloon = p.balloon + q.balloon }) (record s { pages = s.pages + t.pages })
grown_known p q s t e k l = let m = k.memory in record {
  memory = record {
    balloon = omega (arith, m.balloon, l.memory.balloon);
    held = omega (arith, m.held);
    numbered = m.numbered;
    granted = m.granted;
    removed = m.removed;
    pages = omega (arith, m.pages, l.memory.pages, e);
    counted = omega (arith, m.counted);
    without = λ e. omega (arith, m.without e);
    used = omega (arith, m.used);
    used_without = λ e. omega (arith, m.used_without e);
    outside = m.outside;
    waiting = m.waiting;
    waited = m.waited;
    waits_for = m.waits_for;
  };
  targets = k.targets;
  empty = k.empty;
}

pub joined_true : (x g : Guest) → x.process.removed ≡ x.seat.removed → IsSound x → IsSound g → IsSound (joined x g)
joined_true x g e i h = record {
  known = grown_known g.process x.process g.seat x.seat e h.known i.known;
  orders = all_of (IsSent g.process g.seat) (IsSent (joined x g).process (joined x g).seat) g.orders (λ o. grown_sent g.seat g.process x.process.pages x.process.balloon x.seat.pages o) h.orders;
  reports = all_of (IsPast g.seat.granted g.process) (IsPast g.seat.granted (joined x g).process) g.reports (λ r. grown_past g.seat g.process x.process.pages x.process.balloon r) h.reports;
}

-- what is so where the memory at m may join guest n
pub record CanJoinGuest (n m : ℕ) (x : Guest) : Type 0 where
  pub differ : n ≢ m
  pub lent_all : apart x.seat ≡ 0
  pub removed : x.process.removed ≡ x.seat.removed

not_same : (n m : ℕ) → not (n == m) ≡ true → n ≢ m
not_same n m e f = grind (arith, nat_tests)

pub join_facts : (n m : ℕ) (x : Guest) → may_join n m x ≡ true → CanJoinGuest n m x
join_facts n m x e =
    let a = and_left ((not (n == m) && (apart x.seat == 0)) && (x.process.held == 0)) _ e in
    let b = and_left (not (n == m) && (apart x.seat == 0)) _ a in
    record {
      differ = not_same n m (and_left (not (n == m)) _ b);
      lent_all = eq_true _ _ (and_right (not (n == m)) _ b);
      removed = eq_true _ _ (and_right ((not (n == m) && (apart x.seat == 0)) && (x.process.held == 0)) _ e);
    }

pub joined_lends : (x g : Guest) → apart x.seat ≡ 0 → lent (joined x g).seat ≤ lent g.seat + lent x.seat
joined_lends x g e = omega (arith, e)
