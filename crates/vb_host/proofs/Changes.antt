-- What the lender makes of a seat leaves true what is true of its guest.
use Rattle.std.proofs.Common.{◌≡◌, ℕ, ◌+◌, ◌-◌, ◌<◌, ◌≤◌, Bool, true, false, ◌&&◌, ◌||◌, ◌==◌, nat_lt, max, min, refl, sym, ◌∙◌, arith}
use Rattle.std.proofs.lemmas.Bool.Decides.{nat_tests}
use Rattle.vb_host.specs.declared.report.Report.{Report}
use Rattle.vb_host.specs.declared.seat.Seat.{Seat}
use Rattle.vb_host.specs.Seats.{believed, counting, covers, deferring, granting, heard, holding, is_stale, may_defer, noting, preferring, raised, remembered, served, targeted}
use Rattle.vb_host.specs.System.{Grant, Order, Process, Target}
use Rattle.vb_host.proofs.Sound.{IsKnown, IsPast, IsPastTarget, IsSent, and_left, and_right, believes, either, eq_false, eq_true, lt_false, lt_true, or_either}
use Rattle.vb_host.proofs.Sound.{counts, notes, queues}

-- what a change of the seat keeps
pub record Follows (p : Process) (s t : Seat) : Type 0 where
  pub known : IsKnown p t
  pub sent : (o : Order) → IsSent p s o → IsSent p t o
  pub past : (r : Report) → IsPast s.granted p r → IsPast t.granted p r

pub follows_same : (p : Process) (s : Seat) → IsKnown p s → Follows p s s
follows_same p s k = record { known = k; sent = λ o h. h; past = λ r h. h }

pub follows_then : (p : Process) (s t u : Seat) → Follows p s t → Follows p t u → Follows p s u
follows_then p s t u f g = record { known = g.known; sent = λ o h. g.sent o (f.sent o h); past = λ r h. g.past r (f.past r h) }

-- ---- a grant

grants_known : (p : Process) (s : Seat) → 0 < s.held → IsKnown p s → IsKnown p (granting s)
grants_known p s w k = let m = k.memory in record {
  memory = record {
    balloon = m.balloon;
    held = m.held;
    numbered = m.numbered;
    granted = m.waited w;
    removed = m.removed;
    pages = m.pages;
    counted = omega (arith, m.counted, m.removed);
    without = λ e. omega (arith, m.counted, m.removed, m.held, m.waits_for w (sym e));
    used = omega (arith, m.used, m.outside);
    used_without = λ e. omega (arith, m.used, m.outside, m.held, m.waits_for w (sym e));
    outside = m.outside;
    waiting = λ h. absurd (omega arith);
    waited = λ h. absurd (omega arith);
    waits_for = λ h. absurd (omega arith);
  };
  targets = k.targets;
  empty = λ u. omega (arith, k.empty u);
}

grants_past : (p : Process) (s : Seat) (r : Report) → 0 < s.held → IsKnown p s → IsPast s.granted p r → IsPast (granting s).granted p r
grants_past p s r w k h = let m = k.memory in let n = h.memory in record {
  memory = record {
    deflates = n.deflates;
    held = n.held;
    removed = n.removed;
    later = λ e. n.later (omega (arith, e, m.waiting w));
    same = λ e. omega (arith, n.later (omega (arith, e, m.waiting w)));
    without = λ e f. omega (arith, n.later (omega (arith, e, m.waiting w)), n.held (omega (arith, e, f)), n.removed, m.held);
    later_used = λ e. n.later_used (omega (arith, e, m.waiting w));
    same_used = λ e. omega (arith, n.later_used (omega (arith, e, m.waiting w)), n.outside);
    without_used = λ e f. omega (arith, n.later_used (omega (arith, e, m.waiting w)), n.held (omega (arith, e, f)), n.outside, m.held);
    outside = n.outside;
  };
  targets = h.targets;
}

grants_sent : (p : Process) (s : Seat) (o : Order) → 0 < s.held → IsKnown p s → IsSent p s o → IsSent p (granting s) o
grants_sent p s (Target number target) w k h = h
grants_sent p s (Grant n) w k h = omega (arith, h, k.memory.waiting w)

pub grants_follow : (p : Process) (s : Seat) → 0 < s.held → IsKnown p s → Follows p s (granting s)
grants_follow p s w k = record { known = grants_known p s w k; sent = λ o. grants_sent p s o w k; past = λ r. grants_past p s r w k }

-- ---- a report

-- what a report says of the memory, where this many pages are shown in the balloon
record IsShown (p : Process) (granted ballooned : ℕ) (r : Report) : Type 0 where
  removed : r.removed ≤ p.removed
  counted : ballooned + r.removed ≤ p.balloon + p.removed
  without : p.deflates ≡ granted → ballooned + p.held + r.removed ≤ p.balloon + p.removed
  used : ballooned + r.removed + p.outside ≤ p.balloon + p.removed + r.outside
  used_without : p.deflates ≡ granted → ballooned + p.held + r.removed + p.outside ≤ p.balloon + p.removed + r.outside
  outside : p.outside + r.removed ≤ r.outside + p.removed

remembers_known : (p : Process) (s : Seat) (ballooned : ℕ) (r : Report) → IsKnown p s → s.removed ≤ r.removed → IsShown p s.granted ballooned r → (0 < s.uncounted → ballooned ≡ 0)
    → IsKnown p (remembered ballooned r s)
remembers_known p s ballooned r k a h z = let m = k.memory in record {
  memory = record {
    balloon = m.balloon;
    held = m.held;
    numbered = m.numbered;
    granted = m.granted;
    removed = h.removed;
    pages = omega (arith, m.pages, a, h.removed);
    counted = h.counted;
    without = h.without;
    used = h.used;
    used_without = h.used_without;
    outside = h.outside;
    waiting = m.waiting;
    waited = m.waited;
    waits_for = m.waits_for;
  };
  targets = k.targets;
  empty = z;
}

holding_known : (p : Process) (s : Seat) (held : ℕ) (r : Report) → IsKnown p s → (0 < held → s.granted < r.deflates) → r.deflates ≤ p.deflates → (0 < held → r.deflates ≡ p.deflates → p.held ≤ held)
    → IsKnown p (holding held r s)
holding_known p s held r k g d f = let m = k.memory in record {
  memory = record {
    balloon = m.balloon;
    held = m.held;
    numbered = m.numbered;
    granted = m.granted;
    removed = m.removed;
    pages = m.pages;
    counted = m.counted;
    without = m.without;
    used = m.used;
    used_without = m.used_without;
    outside = m.outside;
    waiting = g;
    waited = λ _. d;
    waits_for = f;
  };
  targets = k.targets;
  empty = k.empty;
}

notes_known : (p : Process) (s : Seat) (ballooned held : ℕ) (r : Report) → IsKnown p s → s.removed ≤ r.removed → IsShown p s.granted ballooned r
    → (0 < held → s.granted < r.deflates) → r.deflates ≤ p.deflates → (0 < held → r.deflates ≡ p.deflates → p.held ≤ held)
    → (0 < s.uncounted → ballooned ≡ 0) → IsKnown p (noting ballooned held r s)
notes_known p s ballooned held r k a h g d f z = notes (λ (t : Seat). IsKnown p t) ballooned held r s
    (λ _. holding_known p (remembered ballooned r s) held r (remembers_known p s ballooned r k a h z) g d f) (λ _. holding_known p s held r k g d f)

counts_known : (p : Process) (s : Seat) (r : Report) → s.granted ≤ r.deflates → s.removed ≤ r.removed → IsKnown p s → IsPast s.granted p r → (0 < s.uncounted → r.ballooned ≡ 0)
    → IsKnown p (counting r s)
counts_known p s r l x k h u = let n = h.memory in either (λ (t : Seat). IsKnown p t) (r.deflates == s.granted) _ _
    (λ t. let e = eq_true r.deflates s.granted t in
    notes_known p s (r.ballooned - r.held) 0 r k x
    (record { removed = n.removed; counted = n.same e; without = λ f. n.without e f; used = n.same_used e; used_without = λ f. n.without_used e f; outside = n.outside })
    (λ z. absurd (omega arith)) n.deflates (λ z _. absurd (omega arith)) (λ v. omega (arith, u v)))
    (λ t. let e = eq_false r.deflates s.granted t in let m : s.granted < r.deflates = omega (arith, e, l) in
    notes_known p s r.ballooned r.held r k x
    (record {
      removed = n.removed;
      counted = n.later m;
      without = λ f. absurd (omega (arith, n.deflates, m, f));
      used = n.later_used m;
      used_without = λ f. absurd (omega (arith, n.deflates, m, f));
      outside = n.outside;
    }) (λ _. m) n.deflates (λ _ f. n.held f) u)

-- targets and what was granted stay
turn_sent : (p : Process) (s : Seat) (turn deferred : ℕ) (o : Order) → IsSent p s o → IsSent p (record s { turn = turn; deferred = deferred }) o
turn_sent p s turn deferred (Target number target) h = h
turn_sent p s turn deferred (Grant n) h = h

notes_sent : (p : Process) (s : Seat) (ballooned held : ℕ) (r : Report) (o : Order) → IsSent p s o → IsSent p (holding held r (remembered ballooned r s)) o
notes_sent p s ballooned held r (Target number target) h = h
notes_sent p s ballooned held r (Grant n) h = h

holding_sent : (p : Process) (s : Seat) (held : ℕ) (r : Report) (o : Order) → IsSent p s o → IsSent p (holding held r s) o
holding_sent p s held r (Target number target) h = h
holding_sent p s held r (Grant n) h = h

counts_sent : (p : Process) (s : Seat) (r : Report) (o : Order) → IsSent p s o → IsSent p (counting r s) o
counts_sent p s r o h = counts (λ (x : Seat). IsSent p x o) r s (λ ballooned held. notes_sent p s ballooned held r o h) (λ held. holding_sent p s held r o h)

counts_past : (p : Process) (s : Seat) (r q : Report) → IsPast s.granted p q → IsPast (counting r s).granted p q
counts_past p s r q h = counts (λ (x : Seat). IsPast x.granted p q) r s (λ _ _. h) (λ _. h)

counts_follow : (p : Process) (s : Seat) (r : Report) → s.granted ≤ r.deflates → s.removed ≤ r.removed → IsKnown p s → IsPast s.granted p r → (0 < s.uncounted → r.ballooned ≡ 0)
    → Follows p s (counting r s)
counts_follow p s r l x k h u = record { known = counts_known p s r l x k h u; sent = counts_sent p s r; past = counts_past p s r }

-- an empty balloon in place of the one that was reported
empties_past : (p : Process) (s : Seat) (r : Report) → IsKnown p s → IsPast s.granted p r → IsPast s.granted p (record r { ballooned = 0 })
empties_past p s r k h = let n = h.memory in record {
  memory = record {
    deflates = n.deflates;
    held = n.held;
    removed = n.removed;
    later = λ _. omega (arith, n.removed);
    same = λ _. omega (arith, n.removed);
    without = λ _ _. omega (arith, n.removed, k.memory.held);
    later_used = λ _. omega (arith, n.outside);
    same_used = λ _. omega (arith, n.outside);
    without_used = λ _ _. omega (arith, n.outside, k.memory.held);
    outside = n.outside;
  };
  targets = record { number = h.targets.number; same = h.targets.same };
}

believes_follow : (p : Process) (s : Seat) (r : Report) → s.granted ≤ r.deflates → s.removed ≤ r.removed → IsKnown p s → IsPast s.granted p r → Follows p s (counting (believed s r) s)
believes_follow p s r l x k h = believes (λ (q : Report). Follows p s (counting q s)) r s
    (λ _. counts_follow p s (record r { ballooned = 0 }) l x k (empties_past p s r k h) (λ _. refl))
    (λ e. counts_follow p s r l x k h (λ u. absurd (omega (arith, e, u))))

pub covers_waits : (s : Seat) → covers s ≡ true → 0 < s.held
covers_waits s e = grind (arith, nat_tests)

serves_follow : (p : Process) (s : Seat) → IsKnown p s → Follows p s (served s)
serves_follow p s k = either (λ (x : Seat). Follows p s x) (covers s) _ _ (λ t. grants_follow p s (covers_waits s t) k) (λ _. follows_same p s k)

raises_known : (p : Process) (s : Seat) (r : Report) → r.target_number ≡ s.target_number → r.read_target ≡ s.target → IsPastTarget p.target p.read_target p.target_number r
    → IsKnown p s → IsKnown p (record s { least_target = max s.least_target s.target })
raises_known p s r e f h k = let m = k.targets in
    let same : p.target_number ≡ s.target_number = omega (arith, m.number, h.number, e) in
    let given : p.target ≡ s.target = m.target same in
    let read : p.read_target ≡ s.target = h.same s.target (omega (arith, e, same)) f given in
    record {
      memory = k.memory;
      targets = record {
        number = m.number;
        target = m.target;
        least_given = omega (arith, m.least_given);
        least_received = omega (arith, m.least_received, given);
        least_read = omega (arith, m.least_read, read);
      };
      empty = k.empty;
    }

raises_sent : (p : Process) (s : Seat) (r : Report) (o : Order) → r.target_number ≡ s.target_number → r.target_number ≤ p.target_number → IsSent p s o
    → IsSent p (record s { least_target = max s.least_target s.target }) o
raises_sent p s r (Target number target) e h i = (i.0, i.1, λ l. absurd (omega (arith, i.0, l, e, h)))
raises_sent p s r (Grant n) e h i = i

raises_follow : (p : Process) (s : Seat) (r : Report) → IsPastTarget p.target p.read_target p.target_number r → IsKnown p s → Follows p s (raised r s)
raises_follow p s r h k = either (λ (x : Seat). Follows p s x) ((r.target_number == s.target_number) && (r.read_target == s.target)) _ _
    (λ t. let e = eq_true r.target_number s.target_number (and_left (r.target_number == s.target_number) _ t) in
    let f = eq_true r.read_target s.target (and_right (r.target_number == s.target_number) _ t) in
    record { known = raises_known p s r e f h k; sent = λ o. raises_sent p s r o e h.number; past = λ q i. i })
    (λ _. follows_same p s k)

pub turn_follows : (p : Process) (s : Seat) (turn deferred : ℕ) → IsKnown p s → Follows p s (record s { turn = turn; deferred = deferred })
turn_follows p s turn deferred k = record { known = record { memory = k.memory; targets = k.targets; empty = k.empty }; sent = λ o h. turn_sent p s turn deferred o h; past = λ q h. h }

pub defers_follow : (p : Process) (s : Seat) (turn : ℕ) → IsKnown p s → Follows p s (deferring turn s)
defers_follow p s turn k = either (λ (x : Seat). Follows p s x) (may_defer s) _ _ (λ _. turn_follows p s turn 1 k) (λ _. follows_same p s k)

-- a report that isn't stale
pub is_fresh : (r : Report) (s : Seat) → s.granted ≤ r.deflates → s.removed ≤ r.removed → is_stale r s ≡ true → ⊥
is_fresh r s l x e = or_either (nat_lt r.deflates s.granted) _ e (λ a. omega (arith, l, lt_true r.deflates s.granted a)) (λ b. omega (arith, x, lt_true r.removed s.removed b))

or_left_false : (a b : Bool) → (a || b) ≡ false → a ≡ false
or_left_false true b e = absurd (cc)
or_left_false false b e = refl

or_right_false : (a b : Bool) → (a || b) ≡ false → b ≡ false
or_right_false true b e = absurd (cc)
or_right_false false b e = e

pub hears_follow : (p : Process) (s : Seat) (turn : ℕ) (r : Report) → IsKnown p s → IsPast s.granted p r → Follows p s (heard turn r s)
hears_follow p s turn r k h = either (λ (x : Seat). Follows p s x) (is_stale r s) _ _ (λ _. follows_same p s k)
    (λ t. let q = believed s r in let c = believes_follow p s r (lt_false r.deflates s.granted (or_left_false (nat_lt r.deflates s.granted) _ t)) (lt_false r.removed s.removed (or_right_false (nat_lt r.deflates s.granted) _ t)) k h in
    let d = serves_follow p (counting q s) c.known in
    let e = raises_follow p (served (counting q s)) r h.targets d.known in
    let f = queues (λ (x : Seat). Follows p (raised r (served (counting q s))) x) turn s (raised r (served (counting q s)))
    (follows_same p (raised r (served (counting q s))) e.known) (λ t. turn_follows p (raised r (served (counting q s))) t 0 e.known) in
    follows_then p s (counting q s) _ c (follows_then p (counting q s) (served (counting q s)) _ d (follows_then p (served (counting q s)) (raised r (served (counting q s))) _ e f)))

-- ---- a target

targets_known : (p : Process) (s : Seat) (target number : ℕ) → s.target_number < number → IsKnown p s
    → IsKnown p (record s { target = target; target_number = number; least_target = min s.least_target target })
targets_known p s target number l k = let m = k.targets in record {
  memory = k.memory;
  targets = record {
    number = omega (arith, m.number, l);
    target = λ e. absurd (omega (arith, m.number, l, e));
    least_given = omega arith;
    least_received = omega (arith, m.least_received);
    least_read = omega (arith, m.least_read);
  };
  empty = k.empty;
}

targets_sent : (p : Process) (s : Seat) (target number : ℕ) (o : Order) → s.target_number < number → IsSent p s o
    → IsSent p (record s { target = target; target_number = number; least_target = min s.least_target target }) o
targets_sent p s target number (Target n t) l h = (omega (arith, h.0, l), λ e. absurd (omega (arith, h.0, l, e)), λ b. omega (arith, h.2 b))
targets_sent p s target number (Grant n) l h = h

-- the same target has no other number
lowers_known : (p : Process) (s : Seat) (target : ℕ) → s.target ≡ target → IsKnown p s
    → IsKnown p (record s { target = target; target_number = s.target_number; least_target = min s.least_target target })
lowers_known p s target e k = let m = k.targets in record {
  memory = k.memory;
  targets = record {
    number = m.number;
    target = λ f. m.target f ∙ e;
    least_given = omega arith;
    least_received = omega (arith, m.least_received);
    least_read = omega (arith, m.least_read);
  };
  empty = k.empty;
}

lowers_sent : (p : Process) (s : Seat) (target : ℕ) (o : Order) → s.target ≡ target → IsSent p s o
    → IsSent p (record s { target = target; target_number = s.target_number; least_target = min s.least_target target }) o
lowers_sent p s target (Target n t) e h = (h.0, λ f. h.1 f ∙ e, λ b. omega (arith, h.2 b))
lowers_sent p s target (Grant n) e h = h

pub targets_follow : (p : Process) (s : Seat) (target : ℕ) → IsKnown p s → Follows p s (targeted target s)
targets_follow p s target k = either (λ (x : Seat). Follows p s x) (s.target_number == 18446744073709551615) _ _ (λ _. follows_same p s k)
    (λ _. either (λ (n : ℕ). Follows p s (record s { target = target; target_number = n; least_target = min s.least_target target })) (s.target == target) s.target_number (s.target_number + 1)
    (λ t. let e = eq_true s.target target t in record { known = lowers_known p s target e k; sent = λ o. lowers_sent p s target o e; past = λ q h. h })
    (λ _. record { known = targets_known p s target (s.target_number + 1) (omega arith) k; sent = λ o. targets_sent p s target (s.target_number + 1) o (omega arith); past = λ q h. h }))

wants_sent : (p : Process) (s : Seat) (pages : ℕ) (o : Order) → IsSent p s o → IsSent p (record s { wanted = pages }) o
wants_sent p s pages (Target number target) h = h
wants_sent p s pages (Grant n) h = h

pub wants_follow : (p : Process) (s : Seat) (pages : ℕ) → IsKnown p s → Follows p s (record s { wanted = pages })
wants_follow p s pages k = record { known = record { memory = k.memory; targets = k.targets; empty = k.empty }; sent = λ o h. wants_sent p s pages o h; past = λ q h. h }

prefers_sent : (p : Process) (s : Seat) (preferred : ℕ) (o : Order) → IsSent p s o → IsSent p (preferring preferred s) o
prefers_sent p s preferred (Target number target) h = h
prefers_sent p s preferred (Grant n) h = h

pub prefers_follow : (p : Process) (s : Seat) (preferred : ℕ) → IsKnown p s → Follows p s (preferring preferred s)
prefers_follow p s preferred k = record { known = record { memory = k.memory; targets = k.targets; empty = k.empty }; sent = λ o h. prefers_sent p s preferred o h; past = λ q h. h }

-- ---- what it sends

pub sends_target : (p : Process) (s : Seat) → IsKnown p s → IsSent p s (Target s.target_number s.target)
sends_target p s k = (omega arith, λ _. refl, λ _. k.targets.least_given)

pub sends_grant : (p : Process) (s : Seat) → IsSent p s (Grant s.granted)
sends_grant p s = omega arith
