-- What a guest, its driver and its process do leaves true what is true of the guest.
use Rattle.std.proofs.Common.{◌≡◌, ℕ, ◌+◌, ◌-◌, ◌<◌, ◌≤◌, true, ◌&&◌, ◌==◌, nat_lt, nat_le, arith}
use Rattle.vb_host.specs.declared.report.Report.{Report}
use Rattle.vb_host.specs.declared.seat.Seat.{Seat}
use Rattle.vb_host.specs.System.{Deed, Holds, Drops, Gives, Grant, Order, Process, Reads, Shrinks, Target, does, may_shrink, obeys, snapshot}
use Rattle.vb_host.proofs.Sound.{IsKnown, IsPast, IsSent, and_left, and_right, either, eq_true, le_true, lt_true}

-- what a change of the process keeps
pub record Moves (s : Seat) (p q : Process) : Type 0 where
  pub known : IsKnown q s
  pub sent : (o : Order) → IsSent p s o → IsSent q s o
  pub past : (r : Report) → IsPast s.granted p r → IsPast s.granted q r

pub moves_same : (s : Seat) (p : Process) → IsKnown p s → Moves s p p
moves_same s p k = record { known = k; sent = λ o h. h; past = λ r h. h }

-- what was received stays
pub received_sent : (s : Seat) (p q : Process) (o : Order) → p.target_number ≤ q.target_number → IsSent p s o → IsSent q s o
received_sent s p q (Target number target) e h = (h.0, h.1, λ l. h.2 (omega (arith, l, e)))
received_sent s p q (Grant n) e h = h

-- ---- deeds

gives : (s : Seat) (p : Process) (pages : ℕ) → IsKnown p s → Moves s p (does (Gives pages) p)
gives s p pages k = let m = k.memory in record {
  known = record {
    memory = record {
      balloon = omega arith;
      held = omega (arith, m.held, m.balloon);
      numbered = m.numbered;
      granted = m.granted;
      removed = m.removed;
      pages = m.pages;
      counted = omega (arith, m.counted, m.balloon);
      without = λ e. omega (arith, m.without e, m.balloon);
      used = omega (arith, m.used, m.balloon);
      used_without = λ e. omega (arith, m.used_without e, m.balloon);
      outside = m.outside;
      waiting = m.waiting;
      waited = m.waited;
      waits_for = m.waits_for;
    };
    targets = k.targets;
    empty = k.empty;
  };
  sent = λ o h. received_sent s p (does (Gives pages) p) o (omega arith) h;
  past = λ r h. let n = h.memory in record {
    memory = record {
      deflates = n.deflates;
      held = n.held;
      removed = n.removed;
      later = λ e. omega (arith, n.later e, m.balloon);
      same = λ e. omega (arith, n.same e, m.balloon);
      without = λ e f. omega (arith, n.without e f, m.balloon);
      later_used = λ e. omega (arith, n.later_used e, m.balloon);
      same_used = λ e. omega (arith, n.same_used e, m.balloon);
      without_used = λ e f. omega (arith, n.without_used e f, m.balloon);
      outside = n.outside;
    };
    targets = h.targets;
  };
}

holds : (s : Seat) (p : Process) (line pages : ℕ) → pages ≤ p.balloon → IsKnown p s → Moves s p (record p { held = pages; line = line; deflates = p.deflates + 1 })
holds s p line pages l k = let m = k.memory in record {
  known = record {
    memory = record {
      balloon = m.balloon;
      held = l;
      numbered = λ _. omega arith;
      granted = omega (arith, m.granted);
      removed = m.removed;
      pages = m.pages;
      counted = m.counted;
      without = λ f. absurd (omega (arith, m.granted, f));
      used = m.used;
      used_without = λ f. absurd (omega (arith, m.granted, f));
      outside = m.outside;
      waiting = m.waiting;
      waited = λ w. omega (arith, m.waited w);
      waits_for = λ w f. absurd (omega (arith, m.waited w, f));
    };
    targets = k.targets;
    empty = k.empty;
  };
  sent = λ o h. received_sent s p (record p { held = pages; line = line; deflates = p.deflates + 1 }) o (omega arith) h;
  past = λ r h. let n = h.memory in record {
    memory = record {
      deflates = omega (arith, n.deflates);
      held = λ f. absurd (omega (arith, n.deflates, f));
      removed = n.removed;
      later = n.later;
      same = n.same;
      without = λ _ f. absurd (omega (arith, m.granted, f));
      later_used = n.later_used;
      same_used = n.same_used;
      without_used = λ _ f. absurd (omega (arith, m.granted, f));
      outside = n.outside;
    };
    targets = h.targets;
  };
}

drops : (s : Seat) (p : Process) → IsKnown p s → Moves s p (does Drops p)
drops s p k = let m = k.memory in record {
  known = record {
    memory = record {
      balloon = m.balloon;
      held = omega arith;
      numbered = λ w. absurd (omega (arith, w));
      granted = m.granted;
      removed = m.removed;
      pages = m.pages;
      counted = m.counted;
      without = λ _. omega (arith, m.counted);
      used = m.used;
      used_without = λ _. omega (arith, m.used);
      outside = m.outside;
      waiting = m.waiting;
      waited = m.waited;
      waits_for = λ _ _. omega arith;
    };
    targets = k.targets;
    empty = k.empty;
  };
  sent = λ o h. received_sent s p (does Drops p) o (omega arith) h;
  past = λ r h. let n = h.memory in record {
    memory = record {
      deflates = n.deflates;
      held = λ _. omega arith;
      removed = n.removed;
      later = n.later;
      same = n.same;
      without = λ e _. omega (arith, n.same e);
      later_used = n.later_used;
      same_used = n.same_used;
      without_used = λ e _. omega (arith, n.same_used e);
      outside = n.outside;
    };
    targets = h.targets;
  };
}

reads : (s : Seat) (p : Process) → IsKnown p s → Moves s p (does Reads p)
reads s p k = let m = k.targets in record {
  known = record {
    memory = k.memory;
    targets = record { number = m.number; target = m.target; least_given = m.least_given; least_received = m.least_received; least_read = m.least_received };
    empty = k.empty;
  };
  sent = λ o h. received_sent s p (does Reads p) o (omega arith) h;
  past = λ r h. record { memory = h.memory; targets = record { number = h.targets.number; same = λ t _ _ f. f } };
}

-- What is left of its memory, its balloon and its deflate, and what is outside.
pub record IsLeft (pages balloon held outside : ℕ) (p : Process) : Type 0 where
  pub memory : pages ≤ p.pages
  pub ballooned : balloon ≤ p.balloon
  pub deflate : held ≤ p.held
  pub inside : balloon ≤ pages
  pub within : held ≤ balloon
  pub beyond : pages + p.balloon ≤ p.pages + balloon
  pub used : pages + outside + p.balloon ≤ p.pages + p.outside + balloon

pub shrink_facts : (pages balloon held outside : ℕ) (p : Process) → may_shrink pages balloon held outside p ≡ true → IsLeft pages balloon held outside p
shrink_facts pages balloon held outside p e =
    let g = and_left (((((nat_le pages p.pages && nat_le balloon p.balloon) && nat_le held p.held) && nat_le balloon pages) && nat_le held balloon) && nat_le (pages + p.balloon) (p.pages + balloon)) _ e in
    let a = and_left ((((nat_le pages p.pages && nat_le balloon p.balloon) && nat_le held p.held) && nat_le balloon pages) && nat_le held balloon) _ g in
    let b = and_left (((nat_le pages p.pages && nat_le balloon p.balloon) && nat_le held p.held) && nat_le balloon pages) _ a in
    let c = and_left ((nat_le pages p.pages && nat_le balloon p.balloon) && nat_le held p.held) _ b in
    let d = and_left (nat_le pages p.pages && nat_le balloon p.balloon) _ c in
    record {
      memory = le_true _ _ (and_left (nat_le pages p.pages) _ d);
      ballooned = le_true _ _ (and_right (nat_le pages p.pages) _ d);
      deflate = le_true _ _ (and_right (nat_le pages p.pages && nat_le balloon p.balloon) _ c);
      inside = le_true _ _ (and_right ((nat_le pages p.pages && nat_le balloon p.balloon) && nat_le held p.held) _ b);
      within = le_true _ _ (and_right (((nat_le pages p.pages && nat_le balloon p.balloon) && nat_le held p.held) && nat_le balloon pages) _ a);
      beyond = le_true _ _ (and_right ((((nat_le pages p.pages && nat_le balloon p.balloon) && nat_le held p.held) && nat_le balloon pages) && nat_le held balloon) _ g);
      used = le_true _ _ (and_right (((((nat_le pages p.pages && nat_le balloon p.balloon) && nat_le held p.held) && nat_le balloon pages) && nat_le held balloon) && nat_le (pages + p.balloon) (p.pages + balloon)) _ e);
    }

abbrev pub shrunk : ℕ → ℕ → ℕ → ℕ → Process → Process
shrunk pages balloon held outside p = record p { pages = pages; balloon = balloon; held = held; removed = p.removed + (p.pages - pages); outside = outside }

shrinks : (s : Seat) (p : Process) (pages balloon held outside : ℕ) → IsLeft pages balloon held outside p → IsKnown p s → Moves s p (shrunk pages balloon held outside p)
shrinks s p pages balloon held outside f k = let m = k.memory in record {
  known = record {
    memory = record {
      balloon = f.inside;
      held = f.within;
      numbered = λ w. m.numbered (omega (arith, w, f.deflate));
      granted = m.granted;
      removed = omega (arith, m.removed);
      pages = omega (arith, m.pages, f.memory);
      counted = omega (arith, m.counted, f.memory, f.beyond);
      without = λ e. omega (arith, m.without e, f.memory, f.beyond, f.deflate);
      used = omega (arith, m.used, f.memory, f.used);
      used_without = λ e. omega (arith, m.used_without e, f.memory, f.used, f.deflate);
      outside = omega (arith, m.outside, f.memory, f.used, f.ballooned);
      waiting = m.waiting;
      waited = m.waited;
      waits_for = λ w e. omega (arith, m.waits_for w e, f.deflate);
    };
    targets = k.targets;
    empty = k.empty;
  };
  sent = λ o h. received_sent s p (shrunk pages balloon held outside p) o (omega arith) h;
  past = λ r h. let n = h.memory in record {
    memory = record {
      deflates = n.deflates;
      held = λ e. omega (arith, n.held e, f.deflate);
      removed = omega (arith, n.removed);
      later = λ e. omega (arith, n.later e, f.memory, f.beyond);
      same = λ e. omega (arith, n.same e, f.memory, f.beyond);
      without = λ e g. omega (arith, n.without e g, f.memory, f.beyond, f.deflate);
      later_used = λ e. omega (arith, n.later_used e, f.memory, f.used);
      same_used = λ e. omega (arith, n.same_used e, f.memory, f.used);
      without_used = λ e g. omega (arith, n.without_used e g, f.memory, f.used, f.deflate);
      outside = omega (arith, n.outside, f.memory, f.used, f.ballooned);
    };
    targets = h.targets;
  };
}

hold_facts : (p : Process) (pages : ℕ) → ((p.held == 0) && nat_lt 0 pages && nat_le pages p.balloon) ≡ true → pages ≤ p.balloon
hold_facts p pages e = le_true _ _ (and_right ((p.held == 0) && nat_lt 0 pages) _ e)

pub does_moves : (s : Seat) (p : Process) (deed : Deed) → IsKnown p s → Moves s p (does deed p)
does_moves s p (Gives pages) k = gives s p pages k
does_moves s p (Holds line pages) k = either (λ (x : Process). Moves s p x) ((p.held == 0) && nat_lt 0 pages && nat_le pages p.balloon) _ _
    (λ t. holds s p line pages (hold_facts p pages t) k) (λ _. moves_same s p k)
does_moves s p Drops k = drops s p k
does_moves s p Reads k = reads s p k
does_moves s p (Shrinks pages balloon held outside) k = either (λ (x : Process). Moves s p x) (may_shrink pages balloon held outside p) _ _
    (λ t. shrinks s p pages balloon held outside (shrink_facts pages balloon held outside p t) k) (λ _. moves_same s p k)

-- ---- an order arrives

receives : (s : Seat) (p : Process) (number target : ℕ) → p.target_number < number → IsSent p s (Target number target) → IsKnown p s
    → Moves s p (record p { target_number = number; target = target })
receives s p number target l i k = let m = k.targets in record {
  known = record {
    memory = k.memory;
    targets = record { number = i.0; target = i.1; least_given = m.least_given; least_received = i.2 l; least_read = m.least_read };
    empty = k.empty;
  };
  sent = λ o h. received_sent s p (record p { target_number = number; target = target }) o (omega (arith, l)) h;
  past = λ r h. record {
    memory = h.memory;
    targets = record { number = omega (arith, h.targets.number, l); same = λ t e _ _. absurd (omega (arith, h.targets.number, l, e)) };
  };
}

lets_go : (s : Seat) (p : Process) → p.deflates ≤ s.granted → IsKnown p s → Moves s p (record p { balloon = p.balloon - p.held; held = 0 })
lets_go s p l k = let m = k.memory in let same : p.deflates ≡ s.granted = omega (arith, m.granted, l) in let w = m.without same in let u = m.used_without same in record {
  known = record {
    memory = record {
      balloon = omega (arith, m.balloon);
      held = omega arith;
      numbered = λ w. absurd (omega (arith, w));
      granted = m.granted;
      removed = m.removed;
      pages = m.pages;
      counted = omega (arith, w, m.held);
      without = λ _. omega (arith, w, m.held);
      used = omega (arith, u, m.held);
      used_without = λ _. omega (arith, u, m.held);
      outside = m.outside;
      waiting = m.waiting;
      waited = m.waited;
      waits_for = λ _ _. omega arith;
    };
    targets = k.targets;
    empty = k.empty;
  };
  sent = λ o h. received_sent s p (record p { balloon = p.balloon - p.held; held = 0 }) o (omega arith) h;
  past = λ r h. let n = h.memory in record {
    memory = record {
      deflates = n.deflates;
      held = λ _. omega arith;
      removed = n.removed;
      later = λ e. absurd (omega (arith, n.deflates, e, same));
      same = λ e. omega (arith, n.without e same, m.held);
      without = λ e _. omega (arith, n.without e same, m.held);
      later_used = λ e. absurd (omega (arith, n.deflates, e, same));
      same_used = λ e. omega (arith, n.without_used e same, m.held);
      without_used = λ e _. omega (arith, n.without_used e same, m.held);
      outside = n.outside;
    };
    targets = h.targets;
  };
}

pub obeys_moves : (s : Seat) (p : Process) (o : Order) → IsSent p s o → IsKnown p s → Moves s p (obeys o p)
obeys_moves s p (Target number target) i k = either (λ (x : Process). Moves s p x) (nat_lt p.target_number number) _ _
    (λ t. receives s p number target (lt_true p.target_number number t) i k) (λ _. moves_same s p k)
obeys_moves s p (Grant n) i k = either (λ (x : Process). Moves s p x) (p.deflates == n) _ _
    (λ t. lets_go s p (omega (arith, eq_true p.deflates n t, i)) k) (λ _. moves_same s p k)

-- ---- what a process reports

pub reports_now : (s : Seat) (p : Process) → IsKnown p s → IsPast s.granted p (snapshot p)
reports_now s p k = record {
  memory = record {
    deflates = omega arith;
    held = λ _. omega arith;
    removed = omega arith;
    later = λ _. omega arith;
    same = λ _. omega arith;
    without = λ _ _. omega (arith, k.memory.held);
    later_used = λ _. omega arith;
    same_used = λ _. omega arith;
    without_used = λ _ _. omega (arith, k.memory.held);
    outside = omega arith;
  };
  targets = record { number = omega arith; same = λ t _ e _. e };
}
