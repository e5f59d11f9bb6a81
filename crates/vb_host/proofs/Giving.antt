-- What a guest still has to give, before and after a round of it, a grant, and a target.
use Rattle.std.proofs.Common.{◌≡◌, ℕ, ◌+◌, ◌-◌, ◌≤◌, ◌⊎◌, inl, inr, Bool, true, false, not, ◌&&◌, ◌==◌, nat_lt, if◌then◌else◌, List, min, Some, refl, sym, subst, ap, ◌∙◌, arith}
use Rattle.vb_host.specs.declared.seat.Seat.{Seat}
use Rattle.vb_host.specs.Outstanding.{HasEnough, IsAimed, is_counted, left_there, needs, outstanding, staying}
use Rattle.vb_host.specs.Seats.{granting, heard, is_uncounted, lent, possible_target, reclaimed, retargeted}
use Rattle.vb_host.specs.System.{Gives, Grant, Guest, Limit, Order, Process, Reads, Target, by_lender, changed, confirms, does, hearing, limiting, obeying}
use Rattle.vb_host.specs.System.{obeys, order_at, snapshot, view, viewed}
use Rattle.vb_host.proofs.Changes.{sends_grant, sends_target}
use Rattle.vb_host.proofs.Heard.{heard_left, heard_pages, heard_read, heard_wanted}
use Rattle.vb_host.proofs.LentBy.{retargets}
use Rattle.vb_host.proofs.Moving.{target_same}
use Rattle.vb_host.proofs.Processes.{does_moves, obeys_moves}
use Rattle.vb_host.proofs.RoomLeft.{never_below}
use Rattle.vb_host.proofs.Settling.{given, has_read, heard_uncounted, obeyed, ordered, ordered_ready, received, reported, sends_both, sent}
use Rattle.vb_host.proofs.Sound.{IsKnown, and_left, and_right, either, lt_false, lt_true}

-- ---- the process after its orders, a read and some pages

abbrev pub process_then : ℕ → Process → Seat → Process
process_then pages p s = does (Gives pages) (does Reads (ordered p s))

-- it holds nothing back any longer, or what it held, and has no fewer pages in its balloon
abbrev IsKept : Process → Process → Type 0
IsKept p q = (q.held ≡ 0) ⊎ ((q.held ≡ p.held) × (p.balloon ≤ q.balloon))

ordered_kept : (p : Process) (s : Seat) → IsKept p (ordered p s)
ordered_kept p s = let q = obeys (Target s.target_number s.target) p in either (λ (x : Process). IsKept p x) (q.deflates == s.granted) _ _ (λ _. inl refl)
    (λ _. either (λ (x : Process). IsKept p x) (nat_lt p.target_number s.target_number) _ _ (λ _. inr (refl, omega arith)) (λ _. inr (refl, omega arith)))

ordered_known : (p : Process) (s : Seat) → IsKnown p s → IsKnown (ordered p s) s
ordered_known p s k = let a = (obeys_moves s p (Target s.target_number s.target) (sends_target p s k) k).known in
    (obeys_moves s (obeys (Target s.target_number s.target) p) (Grant s.granted) (sends_grant (obeys (Target s.target_number s.target) p) s) a).known

pub then_known : (pages : ℕ) (p : Process) (s : Seat) → IsKnown p s → IsKnown (process_then pages p s) s
then_known pages p s k = (does_moves s (does Reads (ordered p s)) (Gives pages) (does_moves s (ordered p s) Reads (ordered_known p s k)).known).known

gives_more : (a b most pages : ℕ) → a ≤ b → b ≤ most → a ≤ min (b + pages) most
gives_more a b most pages l m = omega (arith, l, m)

then_kept : (pages : ℕ) (p : Process) (s : Seat) → IsKnown p s → IsKept p (process_then pages p s)
then_kept pages p s k = elim (ordered_kept p s) [
  | inl none ↦ inl none
  | inr kept ↦ inr (kept.0, gives_more p.balloon (ordered p s).balloon (ordered p s).pages pages kept.1 (ordered_known p s k).memory.balloon)
]

-- ---- what is to stay in a balloon

within_by : (b : Bool) (n k r : ℕ) → (b ≡ true → n ≤ r) → (b ≡ false → k ≤ r) → (if b then n else k) ≤ r
within_by b n k r h i = either (λ (x : ℕ). x ≤ r) b n k h i

left_wanted : (p : Process) (wanted : ℕ) → left_there p wanted ≤ wanted
left_wanted p wanted = within_by (nat_lt 0 p.held) (min wanted (p.balloon - p.held)) wanted wanted (λ _. omega arith) (λ _. omega arith)

-- of a process that keeps what it holds back, no less
left_rises : (p q : Process) (wanted : ℕ) → IsKept p q → left_there p wanted ≤ left_there q wanted
left_rises p q wanted k = either (λ (n : ℕ). left_there p wanted ≤ n) (nat_lt 0 q.held) _ _
    (λ t. elim k [
      | inl none ↦ absurd (omega (arith, none, lt_true 0 q.held t))
      | inr kept ↦ within_by (nat_lt 0 p.held) (min wanted (p.balloon - p.held)) wanted (min wanted (q.balloon - q.held)) (λ _. omega (arith, kept)) (λ f. absurd (omega (arith, lt_true 0 q.held t, lt_false 0 p.held f, kept.0)))
    ])
    (λ _. left_wanted p wanted)

-- ---- where nothing is outstanding

pub le_same : (a b c d : ℕ) → a ≡ b → c ≡ d → b ≤ d → a ≤ c
le_same a b c d e f l = omega (arith, e, f, l)

le_then : (a b c : ℕ) → a ≤ b → b ≤ c → a ≤ c
le_then a b c l m = omega (arith, l, m)

none_by : (b : Bool) (n r : ℕ) → (b ≡ true → n ≤ r) → (if b then n else 0) - r ≡ 0
none_by true n r h = omega (arith, h refl)
none_by false n r h = omega arith

-- of a guest that has received and read its target, once its report is heard
none_left : (q : Process) (wanted target : ℕ) (x : Seat) → x.least_target ≡ target → q.balloon - q.held ≤ x.ballooned - x.held → x.wanted ≡ wanted → wanted ≤ target
    → (q.held ≡ 0 → target ≤ q.balloon) → left_there q x.wanted ≤ reclaimed (granting x)
none_left q wanted target x least left same w e = within_by (nat_lt 0 q.held) (min x.wanted (q.balloon - q.held)) x.wanted (reclaimed (granting x)) (λ _. omega (arith, least, left, same, w))
    (λ f. let none : q.held ≡ 0 = omega (arith, lt_false 0 q.held f) in omega (arith, least, left, same, w, none, e none))

heard_none : (q : Process) (turn : ℕ) (s : Seat) → IsKnown q s → s.uncounted ≡ 0 → q.target_number ≡ s.target_number → q.read_target ≡ s.target → s.wanted ≤ s.target
    → (q.held ≡ 0 → s.target ≤ q.balloon) → left_there q (heard turn (snapshot q) s).wanted ≤ reclaimed (granting (heard turn (snapshot q) s))
heard_none q turn s k u n r w e =
    none_left q s.wanted s.target (heard turn (snapshot q) s) (heard_read q turn s k n r) (heard_left q turn s k u) (heard_wanted turn (snapshot q) s) w e

-- ---- a guest after a round

abbrev pub limited : Guest → Guest
limited g = record g { limit = confirms (limiting g.known g.seat (confirms g.limit)) }

abbrev pub rounded : ℕ → ℕ → Guest → Guest
rounded turn pages g = received turn (reported (given pages (has_read (obeyed 1 (obeyed 0 (sent (limited g)))))))

limit_sure : (b : Bool) (l : Limit) (s : Seat) → b ≡ true → lent s ≤ (confirms (limiting b s (confirms l))).sure
limit_sure true l s e = omega arith
limit_sure false l s e = absurd (cc)

pub rounded_process : (turn pages : ℕ) (g : Guest) → g.known ≡ true → (rounded turn pages g).process ≡ process_then pages g.process g.seat
rounded_process turn pages g e = ap (λ (os : List Order). does (Gives pages) (does Reads (obeying (order_at os 1) (obeying (order_at os 0) g.process))))
    (sends_both g.known (limited g).limit g.seat g.orders e (limit_sure g.known g.limit g.seat e))

pub seat_by : (b : Bool) (turn : ℕ) (q : Process) (s : Seat) → b ≡ true → viewed b (changed b (hearing turn (Some (snapshot q))) s) ≡ heard turn (snapshot q) s
seat_by true turn q s e = refl
seat_by false turn q s e = absurd (cc)

pub seen_by : (b : Bool) (s : Seat) → b ≡ true → viewed b s ≡ s
seen_by true s e = refl
seen_by false s e = absurd (cc)

-- it is counted if it was
uncounted_by : (b : Bool) (turn : ℕ) (q : Process) (s : Seat) → (changed b (hearing turn (Some (snapshot q))) s).uncounted ≡ s.uncounted
uncounted_by true turn q s = heard_uncounted turn (snapshot q) s
uncounted_by false turn q s = refl

wanted_by : (b : Bool) (turn : ℕ) (q : Process) (s : Seat) → (changed b (hearing turn (Some (snapshot q))) s).wanted ≡ s.wanted
wanted_by true turn q s = heard_wanted turn (snapshot q) s
wanted_by false turn q s = refl

counted_same : (turn pages : ℕ) (g : Guest) → is_counted (rounded turn pages g) ≡ is_counted g
counted_same turn pages g = ap (λ (n : ℕ). g.strict && g.known && not (nat_lt 0 n)) (uncounted_by g.known turn (rounded turn pages g).process g.seat)

-- what it is of a guest that is counted
record Counted (g : Guest) : Type 0 where
  strict : g.strict ≡ true
  known : g.known ≡ true
  uncounted : g.seat.uncounted ≡ 0

counted_facts : (g : Guest) → is_counted g ≡ true → Counted g
counted_facts g e = record {
  strict = and_left g.strict _ (and_left (g.strict && g.known) _ e);
  known = and_right g.strict _ (and_left (g.strict && g.known) _ e);
  uncounted = counts_none g.seat.uncounted (and_right (g.strict && g.known) _ e);
} where
  counts_none : (n : ℕ) → not (nat_lt 0 n) ≡ true → n ≡ 0
  counts_none n e = omega (arith, lt_false 0 n (not_true (nat_lt 0 n) e)) where
    not_true : (b : Bool) → not b ≡ true → b ≡ false
    not_true true e = absurd (cc)
    not_true false e = refl

pub round_leaves_none : (turn pages : ℕ) (g : Guest) → (g.strict ≡ true → IsKnown g.process g.seat) → IsAimed g → HasEnough (rounded turn pages g) → outstanding (rounded turn pages g) ≡ 0
round_leaves_none turn pages g t a e =
    let x = rounded turn pages g in
    none_by (is_counted x) (left_there x.process x.seat.wanted) (reclaimed (granting (view x))) (λ c. counted_none turn pages g (counted_facts g (sym (counted_same turn pages g) ∙ c)) t a e) where
      counted_none : (turn pages : ℕ) (g : Guest) → Counted g → (g.strict ≡ true → IsKnown g.process g.seat) → IsAimed g → HasEnough (rounded turn pages g)
          → left_there (rounded turn pages g).process (rounded turn pages g).seat.wanted ≤ reclaimed (granting (view (rounded turn pages g)))
      counted_none turn pages g c t a e =
          let x = rounded turn pages g in
          let p = rounded_process turn pages g c.known in
          let q = process_then pages g.process g.seat in
          let k = t c.strict in
          let r = ordered_ready g.process g.seat k in
          let v : view x ≡ heard turn (snapshot q) g.seat = seat_by g.known turn x.process g.seat c.known ∙ ap (λ (y : Process). heard turn (snapshot y) g.seat) p in
          let s : x.seat ≡ heard turn (snapshot q) g.seat = sym (seen_by g.known x.seat c.known) ∙ v in
          let see = seen_by g.known g.seat c.known in
          let w : g.seat.wanted ≤ g.seat.target = subst (λ (y : Seat). y.wanted ≤ y.target) see a in
          let m : x.seat.target ≡ g.seat.target = ap (λ (y : Seat). y.target) s ∙ target_same turn (snapshot q) g.seat in
          let h = heard_none q turn g.seat (then_known pages g.process g.seat k) c.uncounted r.number r.target w (λ z. enough x.process.held q.held x.process.balloon q.balloon x.seat.target g.seat.target
          (ap (λ (y : Process). y.held) p) (ap (λ (y : Process). y.balloon) p) m e z) in
          le_same (left_there x.process x.seat.wanted) (left_there q (heard turn (snapshot q) g.seat).wanted) _ _
          (ap (λ (y : Process). left_there y x.seat.wanted) p ∙ ap (λ (y : Seat). left_there q y.wanted) s) (ap (λ (y : Seat). reclaimed (granting y)) v) h where
            enough : (a b c d t u : ℕ) → a ≡ b → c ≡ d → t ≡ u → (a ≡ 0 → t ≤ c) → b ≡ 0 → u ≤ d
            enough a b c d t u e f g h z = omega (arith, e, f, g, h (e ∙ z))

-- ---- what it needs

staying_by : (b : Bool) (m n : ℕ) → (b ≡ true → m ≤ n) → (if b then m else 0) ≤ (if b then n else 0)
staying_by true m n h = h refl
staying_by false m n h = omega arith

counted_rises : (turn pages : ℕ) (g : Guest) → Counted g → (g.strict ≡ true → IsKnown g.process g.seat)
    → left_there g.process g.seat.wanted ≤ left_there (rounded turn pages g).process (rounded turn pages g).seat.wanted
counted_rises turn pages g c t = let x = rounded turn pages g in
    subst (λ (n : ℕ). left_there g.process g.seat.wanted ≤ n) (ap (λ (y : Process). left_there y g.seat.wanted) (sym (rounded_process turn pages g c.known))
    ∙ ap (λ (n : ℕ). left_there x.process n) (sym (wanted_by g.known turn x.process g.seat)))
    (left_rises g.process (process_then pages g.process g.seat) g.seat.wanted (then_kept pages g.process g.seat (t c.strict)))

staying_rises : (turn pages : ℕ) (g : Guest) → (g.strict ≡ true → IsKnown g.process g.seat) → staying g ≤ staying (rounded turn pages g)
staying_rises turn pages g t =
    let x = rounded turn pages g in
    let l = left_there x.process x.seat.wanted in
    subst (λ (n : ℕ). staying g ≤ n) (ap (λ (b : Bool). if b then l else 0) (sym (counted_same turn pages g)))
    (staying_by (is_counted g) (left_there g.process g.seat.wanted) l (λ c. counted_rises turn pages g (counted_facts g c) t))

seen_pages : (b : Bool) (turn : ℕ) (q : Process) (s : Seat)
    → (viewed b (changed b (hearing turn (Some (snapshot q))) s)).pages + (viewed b (changed b (hearing turn (Some (snapshot q))) s)).outside ≤ (viewed b s).pages + (viewed b s).outside
seen_pages true turn q s = heard_pages turn (snapshot q) s
seen_pages false turn q s = omega arith

pub round_needs : (turn pages : ℕ) (g : Guest) → (g.strict ≡ true → IsKnown g.process g.seat) → needs (rounded turn pages g) ≤ needs g
round_needs turn pages g t = less_by _ _ (staying g) (staying (rounded turn pages g)) (seen_pages g.known turn (rounded turn pages g).process g.seat) (staying_rises turn pages g t) where
  less_by : (a b m n : ℕ) → a ≤ b → m ≤ n → a - n ≤ b - m
  less_by a b m n l k = omega (arith, l, k)

aimed_by : (b : Bool) (turn : ℕ) (q : Process) (s : Seat) → (viewed b s).wanted ≤ (viewed b s).target
    → (viewed b (changed b (hearing turn (Some (snapshot q))) s)).wanted ≤ (viewed b (changed b (hearing turn (Some (snapshot q))) s)).target
aimed_by true turn q s a = le_same _ s.wanted _ s.target (heard_wanted turn (snapshot q) s) (target_same turn (snapshot q) s) a
aimed_by false turn q s a = a

pub round_aimed : (turn pages : ℕ) (g : Guest) → IsAimed g → IsAimed (rounded turn pages g)
round_aimed turn pages g a = aimed_by g.known turn (rounded turn pages g).process g.seat a

-- ---- a grant, and a target

-- the parts of a guest that these change
abbrev stays_of : Bool → Bool → Process → Seat → ℕ
stays_of strict b p s = if strict && b && not (is_uncounted s) then left_there p s.wanted else 0

abbrev outstanding_of : Bool → Bool → Process → Seat → ℕ
outstanding_of strict b p s = stays_of strict b p s - reclaimed (granting (viewed b s))

abbrev needs_of : Bool → Bool → Process → Seat → ℕ
needs_of strict b p s = (viewed b s).pages + (viewed b s).outside - stays_of strict b p s

-- what such a change leaves of a guest
pub record Same (g x : Guest) : Type 0 where
  pub gives : outstanding x ≡ outstanding g
  pub takes : needs x ≡ needs g
  pub aimed : IsAimed g → IsAimed x

record SameOf (strict b : Bool) (p : Process) (s t : Seat) : Type 0 where
  gives : outstanding_of strict b p t ≡ outstanding_of strict b p s
  takes : needs_of strict b p t ≡ needs_of strict b p s
  aimed : (viewed b s).wanted ≤ (viewed b s).target → (viewed b t).wanted ≤ (viewed b t).target

grants_same : (strict b : Bool) (p : Process) (s : Seat) → SameOf strict b p s (changed b granting s)
grants_same strict true p s = record {
  gives = ap (λ (n : ℕ). stays_of strict true p s - n) (twice s);
  takes = refl;
  aimed = λ a. a;
} where
  twice : (s : Seat) → reclaimed (granting (granting s)) ≡ reclaimed (granting s)
  twice s = omega arith
grants_same strict false p s = record { gives = refl; takes = refl; aimed = λ a. a }

pub grant_same : (g : Guest) → Same g (by_lender granting g)
grant_same g = let s = grants_same g.strict g.known g.process g.seat in record { gives = s.gives; takes = s.takes; aimed = s.aimed }

less_same : (n a b t : ℕ) → n ≤ t → n - min a (min b t) ≡ n - min a b
less_same n a b t l = omega (arith, l)

stays_wanted : (strict b : Bool) (p : Process) (s : Seat) → stays_of strict b p s ≤ s.wanted
stays_wanted strict b p s = within_by (strict && b && not (is_uncounted s)) (left_there p s.wanted) 0 s.wanted (λ _. left_wanted p s.wanted) (λ _. omega arith)

aims : (room : ℕ) (s : Seat) → s.wanted ≤ s.target → (retargeted room s).wanted ≤ (retargeted room s).target
aims room s a = retargets (λ (x : Seat). x.wanted ≤ x.target) room s a (λ _. never_below room s)

targets_same : (strict b : Bool) (p : Process) (room : ℕ) (s : Seat) → SameOf strict b p s (changed b (retargeted room) s)
targets_same strict true p room s = record {
  gives = retargets (λ (x : Seat). outstanding_of strict true p x ≡ outstanding_of strict true p s) room s refl
      (λ _. less_same (stays_of strict true p s) (s.ballooned - s.held) s.least_target (possible_target room s) (le_then _ s.wanted _ (stays_wanted strict true p s) (never_below room s)));
  takes = retargets (λ (x : Seat). needs_of strict true p x ≡ needs_of strict true p s) room s refl (λ _. refl);
  aimed = aims room s;
}
targets_same strict false p room s = record { gives = refl; takes = refl; aimed = λ a. a }

pub target_same_of : (room : ℕ) (g : Guest) → Same g (by_lender (retargeted room) g)
target_same_of room g = let s = targets_same g.strict g.known g.process room g.seat in record { gives = s.gives; takes = s.takes; aimed = s.aimed }
