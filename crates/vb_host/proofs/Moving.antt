-- Where nothing is on its way, the first that waits is granted, or the guests are short.
use Rattle.std.proofs.Common.{◌≡◌, ◌≢◌, ℕ, zero, suc, ◌+◌, ◌-◌, ◌≤◌, ◌<◌, Bool, true, false, ◌&&◌, ◌||◌, ◌==◌, nat_lt, nat_le, if◌then◌else◌, List, [], ◌∷◌, sum_by, inl, inr, Some, refl, ap, sym, ◌∙◌, arith}
use Rattle.std.proofs.lemmas.Bool.Decides.{nat_tests}
use Rattle.std.proofs.lemmas.List.Sums.{sum_by-cons}
use Rattle.std.specs.Prelude.{slice_get}
use Rattle.std.specs.List.{AllByRecursion}
use Rattle.vb_host.specs.declared.report.Report.{Report}
use Rattle.vb_host.specs.declared.seat.Seat.{Seat}
use Rattle.vb_host.specs.Lending.{owed, value_at, test_at, held_at, is_first, may_grant}
use Rattle.vb_host.specs.Line.{GrantsNone}
use Rattle.vb_host.specs.Promises.{IsQuiet, HasGiven, HasTold, keeps, all_keep}
use Rattle.vb_host.specs.Seats.{believed, is_uncounted, lent, asked, waits, covers, granting, served, counting, raised, queuing, is_stale, heard, due_target, is_news, noting}
use Rattle.vb_host.specs.System.{Process, Guest, Step, seats, lending, snapshot, opened, through, view, viewed, at}
use Rattle.vb_host.proofs.Budget.{opened_safe, run_true}
use Rattle.vb_host.proofs.Changes.{is_fresh}
use Rattle.vb_host.proofs.Lines.{by_waits}
use Rattle.vb_host.proofs.Lists.{waits_at, all_get, some_is}
use Rattle.vb_host.proofs.Shown.{IsSeen, news, news_held, seen_all, seen_empty}
use Rattle.vb_host.proofs.Sound.{believes, counts, either, notes, IsKnown, and_left, eq_false, eq_true, hears, lt_false, queues, IsTrusty}
use Rattle.vb_host.proofs.Toward.{waits_by}

both_false : (a b c d : ℕ) → ((a == b) && (c == d)) ≡ false → a ≡ b → c ≡ d → ⊥
both_false a b c d e f g = grind (arith, nat_tests)

due_none : (held deflates granted : ℕ) → 0 < held → (deflates == granted) ≡ true → (nat_lt 0 held && (deflates == granted)) ≡ false → ⊥
due_none held deflates granted w e f = grind (arith, nat_tests)

waits_none : (s : Seat) → s.held ≡ 0 → waits s ≡ true → ⊥
waits_none s e w = grind (arith, nat_tests)

-- ---- the last target was read

raised_least : (r : Report) (s : Seat) → s.least_target ≤ s.target → r.target_number ≡ s.target_number → r.read_target ≡ s.target → (raised r s).least_target ≡ s.target
raised_least r s l e f = either (λ (x : Seat). x.least_target ≡ s.target) ((r.target_number == s.target_number) && (r.read_target == s.target)) _ _
    (λ _. omega (arith, l)) (λ t. absurd (both_false r.target_number s.target_number r.read_target s.target t e f))

queued_least : (turn : ℕ) (old s : Seat) → (queuing turn old s).least_target ≡ s.least_target
queued_least turn old s = queues (λ (x : Seat). x.least_target ≡ s.least_target) turn old s refl (λ _. refl)

-- what counting a balloon and granting leave as it was
abbrev SameTargets : Seat → Seat → Type 0
SameTargets s t = (t.target ≡ s.target) × (t.target_number ≡ s.target_number) × (t.least_target ≡ s.least_target)

targets_stay : (r : Report) (s : Seat) → SameTargets s (served (counting r s))
targets_stay r s = either (λ (x : Seat). SameTargets s x) (covers (counting r s)) _ _ (λ _. counting_stays r s) (λ _. counting_stays r s) where
  counting_stays : (r : Report) (s : Seat) → SameTargets s (counting r s)
  counting_stays r s = counts (λ (x : Seat). SameTargets s x) r s (λ _ _. (refl, refl, refl)) (λ _. (refl, refl, refl))

-- a report that isn't stale, of a driver that has read the last target, raises the least one to it
heard_least : (turn : ℕ) (r : Report) (s : Seat) → s.granted ≤ r.deflates → s.removed ≤ r.removed → s.least_target ≤ s.target
    → r.target_number ≡ s.target_number → r.read_target ≡ s.target → (heard turn r s).least_target ≡ s.target
heard_least turn r s l x m e f = let q = believed s r in let t = targets_stay q s in either (λ (y : Seat). y.least_target ≡ s.target) (is_stale r s) _ _ (λ b. absurd (is_fresh r s l x b))
    (λ _. queued_least turn s (raised r (served (counting q s)))
    ∙ (raised_least r (served (counting q s)) (omega (arith, m, t.0, t.2)) (e ∙ sym t.1) (f ∙ sym t.0) ∙ t.0))

not_due : (r : Report) (s : Seat) → due_target r s ≡ false → r.target_number ≡ s.target_number
not_due r s e = grind (arith, nat_tests)

-- ---- what each keeps

kept : (g : Guest) (b u : Bool) → waits g.seat ≡ b → is_uncounted g.seat ≡ u → g.seat.least_target ≡ g.seat.target → (b ≡ false → g.seat.uncounted ≡ 0 → g.seat.target ≤ g.seat.ballooned)
    → lent g.seat ≤ (if b then lent (granting g.seat) else if u then g.seat.pages + g.seat.outside else g.seat.pages + g.seat.outside - g.seat.target)
kept g true u e f l h = omega arith
kept g false true e f l h = omega arith
kept g false false e f l h = omega (arith, l, h refl (omega (arith, lt_false 0 g.seat.uncounted f)))

kept_asked : (s : Seat) → waits s ≡ true → lent s + asked s ≤ keeps s
kept_asked s e = grind (arith, e)

lent_kept : (g : Guest) → IsQuiet g → HasGiven g → lent g.seat ≤ keeps g.seat
lent_kept g q h = kept g (waits g.seat) (is_uncounted g.seat) refl refl q.heard_read h

-- the lender sees the seats that it knows
seen : (g : Guest) → IsQuiet g → view g ≡ g.seat
seen g q = ap (λ (b : Bool). viewed b g.seat) q.known

seen_lent : (g : Guest) → IsQuiet g → lent (view g) ≡ lent g.seat
seen_lent g q = ap lent (seen g q)

all_kept : (xs : List Guest) → AllByRecursion IsQuiet xs → AllByRecursion HasGiven xs → owed (seats xs) ≤ sum_by (λ g. keeps g.seat) xs
all_kept [] q h = omega arith
all_kept (g ∷ xs) q h = omega (arith, seen_lent g q.0, all_kept xs q.1 h.1, lent_kept g q.0 h.0, sum_by-cons (λ (x : Guest). keeps x.seat) g xs, sum_by-cons lent (view g) (seats xs))

with_asked : (xs : List Guest) (n : ℕ) → AllByRecursion IsQuiet xs → AllByRecursion HasGiven xs → test_at waits (seats xs) n ≡ true
    → owed (seats xs) + value_at asked (seats xs) n ≤ sum_by (λ g. keeps g.seat) xs
with_asked [] n q h e = omega arith
with_asked (g ∷ xs) zero q h e = omega (
  arith,
  seen_lent g q.0,
  ap asked (seen g q.0),
  all_kept xs q.1 h.1,
  kept_asked g.seat (ap waits (sym (seen g q.0)) ∙ e),
  sum_by-cons (λ (x : Guest). keeps x.seat) g xs,
  sum_by-cons lent (view g) (seats xs),
)
with_asked (g ∷ xs) (suc n) q h e = omega (arith, seen_lent g q.0, with_asked xs n q.1 h.1 e, lent_kept g q.0 h.0, sum_by-cons (λ (x : Guest). keeps x.seat) g xs, sum_by-cons lent (view g) (seats xs))

-- ---- the first that waits

le_by : (a b : ℕ) → a ≤ b → nat_le a b ≡ true
le_by a b e = grind (arith, nat_tests)

grants_first : (a b c : Bool) → b ≡ true → c ≡ true → (a || (b && c)) ≡ true
grants_first true b c e f = refl
grants_first false true c e f = f
grants_first false false c e f = e

has_room : (frames overdraft : ℕ) (sizes : List ℕ) (steps : List Step) (n : ℕ)
    → AllByRecursion IsQuiet (through steps (opened frames overdraft sizes)).guests
    → AllByRecursion HasGiven (through steps (opened frames overdraft sizes)).guests
    → all_keep (through steps (opened frames overdraft sizes)) ≤ (through steps (opened frames overdraft sizes)).frames
    → nat_lt 0 (held_at (lending (through steps (opened frames overdraft sizes))).seats n) ≡ true
    → owed (lending (through steps (opened frames overdraft sizes))).seats + value_at asked (lending (through steps (opened frames overdraft sizes))).seats n
    ≤ (through steps (opened frames overdraft sizes)).frames
has_room frames overdraft sizes steps n q h l w =
    let xs = (through steps (opened frames overdraft sizes)).guests in
    omega (arith, l, with_asked xs n q h (waits_at (seats xs) n w))

pub never_stuck : (frames overdraft : ℕ) (sizes : List ℕ) (steps : List Step) (n : ℕ)
    → AllByRecursion IsQuiet (through steps (opened frames overdraft sizes)).guests
    → AllByRecursion HasGiven (through steps (opened frames overdraft sizes)).guests
    → all_keep (through steps (opened frames overdraft sizes)) ≤ (through steps (opened frames overdraft sizes)).frames
    → is_first (lending (through steps (opened frames overdraft sizes))).seats n ≡ true
    → may_grant (lending (through steps (opened frames overdraft sizes))) n ≡ true
never_stuck frames overdraft sizes steps n q h l f =
    let xs = (through steps (opened frames overdraft sizes)).guests in
    grants_first (test_at covers (seats xs) n) (is_first (seats xs) n) _ f
    (le_by _ _ (has_room frames overdraft sizes steps n q h l (and_left (nat_lt 0 (held_at (seats xs) n)) _ f)))

none_waits : (frames overdraft : ℕ) (sizes : List ℕ) (steps : List Step) (n : ℕ)
    → AllByRecursion IsQuiet (through steps (opened frames overdraft sizes)).guests
    → AllByRecursion HasGiven (through steps (opened frames overdraft sizes)).guests
    → all_keep (through steps (opened frames overdraft sizes)) ≤ (through steps (opened frames overdraft sizes)).frames
    → GrantsNone (lending (through steps (opened frames overdraft sizes)))
    → held_at (lending (through steps (opened frames overdraft sizes))).seats n ≡ 0
none_waits frames overdraft sizes steps n q h l g = elim g.no_room [
  | inl none ↦ none n
  | inr first ↦ absurd (omega (arith, first.2, has_room frames overdraft sizes steps first.0 q h l (by_waits _ first.1.waits)))
]

pub held_there : (xs : List Guest) (n : ℕ) (g : Guest) → slice_get xs n ≡ Some g → held_at (seats xs) n ≡ (view g).held
held_there [] n g e = absurd (cc)
held_there (x ∷ xs) zero g e = ap (λ (y : Guest). (view y).held) (some_is x g e)
held_there (x ∷ xs) (suc n) g e = held_there xs n g e

-- a deflate that the lender doesn't hear of, and that wasn't granted, isn't held
no_deflate : (g : Guest) (held : ℕ) (b : Bool) → g.process.held ≡ held → (g.process.deflates == g.seat.granted) ≡ b → IsQuiet g → g.seat.held ≡ 0 → held ≡ 0
no_deflate g zero b e f q w = refl
no_deflate g (suc held) true e f q w = absurd (due_none g.process.held g.process.deflates g.seat.granted (omega (arith, e)) f q.no_grant)
no_deflate g (suc held) false e f q w = absurd (waits_none g.seat w (q.heard_held (omega (arith, e)) (eq_false g.process.deflates g.seat.granted f)))

pub nobody_waits : (frames overdraft : ℕ) (sizes : List ℕ) (steps : List Step) (n : ℕ) (g : Guest)
    → AllByRecursion IsQuiet (through steps (opened frames overdraft sizes)).guests
    → AllByRecursion HasGiven (through steps (opened frames overdraft sizes)).guests
    → all_keep (through steps (opened frames overdraft sizes)) ≤ (through steps (opened frames overdraft sizes)).frames
    → GrantsNone (lending (through steps (opened frames overdraft sizes)))
    → slice_get (through steps (opened frames overdraft sizes)).guests n ≡ Some g
    → g.process.held ≡ 0
nobody_waits frames overdraft sizes steps n g q h l none at =
    let quiet = all_get IsQuiet _ n g q at in
    let e = none_waits frames overdraft sizes steps n q h l none in
    let f = held_there (through steps (opened frames overdraft sizes)).guests n g at in
    no_deflate g g.process.held (g.process.deflates == g.seat.granted) refl refl quiet (ap (λ (s : Seat). s.held) (sym (seen g quiet)) ∙ (sym f ∙ e))

-- ---- what a report tells

-- what counting, serving, raising and queueing leave of this, where this many pages count
abbrev Tells : Process → ℕ → Seat → Type 0
Tells p b x = (p.deflates ≢ x.granted → (x.held ≡ p.held) × (b ≤ x.ballooned)) × (b - p.held ≤ x.ballooned) × (x.pages ≡ p.pages) × (x.line ≡ p.line) × (x.outside ≡ p.outside)

abbrev with_balloon : Process → ℕ → Report
with_balloon p b = record (snapshot p) { ballooned = b }

notes_hold : (p : Process) (b ballooned held : ℕ) (s : Seat) → IsKnown p s → is_news ballooned (with_balloon p b) s ≡ true → (p.deflates ≢ s.granted → (held ≡ p.held) × (b ≤ ballooned))
    → b - p.held ≤ ballooned → Tells p b (noting ballooned held (with_balloon p b) s)
notes_hold p b ballooned held s k e h l = let m = k.memory in notes (λ (x : Seat). Tells p b x) ballooned held (with_balloon p b) s
    (λ _. (h, l, omega (arith, m.pages, m.removed), refl, refl)) (λ f. absurd (not_so (is_news ballooned (with_balloon p b) s) e f)) where
      not_so : (c : Bool) → c ≡ true → c ≡ false → ⊥
      not_so c e f = absurd (cc)

counts_hold : (p : Process) (b : ℕ) (s : Seat) → IsKnown p s → IsSeen p b s → Tells p b (counting (with_balloon p b) s)
counts_hold p b s k n = either (λ (x : Seat). Tells p b x) (p.deflates == s.granted) _ _
    (λ e. let f = eq_true p.deflates s.granted e in notes_hold p b (b - p.held) 0 s k (news_held p b s k n f) (λ g. absurd (g f)) (omega arith))
    (λ _. notes_hold p b b p.held s k (news p b s k n) (λ _. (refl, omega arith)) (omega arith))

serves_hold : (p : Process) (b : ℕ) (s : Seat) → s.deflates ≡ p.deflates → b - p.held ≤ s.ballooned - s.held → Tells p b s → Tells p b (served s)
serves_hold p b s e m h = either (λ (x : Seat). Tells p b x) (covers s) _ _ (λ _. (λ f. absurd (f (sym e)), m, h.2, h.3, h.4)) (λ _. h)

raises_hold : (p : Process) (b : ℕ) (r : Report) (s : Seat) → Tells p b s → Tells p b (raised r s)
raises_hold p b r s h = either (λ (x : Seat). Tells p b x) ((r.target_number == s.target_number) && (r.read_target == s.target)) _ _ (λ _. h) (λ _. h)

queues_hold : (p : Process) (b turn : ℕ) (old s : Seat) → Tells p b s → Tells p b (queuing turn old s)
queues_hold p b turn old s h = queues (λ (x : Seat). Tells p b x) turn old s h (λ _. h)

abbrev IsSo : Process → ℕ → Seat → Type 0
IsSo p b x = (x.deflates ≡ p.deflates) × (b - p.held ≤ x.ballooned - x.held)

notes_so : (p : Process) (b ballooned held : ℕ) (s : Seat) → is_news ballooned (with_balloon p b) s ≡ true → b - p.held ≤ ballooned - held → IsSo p b (noting ballooned held (with_balloon p b) s)
notes_so p b ballooned held s e l = notes (λ (x : Seat). IsSo p b x) ballooned held (with_balloon p b) s (λ _. (refl, l)) (λ f. absurd (not_so (is_news ballooned (with_balloon p b) s) e f)) where
  not_so : (c : Bool) → c ≡ true → c ≡ false → ⊥
  not_so c e f = absurd (cc)

counted_so : (p : Process) (b : ℕ) (s : Seat) → IsKnown p s → IsSeen p b s → IsSo p b (counting (with_balloon p b) s)
counted_so p b s k n = either (λ (x : Seat). IsSo p b x) (p.deflates == s.granted) _ _
    (λ e. notes_so p b (b - p.held) 0 s (news_held p b s k n (eq_true p.deflates s.granted e)) (omega arith)) (λ _. notes_so p b b p.held s (news p b s k n) (omega arith))

counted_holds : (p : Process) (b turn : ℕ) (s : Seat) → IsKnown p s → IsSeen p b s → Tells p b (queuing turn s (raised (snapshot p) (served (counting (with_balloon p b) s))))
counted_holds p b turn s k n = let c = counted_so p b s k n in let x = counting (with_balloon p b) s in queues_hold p b turn s (raised (snapshot p) (served x))
    (raises_hold p b (snapshot p) (served x) (serves_hold p b x c.0 c.1 (counts_hold p b s k n)))

hears_hold : (p : Process) (turn : ℕ) (s : Seat) → IsKnown p s → Tells p (believed s (snapshot p)).ballooned (heard turn (snapshot p) s)
hears_hold p turn s k = either (λ (x : Seat). Tells p (believed s (snapshot p)).ballooned x) (is_stale (snapshot p) s) _ _
    (λ e. absurd (is_fresh (snapshot p) s k.memory.granted k.memory.removed e))
    (λ _. believes (λ (q : Report). Tells p q.ballooned (queuing turn s (raised (snapshot p) (served (counting q s))))) (snapshot p) s
    (λ u. counted_holds p 0 turn s k (seen_empty p s k (k.empty u))) (λ _. counted_holds p p.balloon turn s k (seen_all p s k)))

believed_balloon : (r : Report) (s : Seat) → s.uncounted ≡ 0 → (believed s r).ballooned ≡ r.ballooned
believed_balloon r s e = believes (λ (q : Report). q.ballooned ≡ r.ballooned) r s (λ u. absurd (omega (arith, e, u))) (λ _. refl)

pub target_same : (turn : ℕ) (r : Report) (s : Seat) → (heard turn r s).target ≡ s.target
target_same turn r s = hears (λ (x : Seat). x.target ≡ s.target) turn r s (record { granted = λ _ _ e. e; raised_to = λ _ e. e; turned = λ _ _ e. e }) refl
    (λ q. counts (λ (x : Seat). x.target ≡ s.target) q s (λ _ _. refl) (λ _. refl))

pub has_told : (p : Process) (turn : ℕ) (s : Seat) → IsKnown p s → HasTold p s (heard turn (snapshot p) s)
has_told p turn s k = let h = hears_hold p turn s k in record {
  read_target = λ d e. heard_least turn (snapshot p) s k.memory.granted k.memory.removed k.targets.least_given (not_due (snapshot p) s d) e ∙ sym (target_same turn (snapshot p) s);
  held = λ w f. waits_by (heard turn (snapshot p) s) (omega (arith, w, (h.0 f).0));
  balloon = λ u f. omega (arith, (h.0 f).1, believed_balloon (snapshot p) s u);
  without = λ u. omega (arith, h.1, believed_balloon (snapshot p) s u);
  pages = h.2;
  line = h.3;
  outside = h.4;
}

pub reports_tell : (frames overdraft : ℕ) (sizes : List ℕ) (steps : List Step) (n turn : ℕ) (g : Guest)
    → slice_get (through steps (opened frames overdraft sizes)).guests n ≡ Some g
    → g.strict ≡ true → HasTold g.process g.seat (heard turn (snapshot g.process) g.seat)
reports_tell frames overdraft sizes steps n turn g e strict =
    has_told g.process turn g.seat (all_get IsTrusty _ n g (run_true (opened frames overdraft sizes) steps (opened_safe frames overdraft sizes).each) e strict).known
