-- A guest whose balloon counts no longer has all its pages lent, until another guest is at its place.
use Rattle.std.proofs.Common.{◌≡◌, ◌≢◌, ℕ, zero, suc, ◌+◌, ◌-◌, ◌<◌, Bool, true, false, ◌&&◌, ◌==◌, nat_lt, if◌then◌else◌, List, [], ◌∷◌, length, map, refl, subst, sym, ap, arith}
use Rattle.std.proofs.lemmas.Bool.Decides.{nat_tests}
use Rattle.vb_host.specs.declared.event.Event.{Event}
use Rattle.vb_host.specs.declared.event.Event.TheVariants.{Hears, Grants, Overdraws, Wants, Targets, Arrives, Joins, TakesOver, Uncounts, Budget, Prefers, Defers}
use Rattle.vb_host.specs.declared.report.Report.{Report}
use Rattle.vb_host.specs.declared.seat.Seat.{Seat}
use Rattle.vb_host.specs.Lending.{Lending, all_targeted, each_at, happens, held_at, may_grant, may_join_at, may_overdraw, next_turn, pages_at, room}
use Rattle.vb_host.specs.Lending.{lent_at, outside_at, test_at}
use Rattle.vb_host.specs.Line.{ByGrants, Granted, IsStep, Stays}
use Rattle.vb_host.specs.Promises.{IsStillThere, counts_nothing}
use Rattle.vb_host.specs.Seats.{believed, counting, covers, deferring, granting, grown, heard, is_stale, may_defer, is_uncounted, newcomer, preferring, queued}
use Rattle.vb_host.specs.Seats.{raised, retargeted, room_after, served, starting, taken_over, uncounting, waits}
use Rattle.vb_host.proofs.LentBy.{retargets}
use Rattle.vb_host.proofs.Passing.{step_settles}
use Rattle.vb_host.proofs.Sound.{and_left, and_right, believes, either, eq_true, lt_true, notes, queues}
use Rattle.vb_host.proofs.Toward.{asks_empty, covers_by}

-- ---- one seat

abbrev pub IsEmpty : Seat → Type 0
IsEmpty s = (0 < s.uncounted) × (s.ballooned ≡ 0)

empty_by : (s : Seat) → counts_nothing s ≡ true → IsEmpty s
empty_by s e = (lt_true 0 s.uncounted (and_left (is_uncounted s) _ e), eq_true s.ballooned 0 (and_right (is_uncounted s) _ e))

empty_is : (s : Seat) → IsEmpty s → counts_nothing s ≡ true
empty_is s e = both_are s.uncounted s.ballooned e.0 e.1 where
  both_are : (u b : ℕ) → 0 < u → b ≡ 0 → (nat_lt 0 u && (b == 0)) ≡ true
  both_are u b l e = grind (arith, nat_tests)

empty_stays : (f : Seat → Seat) (s : Seat) → (IsEmpty s → IsEmpty (f s)) → counts_nothing s ≡ true → counts_nothing (f s) ≡ true
empty_stays f s h e = empty_is (f s) (h (empty_by s e))

counts_empty : (r : Report) (s : Seat) → IsEmpty s → IsEmpty (counting (record r { ballooned = 0 }) s)
counts_empty r s e = either IsEmpty (r.deflates == s.granted) _ _ (λ _. notes IsEmpty (0 - r.held) 0 (record r { ballooned = 0 }) s (λ _. (e.0, omega arith)) (λ _. e))
    (λ _. notes IsEmpty 0 r.held (record r { ballooned = 0 }) s (λ _. (e.0, refl)) (λ _. e))

believes_empty : (r : Report) (s : Seat) → IsEmpty s → IsEmpty (counting (believed s r) s)
believes_empty r s e = believes (λ (q : Report). IsEmpty (counting q s)) r s (λ _. counts_empty r s e) (λ z. absurd (omega (arith, z, e.0)))

grants_empty : (s : Seat) → IsEmpty s → IsEmpty (granting s)
grants_empty s e = (e.0, omega (arith, e.1))

serves_empty : (s : Seat) → IsEmpty s → IsEmpty (served s)
serves_empty s e = either IsEmpty (covers s) _ _ (λ _. grants_empty s e) (λ _. e)

raises_empty : (r : Report) (s : Seat) → IsEmpty s → IsEmpty (raised r s)
raises_empty r s e = either IsEmpty ((r.target_number == s.target_number) && (r.read_target == s.target)) _ _ (λ _. e) (λ _. e)

hears_empty : (turn : ℕ) (r : Report) (s : Seat) → IsEmpty s → IsEmpty (heard turn r s)
hears_empty turn r s e = either IsEmpty (is_stale r s) _ _ (λ _. e)
    (λ _. let c = serves_empty (counting (believed s r) s) (believes_empty r s e) in let d = raises_empty r (served (counting (believed s r) s)) c in
    queues IsEmpty turn s (raised r (served (counting (believed s r) s))) d (λ _. d))

targets_empty : (room : ℕ) (s : Seat) → IsEmpty s → IsEmpty (retargeted room s)
targets_empty room s e = retargets IsEmpty room s e (λ _. e)

-- ---- one place

kept_at : (test : Seat → Bool) (n i : ℕ) (f : Seat → Seat) (xs : List Seat) → ((s : Seat) → test s ≡ true → test (f s) ≡ true) → test_at test xs i ≡ true
    → test_at test (each_at n f xs) i ≡ true
kept_at test n i f [] h e = e
kept_at test zero zero f (x ∷ xs) h e = h x e
kept_at test zero (suc i) f (x ∷ xs) h e = e
kept_at test (suc n) zero f (x ∷ xs) h e = e
kept_at test (suc n) (suc i) f (x ∷ xs) h e = kept_at test n i f xs h e

kept_elsewhere : (test : Seat → Bool) (n i : ℕ) (f : Seat → Seat) (xs : List Seat) → i ≢ n → test_at test xs i ≡ true → test_at test (each_at n f xs) i ≡ true
kept_elsewhere test n i f [] d e = e
kept_elsewhere test zero zero f (x ∷ xs) d e = absurd (d refl)
kept_elsewhere test zero (suc i) f (x ∷ xs) d e = e
kept_elsewhere test (suc n) zero f (x ∷ xs) d e = e
kept_elsewhere test (suc n) (suc i) f (x ∷ xs) d e = kept_elsewhere test n i f xs (λ k. d (ap (λ j. suc j) k)) e

pub uncounts_there : (l : Lending) (n : ℕ) → n < length l.seats → test_at counts_nothing (happens l (Uncounts n)).seats n ≡ true
uncounts_there l n h = by_place n l.seats h where
  by_place : (n : ℕ) (xs : List Seat) → n < length xs → test_at counts_nothing (each_at n uncounting xs) n ≡ true
  by_place n [] h = absurd (omega arith)
  by_place zero (x ∷ xs) h = refl
  by_place (suc n) (x ∷ xs) h = by_place n xs (omega arith)

-- ---- events

either_kept : (b : Bool) (n : ℕ) (xs ys : List Seat) → test_at counts_nothing ys n ≡ true → test_at counts_nothing xs n ≡ true → test_at counts_nothing (if b then ys else xs) n ≡ true
either_kept true n xs ys e f = e
either_kept false n xs ys e f = f

grants_kept : (n i : ℕ) (xs : List Seat) → test_at counts_nothing xs i ≡ true → test_at counts_nothing (each_at n granting xs) i ≡ true
grants_kept n i xs e = kept_at counts_nothing n i granting xs (λ s. empty_stays granting s (grants_empty s)) e

pub stays_uncounted : (l : Lending) (e : Event) (n : ℕ) → IsStillThere n e → test_at counts_nothing l.seats n ≡ true → test_at counts_nothing (happens l e).seats n ≡ true
stays_uncounted l (Hears i r) n h e = let turn = next_turn l.seats in kept_at counts_nothing i n (heard turn r) l.seats (λ s. empty_stays (heard turn r) s (hears_empty turn r s)) e
stays_uncounted l (Grants i) n h e = either_kept (may_grant l i) n l.seats (each_at i granting l.seats) (grants_kept i n l.seats e) e
stays_uncounted l (Overdraws i) n h e = either_kept (may_overdraw l i) n l.seats (each_at i granting l.seats) (grants_kept i n l.seats e) e
stays_uncounted l (Wants i pages) n h e = kept_at counts_nothing i n (λ s. record s { wanted = pages }) l.seats (λ s f. f) e
stays_uncounted l (Targets i) n h e = kept_at counts_nothing i n (retargeted (room l)) l.seats (λ s. empty_stays (retargeted (room l)) s (targets_empty (room l) s)) e
stays_uncounted l (Arrives i pages ballooned) n h e = kept_elsewhere counts_nothing i n (λ _. starting pages ballooned) l.seats h e
stays_uncounted l (Joins i m) n h e = either_kept (may_join_at l.seats i m) n l.seats (each_at m (λ _. newcomer 0) (each_at i (grown (pages_at l.seats m)) l.seats))
    (kept_elsewhere counts_nothing m n (λ _. newcomer 0) (each_at i (grown (pages_at l.seats m)) l.seats) h
    (kept_at counts_nothing i n (grown (pages_at l.seats m)) l.seats (λ s f. f) e)) e
stays_uncounted l (TakesOver i pages r) n h e = kept_elsewhere counts_nothing i n (λ _. queued (next_turn l.seats) (taken_over pages r)) l.seats h e
stays_uncounted l (Uncounts i) n h e = kept_at counts_nothing i n uncounting l.seats (λ s f. refl) e
stays_uncounted l (Budget frames) n h e = e
stays_uncounted l (Defers i) n h e = kept_at counts_nothing i n (deferring (next_turn l.seats)) l.seats
    (λ s f. either (λ (x : Seat). counts_nothing x ≡ true) (may_defer s) _ _ (λ _. f) (λ _. f)) e
stays_uncounted l (Prefers i) n h e = kept_at counts_nothing i n (preferring 1) (map (preferring 0) l.seats) (λ s f. f) (kept_map (preferring 0) n l.seats (λ s f. f) e) where
  kept_map : (f : Seat → Seat) (n : ℕ) (xs : List Seat) → ((s : Seat) → counts_nothing s ≡ true → counts_nothing (f s) ≡ true) → test_at counts_nothing xs n ≡ true
      → test_at counts_nothing (map f xs) n ≡ true
  kept_map f n [] h e = e
  kept_map f zero (x ∷ xs) h e = h x e
  kept_map f (suc n) (x ∷ xs) h e = kept_map f n xs h e

-- ---- a step

grants_stay : (l m : Lending) (n : ℕ) → ByGrants l m → test_at counts_nothing l.seats n ≡ true → test_at counts_nothing m.seats n ≡ true
grants_stay _ _ n (Stays l) e = e
grants_stay _ _ n (Granted l m i f b) e = grants_stay (happens l (Grants i)) m n b (stays_uncounted l (Grants i) n tt e)

targets_stay : (room n : ℕ) (xs : List Seat) → test_at counts_nothing xs n ≡ true → test_at counts_nothing (all_targeted room xs) n ≡ true
targets_stay room n [] e = e
targets_stay room zero (x ∷ xs) e = empty_stays (retargeted room) x (targets_empty room x) e
targets_stay room (suc n) (x ∷ xs) e = targets_stay (room_after room x) n xs e

lends_all : (n : ℕ) (xs : List Seat) → test_at counts_nothing xs n ≡ true → lent_at xs n ≡ pages_at xs n + outside_at xs n
lends_all n [] e = absurd (cc)
lends_all zero (x ∷ xs) e = omega (arith, (empty_by x e).1)
lends_all (suc n) (x ∷ xs) e = lends_all n xs e

waits_not : (s : Seat) (b : Bool) → waits s ≡ b → IsEmpty s → covers s ≡ false → s.held ≡ 0
waits_not s true w e c = absurd (covers_not s (covers_by s w (asks_empty s e.1)) c) where
  covers_not : (s : Seat) → covers s ≡ true → covers s ≡ false → ⊥
  covers_not s e f = absurd (cc)
waits_not s false w e c = holds_none s.held w where
  holds_none : (n : ℕ) → nat_lt 0 n ≡ false → n ≡ 0
  holds_none n e = grind (arith, nat_tests)

waits_none : (n : ℕ) (xs : List Seat) → test_at counts_nothing xs n ≡ true → test_at covers xs n ≡ false → held_at xs n ≡ 0
waits_none n [] e c = refl
waits_none zero (x ∷ xs) e c = waits_not x (waits x) refl (empty_by x e) c
waits_none (suc n) (x ∷ xs) e c = waits_none n xs e c

stays_by : (l m : Lending) (e : Event) (n : ℕ) → IsStep l e m → test_at counts_nothing (happens l e).seats n ≡ true → test_at counts_nothing m.seats n ≡ true
stays_by l m e n s c = subst (λ (k : Lending). test_at counts_nothing k.seats n ≡ true) (sym s.targets)
    (targets_stay (room s.granted) n s.granted.seats (grants_stay (happens l e) s.granted n s.by_grants c))

pub uncounted_has_all : (l m : Lending) (e : Event) (n : ℕ) → IsStep l e m → test_at counts_nothing (happens l e).seats n ≡ true
    → (test_at counts_nothing m.seats n ≡ true) × (lent_at m.seats n ≡ pages_at m.seats n + outside_at m.seats n) × (held_at m.seats n ≡ 0)
uncounted_has_all l m e n s c = let k = stays_by l m e n s c in (k, lends_all n m.seats k, waits_none n m.seats k ((step_settles l m e s).none_covered n))
