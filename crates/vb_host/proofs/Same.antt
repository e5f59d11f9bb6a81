-- The code's lender is the one of the system.
use Rattle.std.proofs.Common.{◌≡◌, ℕ, zero, suc, ◌+◌, ◌<◌, Bool, true, false, not, ◌&&◌, ◌==◌, nat_lt, if◌then◌else◌, List, [], ◌∷◌, length, map, Option, Some, refl, ap, sym, ◌∙◌, arith}
use Rattle.std.proofs.lemmas.Bool.Decides.{nat_tests}
use Rattle.std.specs.Prelude.{slice_get}
use Rattle.vb_host.specs.declared.report.Report.{Report}
use Rattle.vb_host.specs.declared.seat.Seat.{Seat}
use Rattle.vb_host.specs.Lending.{value_at, pages_at, each_at, may_grant, may_overdraw, next_turn, preferring_at, room}
use Rattle.vb_host.specs.Promises.{IsTheLender, IsKnownAt}
use Rattle.vb_host.specs.Seats.{deferring, apart, grown, granting, heard, newcomer, preferring, taken_over, uncounting, queued, retargeted, starting}
use Rattle.vb_host.specs.System.{Guest, Host, seats, lending, view, viewed, changed, by_lender, arriving, taken_up, snapshot, hearing, report_at}
use Rattle.vb_host.specs.System.{joined, may_join, joining}
use Rattle.vb_host.proofs.Lists.{some_is}

-- a change of one guest, seen as a change of its seat
seen_at : (n : ℕ) (f : Guest → Guest) (k : Seat → Seat) (xs : List Guest) → ((g : Guest) → slice_get xs n ≡ Some g → view (f g) ≡ k (view g))
    → seats (each_at n f xs) ≡ each_at n k (seats xs)
seen_at n f k [] h = refl
seen_at zero f k (x ∷ xs) h = ap (λ (s : Seat). s ∷ seats xs) (h x refl)
seen_at (suc n) f k (x ∷ xs) h = ap (λ (ss : List Seat). view x ∷ ss) (seen_at n f k xs h)

by_known : (b : Bool) (f : Seat → Seat) (s : Seat) → b ≡ true → viewed b (changed b f s) ≡ f (viewed b s)
by_known true f s e = refl
by_known false f s e = absurd (cc)

lender_at : (h : Host) (n : ℕ) (f : Seat → Seat) → IsKnownAt h n → seats (each_at n (by_lender f) h.guests) ≡ each_at n f (seats h.guests)
lender_at h n f k = seen_at n (by_lender f) f h.guests (λ g e. by_known g.known f g.seat (k g e))

with_seats : (h : Host) (xs ys : List Seat) → xs ≡ ys → (record (lending h) { seats = xs }) ≡ (record (lending h) { seats = ys })
with_seats h xs ys e = ap (λ (ss : List Seat). record (lending h) { seats = ss }) e

either_lends : (b : Bool) (h k : Host) (ys : List Seat) → k.frames ≡ h.frames → k.overdraft ≡ h.overdraft → seats k.guests ≡ ys
    → lending (if b then k else h) ≡ record (lending h) { seats = if b then ys else seats h.guests }
either_lends true h k ys e f g = cc
either_lends false h k ys e f g = refl

heard_by : (turn i : ℕ) (x g : Guest) (r : Report) → x ≡ g → report_at g.reports i ≡ Some r → x.known ≡ true
    → view (by_lender (hearing turn (report_at x.reports i)) x) ≡ heard turn r (view x)
heard_by turn i x g r e f k = by_known x.known (hearing turn (report_at x.reports i)) x.seat k
    ∙ ap (λ (o : Option Report). hearing turn o (view x)) (ap (λ (y : Guest). report_at y.reports i) e ∙ f)

-- ---- memory joins a guest

value_seen : (f : Seat → ℕ) (xs : List Guest) (m : ℕ) (x : Guest) → slice_get xs m ≡ Some x → value_at f (seats xs) m ≡ f (view x)
value_seen f [] m x e = absurd (cc)
value_seen f (y ∷ xs) zero x e = ap (λ (z : Guest). f (view z)) (some_is y x e)
value_seen f (y ∷ xs) (suc m) x e = value_seen f xs m x e

is_there : (xs : List Guest) (m : ℕ) (x : Guest) → slice_get xs m ≡ Some x → m < length (seats xs)
is_there [] m x e = absurd (cc)
is_there (y ∷ xs) zero x e = omega arith
is_there (y ∷ xs) (suc m) x e = let rest = is_there xs m x e in omega (arith, rest)

lt_by : (a b : ℕ) → a < b → nat_lt a b ≡ true
lt_by a b h = grind (arith, nat_tests)

zero_by : (n : ℕ) → n ≡ 0 → (n == 0) ≡ true
zero_by n e = grind (arith, nat_tests)

same_by : (a b : ℕ) → a ≡ b → (a == b) ≡ true
same_by a b e = grind (arith, nat_tests)

same_tests : (p q a b few : Bool) (c d r : Bool) → p ≡ true → q ≡ true → few ≡ true → d ≡ true → r ≡ true → b ≡ c → (((a && c) && d) && r) ≡ ((((p && q) && a) && b) && few)
same_tests true true a b true c true true e f g h j i = and_one ((a && c) && true) ∙ (and_one (a && c)) ∙ (ap (λ (z : Bool). a && z) (sym i) ∙ sym (and_one (a && b))) where
  and_one : (z : Bool) → (z && true) ≡ z
  and_one true = refl
  and_one false = refl
same_tests true true a b true c true false e f g h j i = absurd (cc)
same_tests true true a b true c false r e f g h j i = absurd (cc)
same_tests true true a b false c d r e f g h j i = absurd (cc)
same_tests true false a b few c d r e f g h j i = absurd (cc)
same_tests false q a b few c d r e f g h j i = absurd (cc)

joined_view : (x g : Guest) (b : Bool) → g.known ≡ b → b ≡ true → view (joined x g) ≡ grown x.seat.pages (view g)
joined_view x g b e f = by_known_join g.known g.seat x.seat.pages (e ∙ f) where
  by_known_join : (b : Bool) (s : Seat) (added : ℕ) → b ≡ true → viewed b (record s { pages = s.pages + added }) ≡ grown added (viewed b s)
  by_known_join true s added e = refl
  by_known_join false s added e = absurd (cc)

joined_seats : (h : Host) (n m : ℕ) (x : Guest) → IsKnownAt h n → slice_get h.guests m ≡ Some x → x.known ≡ true
    → seats (each_at m (λ _. arriving 0 0) (each_at n (joined x) h.guests)) ≡ each_at m (λ _. newcomer 0) (each_at n (grown (pages_at (seats h.guests) m)) (seats h.guests))
joined_seats h n m x k e f =
    seen_at m (λ _. arriving 0 0) (λ _. newcomer 0) (each_at n (joined x) h.guests) (λ _ _. refl)
    ∙ ap (λ (ss : List Seat). each_at m (λ _. newcomer 0) ss)
    (seen_at n (joined x) (grown x.seat.pages) h.guests (λ g l. joined_view x g g.known refl (k g l))
    ∙ ap (λ (p : ℕ). each_at n (grown p) (seats h.guests)) (sym (value_seen (λ s. s.pages) h.guests m x e ∙ ap (λ (b : Bool). (viewed b x.seat).pages) f)))

-- ---- one is preferred

known_after : (n : ℕ) (xs : List Guest) → ((g : Guest) → slice_get xs n ≡ Some g → g.known ≡ true) → (g : Guest) → slice_get (map (by_lender (preferring 0)) xs) n ≡ Some g → g.known ≡ true
known_after n [] k g e = absurd (cc)
known_after zero (x ∷ xs) k g e = ap (λ (y : Guest). y.known) (sym (some_is (by_lender (preferring 0) x) g e)) ∙ k x refl
known_after (suc n) (x ∷ xs) k g e = known_after n xs k g e

none_seen : (xs : List Guest) → seats (map (by_lender (preferring 0)) xs) ≡ map (preferring 0) (seats xs)
none_seen [] = refl
none_seen (x ∷ xs) = ap (λ (s : Seat). s ∷ seats (map (by_lender (preferring 0)) xs)) (none_of x.known x.seat) ∙ ap (λ (ss : List Seat). preferring 0 (view x) ∷ ss) (none_seen xs) where
  none_of : (b : Bool) (s : Seat) → viewed b (changed b (preferring 0) s) ≡ preferring 0 (viewed b s)
  none_of true s = refl
  none_of false s = refl

prefers_seats : (h : Host) (n : ℕ) → IsKnownAt h n → seats (each_at n (by_lender (preferring 1)) (map (by_lender (preferring 0)) h.guests)) ≡ preferring_at n (seats h.guests)
prefers_seats h n k = seen_at n (by_lender (preferring 1)) (preferring 1) (map (by_lender (preferring 0)) h.guests)
    (λ g e. by_known g.known (preferring 1) g.seat (known_after n h.guests k g e)) ∙ ap (λ (ss : List Seat). each_at n (preferring 1) ss) (none_seen h.guests)

pub is_the_lender : (h : Host) (n m : ℕ) → IsTheLender h n m
is_the_lender h n m = record {
  hears = λ k i g r e f. with_seats h _ _
      (seen_at n (λ (x : Guest). by_lender (hearing (next_turn (seats h.guests)) (report_at x.reports i)) x) (heard (next_turn (seats h.guests)) r) h.guests
      (λ x l. heard_by (next_turn (seats h.guests)) i x g r (some_is x g (sym l ∙ e)) f (k x l)));
  grants = λ k. either_lends (may_grant (lending h) n) h _ _ refl refl (lender_at h n granting k);
  overdraws = λ k. either_lends (may_overdraw (lending h) n) h _ _ refl refl (lender_at h n granting k);
  prefers = λ k. with_seats h _ _ (prefers_seats h n k);
  defers = λ k. with_seats h _ _ (lender_at h n (deferring (next_turn (seats h.guests))) k);
  wants = λ k pages. with_seats h _ _ (lender_at h n (λ s. record s { wanted = pages }) k);
  targets = λ k. with_seats h _ _ (lender_at h n (retargeted (room (lending h))) k);
  uncounts = λ k. with_seats h _ _ (lender_at h n uncounting k);
  arrives = λ pages ballooned. with_seats h _ _ (seen_at n (λ _. arriving pages ballooned) (λ _. starting pages ballooned) h.guests (λ _ _. refl));
  joins = λ k g x l e f w r few. ap (λ (o : Option Guest). lending (joining o n m h)) e
      ∙ (either_lends (may_join n m x) h _ (each_at m (λ _. newcomer 0) (each_at n (grown (pages_at (seats h.guests) m)) (seats h.guests))) refl refl (joined_seats h n m x k e f)
      ∙ ap (λ (b : Bool). record (lending h) { seats = if b then each_at m (λ _. newcomer 0) (each_at n (grown (pages_at (seats h.guests) m)) (seats h.guests)) else seats h.guests })
      (same_tests (nat_lt n (length (seats h.guests))) (nat_lt m (length (seats h.guests))) (not (n == m)) (value_at apart (seats h.guests) m == 0)
      (nat_lt (pages_at (seats h.guests) n + pages_at (seats h.guests) m) 4294967296) (apart x.seat == 0) (x.process.held == 0) (x.process.removed == x.seat.removed)
      (lt_by _ _ (is_there h.guests n g l)) (lt_by _ _ (is_there h.guests m x e)) (lt_by _ _ few) (zero_by _ w) (same_by _ _ r)
      (ap (λ (i : ℕ). i == 0) (value_seen apart h.guests m x e ∙ ap (λ (b : Bool). apart (viewed b x.seat)) f))));
  takes_over = λ g e. with_seats h _ _ (seen_at n (taken_up (next_turn (seats h.guests))) (λ _. queued (next_turn (seats h.guests)) (taken_over g.process.pages (snapshot g.process))) h.guests
      (λ x l. ap (λ (y : Guest). queued (next_turn (seats h.guests)) (taken_over y.process.pages (snapshot y.process))) (some_is x g (sym l ∙ e))));
  sets = λ frames. refl;
}
