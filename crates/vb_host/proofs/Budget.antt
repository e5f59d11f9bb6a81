-- The guests together are never lent more than the budget, and use no more than they are lent.
use Rattle.std.proofs.Common.{◌≡◌, ℕ, zero, suc, ◌+◌, ◌≤◌, Bool, true, false, ◌&&◌, nat_lt, nat_le, if◌then◌else◌, List, [], ◌∷◌, map, max, sum_by, Option, Some, None, refl, sym, subst, ◌∙◌, arith}
use Rattle.std.proofs.lemmas.List.Sums.{sum_by-cons}
use Rattle.std.specs.Prelude.{slice_get}
use Rattle.std.specs.List.{AllByRecursion, list_all}
use Rattle.vb_host.specs.declared.seat.Seat.{Seat}
use Rattle.vb_host.specs.Lending.{owed, room, each_at, value_at, test_at, held_at, is_first, may_grant, may_overdraw, next_turn}
use Rattle.vb_host.specs.Promises.{used, all_used, NeverLowers, strictly}
use Rattle.vb_host.specs.Seats.{lent, asked, waits, covers, deferring, granting, is_done, may_defer, preferring, retargeted}
use Rattle.vb_host.specs.System.{Guest, Host, seats, lending, arriving, taken_up, forgotten, opened, goes, through, hearing, report_at, view, viewed}
use Rattle.vb_host.specs.System.{changed, by_lender, limiting, lands, confirms, fails, joined, may_join, joining, Step, Does, Reports, Obeys, Hears}
use Rattle.vb_host.specs.System.{Grants, Overdraws, Wants, Sends, Limits, Lands, Confirms, Fails, Uncounts, Arrives, Joins, TakesOver, Forgets}
use Rattle.vb_host.specs.System.{Budget, Prefers, Defers, Targets, Deviates}
use Rattle.vb_host.proofs.Grants.{may_waits}
use Rattle.vb_host.proofs.Guests.{deed_true, report_true, obey_true, hear_true, grant_true, target_true, send_true, limit_true, uncount_true}
use Rattle.vb_host.proofs.Guests.{forget_true, arriving_true, taken_true, taken_lends, joined_true, joined_lends, join_facts, defer_true, prefer_true, want_true}
use Rattle.vb_host.proofs.LentBy.{asks_lend, changed_lends, covered_lends, hearing_lends, targets_lend}
use Rattle.vb_host.proofs.Lists.{all_at, all_where, all_map, its_lent, lent_all, lends_at, lent_map, lent_where, lent_seen, seen_at}
use Rattle.vb_host.proofs.Lists.{waits_at, join_lends, all_get, strictly_by}
use Rattle.vb_host.proofs.Sound.{either, and_left, and_right, or_either, IsTrusty, le_true}

abbrev pub most : Host → ℕ
most h = h.frames + h.overdraft

pub record IsSafe (h : Host) : Type 0 where
  pub each : AllByRecursion IsTrusty h.guests
  pub within : lent_all h.guests ≤ most h

-- ---- a grant

abbrev pub lets : Guest → Guest
lets g = by_lender granting g

pub viewed_covers : (g : Guest) → covers (view g) ≡ true → its_lent (by_lender granting g) ≤ its_lent g
viewed_covers g e = omega (arith, strictly_by g.strict (lent (by_lender granting g).seat) (lent g.seat) 0 (λ _. omega (arith, by_known g.known g.seat e))) where
  by_known : (b : Bool) (s : Seat) → covers (viewed b s) ≡ true → lent (changed b granting s) ≤ lent s
  by_known true s e = covered_lends s e
  by_known false s e = omega arith

cover_owes : (h : Host) (n : ℕ) → test_at covers (seats h.guests) n ≡ true → IsSafe h → lent_all (each_at n lets h.guests) ≤ most h
cover_owes h n e i = omega (arith, i.within, lent_where covers n lets h.guests viewed_covers e)

first_waits : (h : Host) (n : ℕ) → is_first (seats h.guests) n ≡ true → test_at waits (seats h.guests) n ≡ true
first_waits h n e = waits_at (seats h.guests) n (and_left (nat_lt 0 (held_at (seats h.guests) n)) _ e)

pub turn_owes : (h : Host) (n limit : ℕ) → is_first (seats h.guests) n ≡ true → nat_le (owed (seats h.guests) + value_at asked (seats h.guests) n) limit ≡ true
    → lent_all (each_at n lets h.guests) ≤ limit
turn_owes h n limit e f = omega (arith, le_true _ _ f, seen_at waits asked n granting h.guests asks_lend (first_waits h n e))

grant_owes : (h : Host) (n : ℕ) → may_grant (lending h) n ≡ true → IsSafe h → lent_all (each_at n lets h.guests) ≤ most h
grant_owes h n e i = or_either (test_at covers (seats h.guests) n) _ e (λ c. cover_owes h n c i)
    (λ t. omega (arith, turn_owes h n h.frames (and_left (is_first (seats h.guests) n) _ t) (and_right (is_first (seats h.guests) n) _ t)))

pub draws_first : (h : Host) (n : ℕ) → may_overdraw (lending h) n ≡ true → is_first (seats h.guests) n ≡ true
draws_first h n e = and_left (is_first (seats h.guests) n) _ (and_left (is_first (seats h.guests) n && list_all is_done (seats h.guests)) _ e)

pub overdraw_room : (h : Host) (n : ℕ) → may_overdraw (lending h) n ≡ true → nat_le (owed (seats h.guests) + value_at asked (seats h.guests) n) (most h) ≡ true
overdraw_room h n e = and_right (is_first (seats h.guests) n && list_all is_done (seats h.guests)) _ e

overdraws_owe : (h : Host) (n : ℕ) → may_overdraw (lending h) n ≡ true → lent_all (each_at n lets h.guests) ≤ most h
overdraws_owe h n e = turn_owes h n (most h) (draws_first h n e) (overdraw_room h n e)

-- ---- a target

-- No more than there is room for; and where there is none, nothing more, even where more is lent
-- than the frames.
retargets_lend : (h : Host) (n : ℕ) → AllByRecursion IsTrusty h.guests → lent_all (each_at n (by_lender (retargeted (room (lending h)))) h.guests) ≤ lent_all h.guests + room (lending h)
retargets_lend h n a = lends_at IsTrusty (room (lending h)) n (by_lender (retargeted (room (lending h)))) h.guests
    (λ g _. strictly_by g.strict _ _ (room (lending h)) (λ _. changed_lends g.known (retargeted (room (lending h))) g.seat (room (lending h)) (targets_lend (room (lending h)) g.seat))) a

pub target_owes : (limit : ℕ) (h : Host) (n k : ℕ) → h.frames ≤ limit → room (lending h) ≡ k → AllByRecursion IsTrusty h.guests
    → lent_all (each_at n (by_lender (retargeted (room (lending h)))) h.guests) ≤ max limit (lent_all h.guests)
target_owes limit h n zero l e a = omega (arith, e, retargets_lend h n a)
target_owes limit h n (suc k) l e a = omega (arith, e, l, lent_seen h.guests, retargets_lend h n a)

-- ---- each step

-- no budget is lowered by this step, and no guest is uncounted
abbrev Raises : ℕ → Step → Type 0
Raises frames (Budget more) = frames ≤ more
Raises frames (Uncounts n) = ⊥
Raises frames _ = Unit {0}

either_guests : (b : Bool) (h k : Host) → (b ≡ true → AllByRecursion IsTrusty k.guests) → AllByRecursion IsTrusty h.guests → AllByRecursion IsTrusty (if b then k else h).guests
either_guests true h k f a = f refl
either_guests false h k f a = a

-- what is true of each guest stays so, whatever becomes of the budget
pub joins_true : (h : Host) (n m : ℕ) (o : Option Guest) → slice_get h.guests m ≡ o → AllByRecursion IsTrusty h.guests → AllByRecursion IsTrusty (joining o n m h).guests
joins_true h n m None e a = a
joins_true h n m (Some x) e a = either_guests (may_join n m x) h _
    (λ t. all_at IsTrusty m (λ _. arriving 0 0) (each_at n (joined x) h.guests) (λ _ _ _. arriving_true 0 0) (all_at IsTrusty n (joined x) h.guests
    (λ g i s. joined_true x g (join_facts n m x t).removed (all_get IsTrusty h.guests m x a e (and_right g.strict x.strict s)) (i (and_left g.strict x.strict s))) a)) a

joined_strictly : (b c : Bool) (x y z : ℕ) → x ≤ y + z → strictly (b && c) x ≤ strictly b y + strictly c z
joined_strictly true true x y z l = l
joined_strictly true false x y z l = omega arith
joined_strictly false c x y z l = omega arith

pub joins_lend : (limit : ℕ) (h : Host) (n m : ℕ) (o : Option Guest) → slice_get h.guests m ≡ o → lent_all h.guests ≤ limit → lent_all (joining o n m h).guests ≤ limit
joins_lend limit h n m None e l = l
joins_lend limit h n m (Some x) e l = either (λ (k : Host). lent_all k.guests ≤ limit) (may_join n m x) _ h
    (λ t. let f = join_facts n m x t in omega (arith, l, join_lends h.guests n m x (joined x) f.differ e (λ g. joined_strictly g.strict x.strict _ _ _ (joined_lends x g f.lent_all)))) (λ _. l)

pub joins_same : (h : Host) (n m : ℕ) (o : Option Guest) → ((joining o n m h).frames ≡ h.frames) × ((joining o n m h).overdraft ≡ h.overdraft)
joins_same h n m None = (refl, refl)
joins_same h n m (Some x) = either (λ (k : Host). (k.frames ≡ h.frames) × (k.overdraft ≡ h.overdraft)) (may_join n m x) _ h (λ _. (refl, refl)) (λ _. (refl, refl))

pub prefers_true : (h : Host) → AllByRecursion IsTrusty h.guests → AllByRecursion IsTrusty (map (by_lender (preferring 0)) h.guests)
prefers_true h a = all_map IsTrusty (by_lender (preferring 0)) h.guests (λ g t e. prefer_true 0 g (t e)) a

pub step_true : (h : Host) (step : Step) → AllByRecursion IsTrusty h.guests → AllByRecursion IsTrusty (goes h step).guests
step_true h (Does n deed) a = all_at IsTrusty n _ h.guests (λ g t e. deed_true deed g (t e)) a
step_true h (Deviates n p reports) a = all_at IsTrusty n _ h.guests (λ g t e. absurd (cc)) a
step_true h (Reports n) a = all_at IsTrusty n _ h.guests (λ g t e. report_true g (t e)) a
step_true h (Obeys n k) a = all_at IsTrusty n _ h.guests (λ g t e. obey_true k g (t e)) a
step_true h (Hears n k) a = all_at IsTrusty n _ h.guests (λ g t e. hear_true (next_turn (seats h.guests)) k g (t e)) a
step_true h (Grants n) a = either_guests (may_grant (lending h) n) h _ (λ e. all_where IsTrusty waits n lets h.guests (λ g w t s. grant_true g w (t s)) (may_waits (lending h) n e) a) a
step_true h (Overdraws n) a = either_guests (may_overdraw (lending h) n) h _ (λ e. all_where IsTrusty waits n lets h.guests (λ g w t s. grant_true g w (t s)) (first_waits h n (draws_first h n e)) a) a
step_true h (Prefers n) a = all_at IsTrusty n (by_lender (preferring 1)) (map (by_lender (preferring 0)) h.guests) (λ g t e. prefer_true 1 g (t e)) (prefers_true h a)
step_true h (Defers n) a = all_at IsTrusty n _ h.guests (λ g t e. defer_true (next_turn (seats h.guests)) g (t e)) a
step_true h (Wants n pages) a = all_at IsTrusty n _ h.guests (λ g t e. want_true pages g (t e)) a
step_true h (Targets n) a = all_at IsTrusty n _ h.guests (λ g t e. target_true (room (lending h)) g (t e)) a
step_true h (Sends n) a = all_at IsTrusty n _ h.guests (λ g t e. send_true g (t e)) a
step_true h (Limits n) a = all_at IsTrusty n _ h.guests (λ g t e. limit_true (λ x. limiting x.known x.seat x.limit) g (t e)) a
step_true h (Lands n) a = all_at IsTrusty n _ h.guests (λ g t e. limit_true (λ x. lands x.limit) g (t e)) a
step_true h (Confirms n) a = all_at IsTrusty n _ h.guests (λ g t e. limit_true (λ x. confirms x.limit) g (t e)) a
step_true h (Fails n) a = all_at IsTrusty n _ h.guests (λ g t e. limit_true (λ x. fails x.limit) g (t e)) a
step_true h (Uncounts n) a = all_at IsTrusty n _ h.guests (λ g t e. uncount_true g (t e)) a
step_true h (Arrives n pages ballooned) a = all_at IsTrusty n (λ _. arriving pages ballooned) h.guests (λ _ _ _. arriving_true pages ballooned) a
step_true h (Joins n m) a = joins_true h n m (slice_get h.guests m) refl a
step_true h (TakesOver n) a = all_at IsTrusty n _ h.guests (λ g t e. taken_true (next_turn (seats h.guests)) g (t e)) a
step_true h Forgets a = all_map IsTrusty forgotten h.guests (λ g t e. forget_true g (t e)) a
step_true h (Budget frames) a = a

lends_no_more : (h : Host) (n : ℕ) (f : Guest → Guest) → ((g : Guest) → IsTrusty g → its_lent (f g) ≤ its_lent g) → IsSafe h
    → lent_all (each_at n f h.guests) ≤ most h
lends_no_more h n f l i = omega (arith, i.within, lends_at IsTrusty 0 n f h.guests (λ g t. omega (arith, l g t)) i.each)

either_owed : (b : Bool) (h k : Host) → (b ≡ true → lent_all k.guests ≤ most k) → lent_all h.guests ≤ most h → lent_all (if b then k else h).guests ≤ most (if b then k else h)
either_owed true h k f a = f refl
either_owed false h k f a = a

pub hears_no_more : (turn i : ℕ) (g : Guest) → IsTrusty g → its_lent (by_lender (hearing turn (report_at g.reports i)) g) ≤ its_lent g
hears_no_more turn i g t = omega (arith, strictly_by g.strict _ (lent g.seat) 0 (λ _. changed_lends g.known (hearing turn (report_at g.reports i)) g.seat 0 (omega (arith, hearing_lends turn g.reports i g.seat))))

pub wants_no_more : (pages : ℕ) (g : Guest) → IsTrusty g → its_lent (by_lender (λ s. record s { wanted = pages }) g) ≤ its_lent g
wants_no_more pages g t = omega (arith, strictly_by g.strict _ (lent g.seat) 0 (λ _. changed_lends g.known (λ s. record s { wanted = pages }) g.seat 0 (omega arith)))

pub defers_no_more : (turn : ℕ) (g : Guest) → IsTrusty g → its_lent (by_lender (deferring turn) g) ≤ its_lent g
defers_no_more turn g t = omega (
  arith,
  strictly_by g.strict _ (lent g.seat) 0 (λ _. changed_lends g.known (deferring turn) g.seat 0
      (either (λ (x : Seat). lent x ≤ lent g.seat + 0) (may_defer g.seat) _ _ (λ _. omega arith) (λ _. omega arith))),
)

prefers_no_more : (preferred : ℕ) (g : Guest) → its_lent (by_lender (preferring preferred) g) ≤ its_lent g
prefers_no_more preferred g = omega (arith, strictly_by g.strict _ (lent g.seat) 0 (λ _. changed_lends g.known (preferring preferred) g.seat 0 (omega arith)))

pub prefers_lend : (h : Host) (n : ℕ) → AllByRecursion IsTrusty h.guests → lent_all (goes h (Prefers n)).guests ≤ lent_all h.guests
prefers_lend h n a = omega (
  arith,
  lends_at IsTrusty 0 n (by_lender (preferring 1)) (map (by_lender (preferring 0)) h.guests) (λ g _. omega (arith, prefers_no_more 1 g)) (prefers_true h a),
  lent_map IsTrusty (by_lender (preferring 0)) h.guests (λ g _. prefers_no_more 0 g) a,
)

-- also of a guest that isn't strict, which counts for nothing here
pub takes_no_more : (turn : ℕ) (g : Guest) → IsTrusty g → its_lent (taken_up turn g) ≤ its_lent g
takes_no_more turn g t = omega (arith, strictly_by g.strict (lent (taken_up turn g).seat) (lent g.seat) 0 (λ e. omega (arith, taken_lends turn g (t e))))

step_within : (h : Host) (step : Step) → Raises h.frames step → IsSafe h → lent_all (goes h step).guests ≤ most (goes h step)
step_within h (Does n deed) r i = lends_no_more h n _ (λ g _. omega arith) i
step_within h (Deviates n p reports) r i = lends_no_more h n _ (λ g _. omega arith) i
step_within h (Reports n) r i = lends_no_more h n _ (λ g _. omega arith) i
step_within h (Obeys n k) r i = lends_no_more h n _ (λ g _. omega arith) i
step_within h (Hears n k) r i = lends_no_more h n _ (hears_no_more (next_turn (seats h.guests)) k) i
step_within h (Grants n) r i = either_owed (may_grant (lending h) n) h _ (λ e. grant_owes h n e i) i.within
step_within h (Overdraws n) r i = either_owed (may_overdraw (lending h) n) h _ (λ e. overdraws_owe h n e) i.within
step_within h (Prefers n) r i = omega (arith, i.within, prefers_lend h n i.each)
step_within h (Defers n) r i = lends_no_more h n _ (defers_no_more (next_turn (seats h.guests))) i
step_within h (Wants n pages) r i = lends_no_more h n _ (wants_no_more pages) i
step_within h (Targets n) r i = omega (arith, i.within, target_owes (most h) h n (room (lending h)) (omega arith) refl i.each)
step_within h (Sends n) r i = lends_no_more h n _ (λ g _. omega arith) i
step_within h (Limits n) r i = lends_no_more h n _ (λ g _. omega arith) i
step_within h (Lands n) r i = lends_no_more h n _ (λ g _. omega arith) i
step_within h (Confirms n) r i = lends_no_more h n _ (λ g _. omega arith) i
step_within h (Fails n) r i = lends_no_more h n _ (λ g _. omega arith) i
step_within h (Uncounts n) r i = absurd r
step_within h (Arrives n pages ballooned) r i = lends_no_more h n (λ _. arriving pages ballooned) (λ g _. omega arith) i
step_within h (Joins n m) r i = let s = joins_same h n m (slice_get h.guests m) in omega (arith, s, joins_lend (most h) h n m (slice_get h.guests m) refl i.within)
step_within h (TakesOver n) r i = lends_no_more h n (taken_up (next_turn (seats h.guests))) (takes_no_more (next_turn (seats h.guests))) i
step_within h Forgets r i = omega (arith, i.within, lent_map IsTrusty forgotten h.guests (λ g _. omega arith) i.each)
step_within h (Budget frames) r i = omega (arith, i.within, r)

pub step_safe : (h : Host) (step : Step) → Raises h.frames step → IsSafe h → IsSafe (goes h step)
step_safe h step r i = record { each = step_true h step i.each; within = step_within h step r i }

-- ---- each run

opens : (sizes : List ℕ) → AllByRecursion IsTrusty (map (λ pages. arriving pages 0) sizes)
opens [] = tt
opens (pages ∷ sizes) = (λ _. arriving_true pages 0, opens sizes)

opens_owe : (sizes : List ℕ) → lent_all (map (λ pages. arriving pages 0) sizes) ≡ 0
opens_owe [] = refl
opens_owe (pages ∷ sizes) = omega (arith, opens_owe sizes, sum_by-cons its_lent (arriving pages 0) (map (λ pages. arriving pages 0) sizes))

pub opened_safe : (frames overdraft : ℕ) (sizes : List ℕ) → IsSafe (opened frames overdraft sizes)
opened_safe frames overdraft sizes = record { each = opens sizes; within = omega (arith, opens_owe sizes) }

pub run_true : (h : Host) (steps : List Step) → AllByRecursion IsTrusty h.guests → AllByRecursion IsTrusty (through steps h).guests
run_true h [] a = a
run_true h (step ∷ steps) a = run_true (goes h step) steps (step_true h step a)

grants_lower : (h : Host) (n : ℕ) (steps : List Step) → NeverLowers h.frames steps → NeverLowers (goes h (Grants n)).frames steps
grants_lower h n steps r = either (λ (x : Host). NeverLowers x.frames steps) (may_grant (lending h) n) _ _ (λ _. r) (λ _. r)

overdraws_lower : (h : Host) (n : ℕ) (steps : List Step) → NeverLowers h.frames steps → NeverLowers (goes h (Overdraws n)).frames steps
overdraws_lower h n steps r = either (λ (x : Host). NeverLowers x.frames steps) (may_overdraw (lending h) n) _ _ (λ _. r) (λ _. r)

pub run_safe : (h : Host) (steps : List Step) → NeverLowers h.frames steps → IsSafe h → IsSafe (through steps h)
run_safe h [] r i = i
run_safe h (Does n deed ∷ steps) r i = run_safe (goes h (Does n deed)) steps r (step_safe h (Does n deed) tt i)
run_safe h (Deviates n p reports ∷ steps) r i = run_safe (goes h (Deviates n p reports)) steps r (step_safe h (Deviates n p reports) tt i)
run_safe h (Reports n ∷ steps) r i = run_safe (goes h (Reports n)) steps r (step_safe h (Reports n) tt i)
run_safe h (Obeys n k ∷ steps) r i = run_safe (goes h (Obeys n k)) steps r (step_safe h (Obeys n k) tt i)
run_safe h (Hears n k ∷ steps) r i = run_safe (goes h (Hears n k)) steps r (step_safe h (Hears n k) tt i)
run_safe h (Grants n ∷ steps) r i = run_safe (goes h (Grants n)) steps (grants_lower h n steps r) (step_safe h (Grants n) tt i)
run_safe h (Overdraws n ∷ steps) r i = run_safe (goes h (Overdraws n)) steps (overdraws_lower h n steps r) (step_safe h (Overdraws n) tt i)
run_safe h (Prefers n ∷ steps) r i = run_safe (goes h (Prefers n)) steps r (step_safe h (Prefers n) tt i)
run_safe h (Defers n ∷ steps) r i = run_safe (goes h (Defers n)) steps r (step_safe h (Defers n) tt i)
run_safe h (Wants n pages ∷ steps) r i = run_safe (goes h (Wants n pages)) steps r (step_safe h (Wants n pages) tt i)
run_safe h (Targets n ∷ steps) r i = run_safe (goes h (Targets n)) steps r (step_safe h (Targets n) tt i)
run_safe h (Sends n ∷ steps) r i = run_safe (goes h (Sends n)) steps r (step_safe h (Sends n) tt i)
run_safe h (Limits n ∷ steps) r i = run_safe (goes h (Limits n)) steps r (step_safe h (Limits n) tt i)
run_safe h (Lands n ∷ steps) r i = run_safe (goes h (Lands n)) steps r (step_safe h (Lands n) tt i)
run_safe h (Confirms n ∷ steps) r i = run_safe (goes h (Confirms n)) steps r (step_safe h (Confirms n) tt i)
run_safe h (Fails n ∷ steps) r i = run_safe (goes h (Fails n)) steps r (step_safe h (Fails n) tt i)
run_safe h (Uncounts n ∷ steps) r i = absurd r
run_safe h (Arrives n pages ballooned ∷ steps) r i = run_safe (goes h (Arrives n pages ballooned)) steps r (step_safe h (Arrives n pages ballooned) tt i)
run_safe h (Joins n m ∷ steps) r i = run_safe (goes h (Joins n m)) steps (subst (λ (k : ℕ). NeverLowers k steps) (sym (joins_same h n m (slice_get h.guests m)).0) r) (step_safe h (Joins n m) tt i)
run_safe h (TakesOver n ∷ steps) r i = run_safe (goes h (TakesOver n)) steps r (step_safe h (TakesOver n) tt i)
run_safe h (Forgets ∷ steps) r i = run_safe (goes h Forgets) steps r (step_safe h Forgets tt i)
run_safe h (Budget more ∷ steps) r i = run_safe (goes h (Budget more)) steps r.1 (step_safe h (Budget more) r.0 i)

-- ---- what the guests use

abbrev its_used : Guest → ℕ
its_used g = strictly g.strict (used g)

uses_its : (g : Guest) → IsTrusty g → its_used g ≤ its_lent g
uses_its g t = omega (arith, strictly_by g.strict (used g) (lent g.seat) 0 (λ e. let m = (t e).known.memory in omega (arith, m.pages, m.used, m.removed, m.balloon)))

pub uses_lent : (xs : List Guest) → AllByRecursion IsTrusty xs → sum_by its_used xs ≤ lent_all xs
uses_lent [] a = omega arith
uses_lent (g ∷ xs) a = omega (arith, uses_lent xs a.1, uses_its g a.0, sum_by-cons its_used g xs, sum_by-cons its_lent g xs)

draft_stays : (h : Host) (step : Step) → (goes h step).overdraft ≡ h.overdraft
draft_stays h (Does n deed) = refl
draft_stays h (Deviates n p reports) = refl
draft_stays h (Reports n) = refl
draft_stays h (Obeys n k) = refl
draft_stays h (Hears n k) = refl
draft_stays h (Grants n) = either (λ (x : Host). x.overdraft ≡ h.overdraft) (may_grant (lending h) n) _ _ (λ _. refl) (λ _. refl)
draft_stays h (Overdraws n) = either (λ (x : Host). x.overdraft ≡ h.overdraft) (may_overdraw (lending h) n) _ _ (λ _. refl) (λ _. refl)
draft_stays h (Prefers n) = refl
draft_stays h (Defers n) = refl
draft_stays h (Wants n pages) = refl
draft_stays h (Targets n) = refl
draft_stays h (Sends n) = refl
draft_stays h (Limits n) = refl
draft_stays h (Lands n) = refl
draft_stays h (Confirms n) = refl
draft_stays h (Fails n) = refl
draft_stays h (Uncounts n) = refl
draft_stays h (Arrives n pages ballooned) = refl
draft_stays h (Joins n m) = (joins_same h n m (slice_get h.guests m)).1
draft_stays h (TakesOver n) = refl
draft_stays h Forgets = refl
draft_stays h (Budget frames) = refl

run_draft : (h : Host) (steps : List Step) → (through steps h).overdraft ≡ h.overdraft
run_draft h [] = refl
run_draft h (step ∷ steps) = run_draft (goes h step) steps ∙ draft_stays h step

pub budget_holds : (frames overdraft : ℕ) (sizes : List ℕ) (steps : List Step) → NeverLowers frames steps
    → all_used (through steps (opened frames overdraft sizes)) ≤ (through steps (opened frames overdraft sizes)).frames + overdraft
budget_holds frames overdraft sizes steps r = let i = run_safe (opened frames overdraft sizes) steps r (opened_safe frames overdraft sizes) in
    omega (arith, i.within, run_draft (opened frames overdraft sizes) steps, uses_lent (through steps (opened frames overdraft sizes)).guests i.each)
