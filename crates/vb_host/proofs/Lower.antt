-- From any state on: what is lent falls to the budget, or stays as it was, whatever was lowered before.
use Rattle.std.proofs.Common.{◌≡◌, ℕ, ◌+◌, ◌≤◌, Bool, true, false, if◌then◌else◌, List, [], ◌∷◌, max, refl, arith}
use Rattle.std.specs.Prelude.{slice_get}
use Rattle.std.specs.List.{AllByRecursion}
use Rattle.vb_host.specs.Lending.{each_at, test_at, is_first, may_grant, may_overdraw, next_turn, room}
use Rattle.vb_host.specs.Promises.{all_used, all_lent, IsOrdinary, PaysBack}
use Rattle.vb_host.specs.Seats.{covers}
use Rattle.vb_host.specs.System.{Guest, Host, seats, lending, arriving, taken_up, forgotten, opened, goes, through, Step, Does, Reports, Obeys, Hears}
use Rattle.vb_host.specs.System.{Grants, Overdraws, Wants, Sends, Limits, Lands, Confirms, Fails, Uncounts, Arrives, Joins, TakesOver, Forgets}
use Rattle.vb_host.specs.System.{Budget, Prefers, Defers, Targets, Deviates}
use Rattle.vb_host.proofs.Budget.{most, lets, viewed_covers, turn_owes, draws_first, overdraw_room, hears_no_more, step_true, opened_safe, run_true}
use Rattle.vb_host.proofs.Budget.{uses_lent, joins_lend, joins_same, target_owes, prefers_lend, defers_no_more, wants_no_more, takes_no_more}
use Rattle.vb_host.proofs.Lists.{lent_all, lends_at, lent_map, lent_where, its_lent}
use Rattle.vb_host.proofs.Sound.{and_left, and_right, or_either, IsTrusty}

-- what a step may lend up to
abbrev Limits_to : ℕ → Host → Step → Type 0
Limits_to most_lent h (Overdraws n) = h.frames + h.overdraft ≤ most_lent
Limits_to most_lent h (Budget frames) = ⊥
Limits_to most_lent h (Uncounts n) = ⊥
Limits_to most_lent h _ = Unit {0}

at_most : (limit : ℕ) (h : Host) (n : ℕ) (f : Guest → Guest) → ((g : Guest) → IsTrusty g → its_lent (f g) ≤ its_lent g) → AllByRecursion IsTrusty h.guests
    → lent_all (each_at n f h.guests) ≤ max limit (lent_all h.guests)
at_most limit h n f l a = omega (arith, lends_at IsTrusty 0 n f h.guests (λ g t. omega (arith, l g t)) a)

either_lent : (limit : ℕ) (b : Bool) (h k : Host) → (b ≡ true → lent_all k.guests ≤ limit) → lent_all h.guests ≤ limit → lent_all (if b then k else h).guests ≤ limit
either_lent limit true h k f a = f refl
either_lent limit false h k f a = a

grant_lends : (limit : ℕ) (h : Host) (n : ℕ) → h.frames ≤ limit → may_grant (lending h) n ≡ true → AllByRecursion IsTrusty h.guests → lent_all (each_at n lets h.guests) ≤ max limit (lent_all h.guests)
grant_lends limit h n l e a = or_either (test_at covers (seats h.guests) n) _ e
    (λ c. omega (arith, lent_where covers n lets h.guests viewed_covers c))
    (λ t. omega (arith, l, turn_owes h n h.frames (and_left (is_first (seats h.guests) n) _ t) (and_right (is_first (seats h.guests) n) _ t)))

step_lends : (limit : ℕ) (h : Host) (step : Step) → h.frames ≤ limit → Limits_to limit h step → AllByRecursion IsTrusty h.guests
    → lent_all (goes h step).guests ≤ max limit (lent_all h.guests)
step_lends limit h (Does n deed) l r a = at_most limit h n _ (λ g _. omega arith) a
step_lends limit h (Deviates n p reports) l r a = at_most limit h n _ (λ g _. omega arith) a
step_lends limit h (Reports n) l r a = at_most limit h n _ (λ g _. omega arith) a
step_lends limit h (Obeys n k) l r a = at_most limit h n _ (λ g _. omega arith) a
step_lends limit h (Hears n k) l r a = at_most limit h n _ (hears_no_more (next_turn (seats h.guests)) k) a
step_lends limit h (Grants n) l r a = either_lent (max limit (lent_all h.guests)) (may_grant (lending h) n) h _ (λ e. grant_lends limit h n l e a) (omega arith)
step_lends limit h (Overdraws n) l r a = either_lent (max limit (lent_all h.guests)) (may_overdraw (lending h) n) h _
    (λ e. omega (arith, r, turn_owes h n (most h) (draws_first h n e) (overdraw_room h n e))) (omega arith)
step_lends limit h (Prefers n) l r a = omega (arith, prefers_lend h n a)
step_lends limit h (Defers n) l r a = at_most limit h n _ (defers_no_more (next_turn (seats h.guests))) a
step_lends limit h (Wants n pages) l r a = at_most limit h n _ (wants_no_more pages) a
step_lends limit h (Targets n) l r a = target_owes limit h n (room (lending h)) l refl a
step_lends limit h (Sends n) l r a = at_most limit h n _ (λ g _. omega arith) a
step_lends limit h (Limits n) l r a = at_most limit h n _ (λ g _. omega arith) a
step_lends limit h (Lands n) l r a = at_most limit h n _ (λ g _. omega arith) a
step_lends limit h (Confirms n) l r a = at_most limit h n _ (λ g _. omega arith) a
step_lends limit h (Fails n) l r a = at_most limit h n _ (λ g _. omega arith) a
step_lends limit h (Uncounts n) l r a = absurd r
step_lends limit h (Arrives n pages ballooned) l r a = at_most limit h n (λ _. arriving pages ballooned) (λ g _. omega arith) a
step_lends limit h (Joins n m) l r a = joins_lend (max limit (lent_all h.guests)) h n m (slice_get h.guests m) refl (omega arith)
step_lends limit h (TakesOver n) l r a = at_most limit h n (taken_up (next_turn (seats h.guests))) (takes_no_more (next_turn (seats h.guests))) a
step_lends limit h Forgets l r a = omega (arith, lent_map IsTrusty forgotten h.guests (λ g _. omega arith) a)
step_lends limit h (Budget frames) l r a = absurd r

-- the budget and the overdraft stay
same_of : (b : Bool) (h k : Host) → (k.frames ≡ h.frames) × (k.overdraft ≡ h.overdraft) → ((if b then k else h).frames ≡ h.frames) × ((if b then k else h).overdraft ≡ h.overdraft)
same_of true h k e = e
same_of false h k e = (refl, refl)

budget_stays : (limit : ℕ) (h : Host) (step : Step) → Limits_to limit h step → ((goes h step).frames ≡ h.frames) × ((goes h step).overdraft ≡ h.overdraft)
budget_stays limit h (Does n deed) r = (refl, refl)
budget_stays limit h (Deviates n p reports) r = (refl, refl)
budget_stays limit h (Reports n) r = (refl, refl)
budget_stays limit h (Obeys n k) r = (refl, refl)
budget_stays limit h (Hears n k) r = (refl, refl)
budget_stays limit h (Grants n) r = same_of (may_grant (lending h) n) h _ (refl, refl)
budget_stays limit h (Overdraws n) r = same_of (may_overdraw (lending h) n) h _ (refl, refl)
budget_stays limit h (Prefers n) r = (refl, refl)
budget_stays limit h (Defers n) r = (refl, refl)
budget_stays limit h (Wants n pages) r = (refl, refl)
budget_stays limit h (Targets n) r = (refl, refl)
budget_stays limit h (Sends n) r = (refl, refl)
budget_stays limit h (Limits n) r = (refl, refl)
budget_stays limit h (Lands n) r = (refl, refl)
budget_stays limit h (Confirms n) r = (refl, refl)
budget_stays limit h (Fails n) r = (refl, refl)
budget_stays limit h (Uncounts n) r = absurd r
budget_stays limit h (Arrives n pages ballooned) r = (refl, refl)
budget_stays limit h (Joins n m) r = joins_same h n m (slice_get h.guests m)
budget_stays limit h (TakesOver n) r = (refl, refl)
budget_stays limit h Forgets r = (refl, refl)
budget_stays limit h (Budget frames) r = absurd r

ordinary_limits : (h : Host) (step : Step) → IsOrdinary step → Limits_to (h.frames + h.overdraft) h step
ordinary_limits h (Overdraws n) o = omega arith
ordinary_limits h (Budget frames) o = absurd o
ordinary_limits h (Uncounts n) o = absurd o
ordinary_limits h (Does n deed) o = tt
ordinary_limits h (Deviates n p reports) o = tt
ordinary_limits h (Reports n) o = tt
ordinary_limits h (Obeys n k) o = tt
ordinary_limits h (Hears n k) o = tt
ordinary_limits h (Grants n) o = tt
ordinary_limits h (Prefers n) o = tt
ordinary_limits h (Defers n) o = tt
ordinary_limits h (Wants n pages) o = tt
ordinary_limits h (Targets n) o = tt
ordinary_limits h (Sends n) o = tt
ordinary_limits h (Limits n) o = tt
ordinary_limits h (Lands n) o = tt
ordinary_limits h (Confirms n) o = tt
ordinary_limits h (Fails n) o = tt
ordinary_limits h (Arrives n pages ballooned) o = tt
ordinary_limits h (Joins n m) o = tt
ordinary_limits h (TakesOver n) o = tt
ordinary_limits h Forgets o = tt

paying_limits : (h : Host) (step : Step) → PaysBack step → Limits_to h.frames h step
paying_limits h (Overdraws n) o = absurd o
paying_limits h (Budget frames) o = absurd o
paying_limits h (Uncounts n) o = absurd o
paying_limits h (Does n deed) o = tt
paying_limits h (Deviates n p reports) o = tt
paying_limits h (Reports n) o = tt
paying_limits h (Obeys n k) o = tt
paying_limits h (Hears n k) o = tt
paying_limits h (Grants n) o = tt
paying_limits h (Prefers n) o = tt
paying_limits h (Defers n) o = tt
paying_limits h (Wants n pages) o = tt
paying_limits h (Targets n) o = tt
paying_limits h (Sends n) o = tt
paying_limits h (Limits n) o = tt
paying_limits h (Lands n) o = tt
paying_limits h (Confirms n) o = tt
paying_limits h (Fails n) o = tt
paying_limits h (Arrives n pages ballooned) o = tt
paying_limits h (Joins n m) o = tt
paying_limits h (TakesOver n) o = tt
paying_limits h Forgets o = tt

run_ordinary : (h : Host) (steps : List Step) → AllByRecursion IsOrdinary steps → AllByRecursion IsTrusty h.guests → lent_all (through steps h).guests ≤ max (h.frames + h.overdraft) (lent_all h.guests)
run_ordinary h [] o a = omega arith
run_ordinary h (step ∷ steps) o a = let r = ordinary_limits h step o.0 in
    omega (arith, run_ordinary (goes h step) steps o.1 (step_true h step a), budget_stays (h.frames + h.overdraft) h step r, step_lends (h.frames + h.overdraft) h step (omega arith) r a)

run_paying : (h : Host) (steps : List Step) → AllByRecursion PaysBack steps → AllByRecursion IsTrusty h.guests → lent_all (through steps h).guests ≤ max h.frames (lent_all h.guests)
run_paying h [] o a = omega arith
run_paying h (step ∷ steps) o a = let r = paying_limits h step o.0 in
    omega (arith, run_paying (goes h step) steps o.1 (step_true h step a), budget_stays h.frames h step r, step_lends h.frames h step (omega arith) r a)

pub never_more : (frames overdraft : ℕ) (sizes : List ℕ) (before after : List Step) → AllByRecursion IsOrdinary after
    → all_used (through after (through before (opened frames overdraft sizes)))
    ≤ max ((through before (opened frames overdraft sizes)).frames + (through before (opened frames overdraft sizes)).overdraft) (all_lent (through before (opened frames overdraft sizes)))
never_more frames overdraft sizes before after o =
    let h = through before (opened frames overdraft sizes) in
    let a = run_true (opened frames overdraft sizes) before (opened_safe frames overdraft sizes).each in
    omega (arith, run_ordinary h after o a, uses_lent (through after h).guests (run_true h after a))

pub pays_back : (frames overdraft : ℕ) (sizes : List ℕ) (before after : List Step) → AllByRecursion PaysBack after
    → all_used (through after (through before (opened frames overdraft sizes)))
    ≤ max (through before (opened frames overdraft sizes)).frames (all_lent (through before (opened frames overdraft sizes)))
pays_back frames overdraft sizes before after o =
    let h = through before (opened frames overdraft sizes) in
    let a = run_true (opened frames overdraft sizes) before (opened_safe frames overdraft sizes).each in
    omega (arith, run_paying h after o a, uses_lent (through after h).guests (run_true h after a))
