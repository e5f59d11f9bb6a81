-- Once each guest that has something to give had a round, no guest waits, unless the host is short.
use Rattle.std.proofs.Common.{◌≡◌, ℕ, zero, suc, ◌+◌, ◌-◌, ◌<◌, ◌≤◌, ◌==◌, Bool, true, false, nat_lt, inl, inr, List, [], ◌∷◌, sum_by, if◌then◌else◌, Some, refl, sym, subst, ap, ◌∙◌, arith}
use Rattle.std.proofs.lemmas.List.Sums.{sum_by-cons}
use Rattle.std.specs.Prelude.{slice_get}
use Rattle.std.specs.List.{AllByRecursion}
use Rattle.vb_host.specs.declared.seat.Seat.{Seat}
use Rattle.vb_host.specs.Lending.{each_at, held_at, may_grant, owed, room, value_at, waited}
use Rattle.vb_host.specs.Line.{GrantsNone}
use Rattle.vb_host.specs.Outstanding.{AllGiveEnough, GivesEnough, HadRounds, HasRound, InEachState, IsAimed, IsAsBefore, IsGranted, IsTargeted, Move}
use Rattle.vb_host.specs.Outstanding.{all_need, all_outstanding, by_moves, has_round, moved, needs, outstanding, outstanding_at, staying}
use Rattle.vb_host.specs.Rounds.{round}
use Rattle.vb_host.specs.Seats.{asked, granting, lent, reclaimed, retargeted, waits}
use Rattle.vb_host.specs.System.{Confirms, Grants, Guest, Host, Limits, Targets, by_lender, confirms, lending, limiting, opened, seats, through, view}
use Rattle.vb_host.proofs.Budget.{opened_safe, run_true, step_true}
use Rattle.vb_host.proofs.Giving.{Same, grant_same, limited, round_aimed, round_leaves_none, round_needs, rounded, target_same_of}
use Rattle.vb_host.proofs.Lists.{all_at, all_get}
use Rattle.vb_host.proofs.Settling.{at_there, given, has_read, last_turn_of, obeyed, received, reported, sent}
use Rattle.vb_host.proofs.Sound.{IsKnown, IsTrusty, either, eq_true, lt_false, lt_true, or_either}

-- ---- lists of which one guest is changed

twice : (n : ℕ) (f k : Guest → Guest) (xs ys : List Guest) → ys ≡ each_at n k xs → each_at n f ys ≡ each_at n (λ g. f (k g)) xs
twice n f k xs ys e = ap (λ (zs : List Guest). each_at n f zs) e ∙ both n f k xs where
  both : (n : ℕ) (f k : Guest → Guest) (xs : List Guest) → each_at n f (each_at n k xs) ≡ each_at n (λ g. f (k g)) xs
  both n f k [] = refl
  both zero f k (x ∷ xs) = refl
  both (suc n) f k (x ∷ xs) = ap (λ (zs : List Guest). x ∷ zs) (both n f k xs)

-- what it has there of some value goes
sum_none : (value : Guest → ℕ) (n : ℕ) (f : Guest → Guest) (xs : List Guest) → ((g : Guest) → slice_get xs n ≡ Some g → value (f g) ≡ 0)
    → sum_by value (each_at n f xs) + value_at value xs n ≡ sum_by value xs
sum_none value n f [] h = refl
sum_none value zero f (x ∷ xs) h = omega (arith, h x refl, sum_by-cons value (f x) xs, sum_by-cons value x xs)
sum_none value (suc n) f (x ∷ xs) h = omega (arith, sum_none value n f xs h, sum_by-cons value x (each_at n f xs), sum_by-cons value x xs)

sum_less : (value : Guest → ℕ) (n : ℕ) (f : Guest → Guest) (xs : List Guest) → ((g : Guest) → slice_get xs n ≡ Some g → value (f g) ≤ value g) → sum_by value (each_at n f xs) ≤ sum_by value xs
sum_less value n f [] h = omega arith
sum_less value zero f (x ∷ xs) h = omega (arith, h x refl, sum_by-cons value (f x) xs, sum_by-cons value x xs)
sum_less value (suc n) f (x ∷ xs) h = omega (arith, sum_less value n f xs h, sum_by-cons value x (each_at n f xs), sum_by-cons value x xs)

sum_same : (value : Guest → ℕ) (n : ℕ) (f : Guest → Guest) (xs : List Guest) → ((g : Guest) → value (f g) ≡ value g) → sum_by value (each_at n f xs) ≡ sum_by value xs
sum_same value n f [] h = refl
sum_same value zero f (x ∷ xs) h = omega (arith, h x, sum_by-cons value (f x) xs, sum_by-cons value x xs)
sum_same value (suc n) f (x ∷ xs) h = omega (arith, sum_same value n f xs h, sum_by-cons value x (each_at n f xs), sum_by-cons value x xs)

-- at each place no more than before
value_less : (value : Guest → ℕ) (n k : ℕ) (f : Guest → Guest) (xs : List Guest) → ((g : Guest) → slice_get xs n ≡ Some g → value (f g) ≤ value g) → value_at value (each_at n f xs) k ≤ value_at value xs k
value_less value n k f [] h = omega arith
value_less value zero zero f (x ∷ xs) h = h x refl
value_less value zero (suc k) f (x ∷ xs) h = omega arith
value_less value (suc n) zero f (x ∷ xs) h = omega arith
value_less value (suc n) (suc k) f (x ∷ xs) h = value_less value n k f xs h

value_none : (value : Guest → ℕ) (n : ℕ) (f : Guest → Guest) (xs : List Guest) → ((g : Guest) → slice_get xs n ≡ Some g → value (f g) ≡ 0) → value_at value (each_at n f xs) n ≡ 0
value_none value n f [] h = refl
value_none value zero f (x ∷ xs) h = h x refl
value_none value (suc n) f (x ∷ xs) h = value_none value n f xs h

sum_of_none : (value : Guest → ℕ) (xs : List Guest) → ((k : ℕ) → value_at value xs k ≡ 0) → sum_by value xs ≡ 0
sum_of_none value [] h = refl
sum_of_none value (x ∷ xs) h = omega (arith, h 0, sum_of_none value xs (λ k. h (suc k)), sum_by-cons value x xs)

-- ---- a round

abbrev pub turn_of : ℕ → ℕ → Host → ℕ
turn_of n pages h = last_turn_of n pages (through (Confirms n ∷ Limits n ∷ Confirms n ∷ []) h)

abbrev confirmed : Guest → Guest
confirmed g = record g { limit = confirms g.limit }

abbrev asked_for : Guest → Guest
asked_for g = record g { limit = limiting g.known g.seat g.limit }

pub round_is : (h : Host) (n pages : ℕ) → (moved h (HasRound n pages)).guests ≡ each_at n (rounded (turn_of n pages h) pages) h.guests
round_is h n pages =
    let xs = h.guests in
    let a = twice n asked_for confirmed xs _ refl in
    let b = twice n confirmed (λ g. asked_for (confirmed g)) xs _ a in
    let c = twice n sent limited xs _ b in
    let d = twice n (obeyed 0) (λ g. sent (limited g)) xs _ c in
    let e = twice n (obeyed 1) (λ g. obeyed 0 (sent (limited g))) xs _ d in
    let f = twice n has_read (λ g. obeyed 1 (obeyed 0 (sent (limited g)))) xs _ e in
    let i = twice n (given pages) (λ g. has_read (obeyed 1 (obeyed 0 (sent (limited g))))) xs _ f in
    let j = twice n reported (λ g. given pages (has_read (obeyed 1 (obeyed 0 (sent (limited g)))))) xs _ i in
    twice n (received (turn_of n pages h)) (λ g. reported (given pages (has_read (obeyed 1 (obeyed 0 (sent (limited g))))))) xs _ j

-- what it is of the guest there
trusty_known : (g : Guest) → IsTrusty g → g.strict ≡ true → IsKnown g.process g.seat
trusty_known g t e = (t e).known

leaves_none : (h : Host) (n pages : ℕ) → AllByRecursion IsTrusty h.guests → AllByRecursion IsAimed h.guests → GivesEnough h (HasRound n pages)
    → (g : Guest) → slice_get h.guests n ≡ Some g → outstanding (rounded (turn_of n pages h) pages g) ≡ 0
leaves_none h n pages t a e g there = round_leaves_none (turn_of n pages h) pages g (trusty_known g (all_get IsTrusty h.guests n g t there)) (all_get IsAimed h.guests n g a there)
    (e (rounded (turn_of n pages h) pages g)
    (ap (λ (xs : List Guest). slice_get xs n) (round_is h n pages) ∙ at_there n (rounded (turn_of n pages h) pages) h.guests g there))

needs_less : (h : Host) (n pages : ℕ) → AllByRecursion IsTrusty h.guests → (g : Guest) → slice_get h.guests n ≡ Some g → needs (rounded (turn_of n pages h) pages g) ≤ needs g
needs_less h n pages t g there = round_needs (turn_of n pages h) pages g (trusty_known g (all_get IsTrusty h.guests n g t there))

round_pays : (h : Host) (n pages : ℕ) → AllByRecursion IsTrusty h.guests → AllByRecursion IsAimed h.guests → GivesEnough h (HasRound n pages)
    → (all_outstanding (moved h (HasRound n pages)) + outstanding_at h n ≡ all_outstanding h) × (all_need (moved h (HasRound n pages)) ≤ all_need h)
round_pays h n pages t a e = let f = rounded (turn_of n pages h) pages in (
  ap (λ (xs : List Guest). sum_by outstanding xs + outstanding_at h n) (round_is h n pages) ∙ sum_none outstanding n f h.guests (leaves_none h n pages t a e),
  subst (λ (xs : List Guest). sum_by needs xs ≤ all_need h) (sym (round_is h n pages)) (sum_less needs n f h.guests (needs_less h n pages t)),
)

pub rounds_pay : InEachState (λ h. (n pages : ℕ) → AllByRecursion IsAimed h.guests → GivesEnough h (HasRound n pages)
    → (all_outstanding (moved h (HasRound n pages)) + outstanding_at h n ≡ all_outstanding h) × (all_need (moved h (HasRound n pages)) ≤ all_need h))
rounds_pay frames overdraft sizes steps n pages a e =
    round_pays (through steps (opened frames overdraft sizes)) n pages (run_true (opened frames overdraft sizes) steps (opened_safe frames overdraft sizes).each) a e

-- ---- a grant, and a target

-- what is the same of each guest is of all
same_before : (h : Host) (n : ℕ) (f : Guest → Guest) → ((g : Guest) → Same g (f g)) → IsAsBefore h (record h { guests = each_at n f h.guests })
same_before h n f s = (sum_same outstanding n f h.guests (λ g. (s g).gives), sum_same needs n f h.guests (λ g. (s g).takes))

pub own_moves_change_none : (h : Host) (n : ℕ) → IsAsBefore h (moved h (IsGranted n)) × IsAsBefore h (moved h (IsTargeted n))
own_moves_change_none h n = (
  either (λ (k : Host). IsAsBefore h k) (may_grant (lending h) n) _ _ (λ _. same_before h n (by_lender granting) grant_same) (λ _. (refl, refl)),
  same_before h n (by_lender (retargeted (room (lending h)))) (target_same_of (room (lending h))),
)

-- ---- who waits

lent_then : (s : Seat) → lent s + asked s ≡ lent (granting s)
lent_then s = either (λ (n : ℕ). lent s + n ≡ lent (granting s)) (waits s) (lent (granting s) - lent s) 0 (λ _. omega arith) (λ f. omega (arith, lt_false 0 s.held f))

needs_these : (g : Guest) → lent (view g) + asked (view g) ≤ needs g + outstanding g
needs_these g = subst (λ (n : ℕ). n ≤ needs g + outstanding g) (sym (lent_then (view g))) (these_by (view g) (staying g)) where
  these_by : (s : Seat) (n : ℕ) → lent (granting s) ≤ s.pages + s.outside - n + (n - reclaimed (granting s))
  these_by s n = omega arith

all_these : (xs : List Guest) → owed (seats xs) + waited (seats xs) ≤ sum_by needs xs + sum_by outstanding xs
all_these [] = omega arith
all_these (g ∷ xs) = omega (
  arith,
  all_these xs,
  needs_these g,
  sum_by-cons lent (view g) (seats xs),
  sum_by-cons asked (view g) (seats xs),
  sum_by-cons needs g xs,
  sum_by-cons outstanding g xs,
)

asks_within : (xs : List Seat) (n : ℕ) → value_at asked xs n ≤ waited xs
asks_within [] n = omega arith
asks_within (x ∷ xs) zero = omega (arith, sum_by-cons asked x xs)
asks_within (x ∷ xs) (suc n) = omega (arith, asks_within xs n, sum_by-cons asked x xs)

pub waits_for_pages : (h : Host) (n : ℕ) → GrantsNone (lending h) → 0 < held_at (seats h.guests) n → h.frames < all_need h + all_outstanding h
waits_for_pages h n g w = elim g.no_room [
  | inl none ↦ absurd (omega (arith, none n, w))
  | inr first ↦ omega (arith, first.2, asks_within (seats h.guests) first.0, all_these h.guests)
]

-- ---- moves

record Keeps (h k : Host) : Type 0 where
  trusty : AllByRecursion IsTrusty k.guests
  aimed : AllByRecursion IsAimed k.guests
  frames : k.frames ≡ h.frames
  need : all_need k ≤ all_need h
  each : (i : ℕ) → outstanding_at k i ≤ outstanding_at h i

keeps_same : (h : Host) → AllByRecursion IsTrusty h.guests → AllByRecursion IsAimed h.guests → Keeps h h
keeps_same h t a = record { trusty = t; aimed = a; frames = refl; need = omega arith; each = λ i. omega arith }

keeps_then : (h k l : Host) → Keeps h k → Keeps k l → Keeps h l
keeps_then h k l a b = record {
  trusty = b.trusty;
  aimed = b.aimed;
  frames = b.frames ∙ a.frames;
  need = omega (arith, a.need, b.need);
  each = λ i. omega (arith, a.each i, b.each i);
}

le_is : (a b : ℕ) → a ≡ b → a ≤ b
le_is a b e = omega (arith, e)

le_none : (a b : ℕ) → a ≡ 0 → a ≤ b
le_none a b e = omega (arith, e)

keeps_at : (h : Host) (n : ℕ) (f : Guest → Guest) → ((g : Guest) → Same g (f g)) → AllByRecursion IsAimed h.guests → AllByRecursion IsTrusty (each_at n f h.guests)
    → Keeps h (record h { guests = each_at n f h.guests })
keeps_at h n f s a t = record {
  trusty = t;
  aimed = all_at IsAimed n f h.guests (λ g. (s g).aimed) a;
  frames = refl;
  need = le_is _ _ (same_before h n f s).1;
  each = λ i. value_less outstanding n i f h.guests (λ g _. le_is (outstanding (f g)) (outstanding g) (s g).gives);
}

round_keeps : (h : Host) (n pages : ℕ) → AllByRecursion IsTrusty h.guests → AllByRecursion IsAimed h.guests → GivesEnough h (HasRound n pages) → Keeps h (moved h (HasRound n pages))
round_keeps h n pages t a e = let f = rounded (turn_of n pages h) pages in let same = round_is h n pages in record {
  trusty = run_true h (Confirms n ∷ Limits n ∷ Confirms n ∷ round n pages) t;
  aimed = subst (λ (xs : List Guest). AllByRecursion IsAimed xs) (sym same) (all_at IsAimed n f h.guests (λ g. round_aimed (turn_of n pages h) pages g) a);
  frames = refl;
  need = (round_pays h n pages t a e).1;
  each = λ i. subst (λ (xs : List Guest). value_at outstanding xs i ≤ outstanding_at h i) (sym same)
      (value_less outstanding n i f h.guests (λ g there. le_none (outstanding (f g)) (outstanding g) (leaves_none h n pages t a e g there)));
}

grant_by : (h : Host) (n : ℕ) (b : Bool) → AllByRecursion IsTrusty h.guests → AllByRecursion IsAimed h.guests
    → AllByRecursion IsTrusty (if b then record h { guests = each_at n (by_lender granting) h.guests } else h).guests → Keeps h (if b then record h { guests = each_at n (by_lender granting) h.guests } else h)
grant_by h n true t a u = keeps_at h n (by_lender granting) grant_same a u
grant_by h n false t a u = keeps_same h t a

grant_keeps : (h : Host) (n : ℕ) → AllByRecursion IsTrusty h.guests → AllByRecursion IsAimed h.guests → Keeps h (moved h (IsGranted n))
grant_keeps h n t a = grant_by h n (may_grant (lending h) n) t a (step_true h (Grants n) t)

move_keeps : (h : Host) (m : Move) → AllByRecursion IsTrusty h.guests → AllByRecursion IsAimed h.guests → GivesEnough h m → Keeps h (moved h m)
move_keeps h (HasRound n pages) t a e = round_keeps h n pages t a e
move_keeps h (IsGranted n) t a e = grant_keeps h n t a
move_keeps h (IsTargeted n) t a e = keeps_at h n (by_lender (retargeted (room (lending h)))) (target_same_of (room (lending h))) a (step_true h (Targets n) t)

moves_keep : (h : Host) (moves : List Move) → AllByRecursion IsTrusty h.guests → AllByRecursion IsAimed h.guests → AllGiveEnough moves h → Keeps h (by_moves moves h)
moves_keep h [] t a e = keeps_same h t a
moves_keep h (m ∷ moves) t a e = let k = move_keeps h m t a e.0 in keeps_then h (moved h m) (by_moves moves (moved h m)) k (moves_keep (moved h m) moves k.trusty k.aimed e.1)

-- a guest that had a round has nothing to give any longer
round_none : (h : Host) (n pages : ℕ) → AllByRecursion IsTrusty h.guests → AllByRecursion IsAimed h.guests → GivesEnough h (HasRound n pages) → outstanding_at (moved h (HasRound n pages)) n ≡ 0
round_none h n pages t a e = ap (λ (xs : List Guest). value_at outstanding xs n) (round_is h n pages)
    ∙ value_none outstanding n (rounded (turn_of n pages h) pages) h.guests (leaves_none h n pages t a e)

none_then : (h k : Host) (i : ℕ) → Keeps h k → outstanding_at h i ≡ 0 → outstanding_at k i ≡ 0
none_then h k i s e = omega (arith, s.each i, e)

moves_none : (h : Host) (moves : List Move) (i : ℕ) → AllByRecursion IsTrusty h.guests → AllByRecursion IsAimed h.guests → AllGiveEnough moves h → has_round i moves ≡ true
    → outstanding_at (by_moves moves h) i ≡ 0
moves_none h [] i t a e r = absurd (cc)
moves_none h (HasRound n pages ∷ moves) i t a e r =
    let k = moved h (HasRound n pages) in
    let s = round_keeps h n pages t a e.0 in
    or_either (n == i) _ r
    (λ same. none_then k (by_moves moves k) i (moves_keep k moves s.trusty s.aimed e.1) (subst (λ (j : ℕ). outstanding_at k j ≡ 0) (eq_true n i same) (round_none h n pages t a e.0)))
    (λ later. moves_none k moves i s.trusty s.aimed e.1 later)
moves_none h (IsGranted n ∷ moves) i t a e r = let s = move_keeps h (IsGranted n) t a e.0 in moves_none (moved h (IsGranted n)) moves i s.trusty s.aimed e.1 r
moves_none h (IsTargeted n ∷ moves) i t a e r = let s = move_keeps h (IsTargeted n) t a e.0 in moves_none (moved h (IsTargeted n)) moves i s.trusty s.aimed e.1 r

none_or_round : (h : Host) (moves : List Move) (i : ℕ) (b : Bool) → nat_lt 0 (outstanding_at h i) ≡ b → AllByRecursion IsTrusty h.guests → AllByRecursion IsAimed h.guests → AllGiveEnough moves h
    → (0 < outstanding_at h i → has_round i moves ≡ true) → outstanding_at (by_moves moves h) i ≡ 0
none_or_round h moves i true f t a e r = moves_none h moves i t a e (r (lt_true 0 (outstanding_at h i) f))
none_or_round h moves i false f t a e r = omega (arith, lt_false 0 (outstanding_at h i) f, (moves_keep h moves t a e).each i)

pub serves : (h : Host) (moves : List Move) (n : ℕ) → AllByRecursion IsTrusty h.guests → HadRounds h moves → 0 < held_at (seats (by_moves moves h).guests) n → h.frames < all_need h
serves h moves n t r w = let k = moves_keep h moves t r.aimed r.enough in omega (
  arith,
  k.frames,
  k.need,
  waits_for_pages (by_moves moves h) n r.granted w,
  sum_of_none outstanding (by_moves moves h).guests (λ i. none_or_round h moves i _ refl t r.aimed r.enough (r.each i)),
)

pub one_round_each : InEachState (λ h. (moves : List Move) (n : ℕ) → HadRounds h moves → 0 < held_at (seats (by_moves moves h).guests) n → h.frames < all_need h)
one_round_each frames overdraft sizes steps moves n r w =
    serves (through steps (opened frames overdraft sizes)) moves n (run_true (opened frames overdraft sizes) steps (opened_safe frames overdraft sizes).each) r w
