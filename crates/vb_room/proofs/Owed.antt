-- What a host has lent together, after each event of its lender.
use Rattle.std.proofs.Common.{◌≡◌, ◌≢◌, inl, inr, ℕ, zero, suc, ◌+◌, ◌≤◌, Bool, true, false, if◌then◌else◌, not, ◌==◌, nat_lt, List, [], ◌∷◌, length, map, refl, sym, ◌∙◌, arith}
use Rattle.std.proofs.lemmas.List.Sums.{sum_by-cons}
use Rattle.std.specs.Prelude.{◌&&◌, ⊤}
use Rattle.std.specs.List.{list_all}
use Rattle.vb_host.proofs.Grants.{draw_waits, in_turn, may_waits}
use Rattle.vb_host.proofs.LentBy.{asks_lend, covered_lends, hears_lend, targets_lend}
use Rattle.vb_host.proofs.Lists.{waits_at}
use Rattle.vb_host.proofs.Places.{value_elsewhere}
use Rattle.vb_host.proofs.Sound.{and_left, and_right, either, eq_false, eq_true, le_true}
use Rattle.vb_host.specs.declared.event.Event.{Event}
use Rattle.vb_host.specs.declared.event.Event.TheVariants.{Hears, Grants, Overdraws, Wants, Targets, Arrives, Joins, TakesOver, Uncounts, Budget, Prefers, Defers}
use Rattle.vb_host.specs.declared.seat.Seat.{Seat}
use Rattle.vb_host.specs.Lending.{Lending, each_at, happens, is_first, may_grant, may_join_at, may_overdraw, next_turn, owed, pages_at, room, test_at, value_at}
use Rattle.vb_host.specs.Seats.{apart, asked, covers, deferring, granting, grown, heard, is_done, lent, may_defer, newcomer, preferring, retargeted, starting, waits}

-- what is lent, what may be, and the frames there are
pub record IsWithin (l : Lending) (frames : ℕ) : Type 0 where
  pub owed : owed l.seats ≤ frames
  pub budget : l.frames + l.overdraft ≤ frames

owed_less : (n more : ℕ) (f : Seat → Seat) (xs : List Seat) → ((s : Seat) → lent (f s) ≤ lent s + more) → owed (each_at n f xs) ≤ owed xs + more
owed_less n more f [] h = omega arith
owed_less zero more f (x ∷ xs) h = omega (arith, h x, sum_by-cons lent (f x) xs, sum_by-cons lent x xs)
owed_less (suc n) more f (x ∷ xs) h = omega (arith, owed_less n more f xs h, sum_by-cons lent x (each_at n f xs), sum_by-cons lent x xs)

owed_map : (f : Seat → Seat) (xs : List Seat) → ((s : Seat) → lent (f s) ≤ lent s) → owed (map f xs) ≤ owed xs
owed_map f [] h = omega arith
owed_map f (x ∷ xs) h = omega (arith, h x, owed_map f xs h, sum_by-cons lent (f x) (map f xs), sum_by-cons lent x xs)

-- ---- a grant

owed_covered : (n : ℕ) (xs : List Seat) → test_at covers xs n ≡ true → owed (each_at n granting xs) ≤ owed xs
owed_covered n [] e = omega arith
owed_covered zero (x ∷ xs) e = omega (arith, covered_lends x e, sum_by-cons lent (granting x) xs, sum_by-cons lent x xs)
owed_covered (suc n) (x ∷ xs) e = omega (arith, owed_covered n xs e, sum_by-cons lent x (each_at n granting xs), sum_by-cons lent x xs)

owed_granted : (n : ℕ) (xs : List Seat) → test_at waits xs n ≡ true → owed (each_at n granting xs) ≤ owed xs + value_at asked xs n
owed_granted n [] e = omega arith
owed_granted zero (x ∷ xs) e = omega (arith, asks_lend x e, sum_by-cons lent (granting x) xs, sum_by-cons lent x xs)
owed_granted (suc n) (x ∷ xs) e = omega (arith, owed_granted n xs e, sum_by-cons lent x (each_at n granting xs), sum_by-cons lent x xs)

grants_owe : (l : Lending) (n frames : ℕ) → may_grant l n ≡ true → IsWithin l frames → owed (each_at n granting l.seats) ≤ frames
grants_owe l n frames e h = elim (in_turn l n e) [
  | inl covered ↦ omega (arith, owed_covered n l.seats covered, h.owed)
  | inr first ↦ omega (arith, owed_granted n l.seats (may_waits l n e), first.1, h.budget)
]

draws_owe : (l : Lending) (n frames : ℕ) → may_overdraw l n ≡ true → IsWithin l frames → owed (each_at n granting l.seats) ≤ frames
draws_owe l n frames e h = omega (
  arith,
  owed_granted n l.seats (waits_at l.seats n (and_left _ _ (draw_waits l n e))),
  le_true _ _ (and_right (is_first l.seats n && list_all is_done l.seats) _ e),
  h.budget,
)

owed_if : (b : Bool) (xs ys : List Seat) (frames : ℕ) → (b ≡ true → owed ys ≤ frames) → owed xs ≤ frames → owed (if b then ys else xs) ≤ frames
owed_if true xs ys frames f h = f refl
owed_if false xs ys frames f h = h

-- ---- memory that joins

-- a guest that has gone was lent just its pages, as none of them was reclaimed, and none outside
gone_owes : (m : ℕ) (xs : List Seat) → value_at apart xs m ≡ 0 → owed (each_at m (λ _. newcomer 0) xs) + pages_at xs m ≤ owed xs
gone_owes m [] e = omega arith
gone_owes zero (x ∷ xs) e = omega (arith, e, sum_by-cons lent (newcomer 0) xs, sum_by-cons lent x xs)
gone_owes (suc m) (x ∷ xs) e = omega (arith, gone_owes m xs e, sum_by-cons lent x (each_at m (λ _. newcomer 0) xs), sum_by-cons lent x xs)

is_not : (b : Bool) → not b ≡ true → b ≡ false
is_not true e = absurd cc
is_not false e = refl

-- what may join is memory at another place, of which nothing is reclaimed or outside
record MayJoin (xs : List Seat) (n m : ℕ) : Type 0 where
  pub other : n ≢ m
  pub empty : value_at apart xs m ≡ 0

may_join : (xs : List Seat) (n m : ℕ) → may_join_at xs n m ≡ true → MayJoin xs n m
may_join xs n m e =
    let a = and_left (((nat_lt n (length xs) && nat_lt m (length xs)) && not (n == m)) && (value_at apart xs m == 0)) _ e in
    let b = and_left ((nat_lt n (length xs) && nat_lt m (length xs)) && not (n == m)) _ a in
    record {
      other = eq_false n m (is_not (n == m) (and_right (nat_lt n (length xs) && nat_lt m (length xs)) _ b));
      empty = eq_true _ _ (and_right ((nat_lt n (length xs) && nat_lt m (length xs)) && not (n == m)) _ a);
    }

joins_owe : (l : Lending) (n m : ℕ) → may_join_at l.seats n m ≡ true
    → owed (each_at m (λ _. newcomer 0) (each_at n (grown (pages_at l.seats m)) l.seats)) ≤ owed l.seats
joins_owe l n m e =
    let c = may_join l.seats n m e in
    let more = pages_at l.seats m in
    let other : m ≢ n = λ k. c.other (sym k) in
    omega (
      arith,
      owed_less n more (grown more) l.seats (λ s. omega arith),
      gone_owes m (each_at n (grown more) l.seats) (value_elsewhere apart n (grown more) l.seats m other ∙ c.empty),
      value_elsewhere (λ s. s.pages) n (grown more) l.seats m other,
    )

-- ---- an event of the lender

targets_owe : (l : Lending) (n frames : ℕ) → IsWithin l frames → owed (each_at n (retargeted (room l)) l.seats) ≤ frames
targets_owe l n frames h = omega (arith, owed_less n (room l) (retargeted (room l)) l.seats (targets_lend (room l)), h.owed, h.budget)

-- no event by which the host has to see itself that there is room
abbrev pub IsOrdinary : Event → Type 0
IsOrdinary (TakesOver n pages r) = ⊥
IsOrdinary (Uncounts n) = ⊥
IsOrdinary (Budget frames) = ⊥
IsOrdinary _ = ⊤

defers_lend : (turn : ℕ) (s : Seat) → lent (deferring turn s) ≤ lent s + 0
defers_lend turn s = either (λ (x : Seat). lent x ≤ lent s + 0) (may_defer s) _ _ (λ _. omega arith) (λ _. omega arith)

pub lends_within : (l : Lending) (e : Event) (frames : ℕ) → IsWithin l frames → IsOrdinary e → IsWithin (happens l e) frames
lends_within l (Hears n r) frames h o = record { owed = omega (arith, owed_less n 0 (heard (next_turn l.seats) r) l.seats (λ s. omega (arith, hears_lend (next_turn l.seats) r s)), h.owed); budget = h.budget }
lends_within l (Grants n) frames h o = record { owed = owed_if (may_grant l n) l.seats _ frames (λ e. grants_owe l n frames e h) h.owed; budget = h.budget }
lends_within l (Overdraws n) frames h o = record { owed = owed_if (may_overdraw l n) l.seats _ frames (λ e. draws_owe l n frames e h) h.owed; budget = h.budget }
lends_within l (Wants n pages) frames h o = record { owed = omega (arith, owed_less n 0 (λ s. record s { wanted = pages }) l.seats (λ s. omega arith), h.owed); budget = h.budget }
lends_within l (Targets n) frames h o = record { owed = targets_owe l n frames h; budget = h.budget }
lends_within l (Arrives n pages ballooned) frames h o = record { owed = omega (arith, owed_less n 0 (λ _. starting pages ballooned) l.seats (λ s. omega arith), h.owed); budget = h.budget }
lends_within l (Joins n m) frames h o = record {
  owed = owed_if (may_join_at l.seats n m) l.seats _ frames (λ e. omega (arith, joins_owe l n m e, h.owed)) h.owed;
  budget = h.budget;
}
lends_within l (TakesOver n pages r) frames h o = absurd o
lends_within l (Uncounts n) frames h o = absurd o
lends_within l (Budget k) frames h o = absurd o
lends_within l (Prefers n) frames h o = record {
  owed = omega (
    arith,
    owed_less n 0 (preferring 1) (map (preferring 0) l.seats) (λ s. omega arith),
    owed_map (preferring 0) l.seats (λ s. omega arith),
    h.owed,
  );
  budget = h.budget;
}
lends_within l (Defers n) frames h o = record { owed = omega (arith, owed_less n 0 (deferring (next_turn l.seats)) l.seats (defers_lend (next_turn l.seats)), h.owed); budget = h.budget }
