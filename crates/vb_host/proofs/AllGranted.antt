-- Where there is room for all that wait, all are granted, in whatever order.
use Rattle.std.proofs.Common.{◌≡◌, ℕ, zero, suc, ◌+◌, ◌<◌, ◌≤◌, Bool, true, false, ◌&&◌, ◌==◌, nat_lt, if◌then◌else◌, List, [], ◌∷◌, length, map, Option, Some, None, MatchOption, inr, refl, ap, sym, subst, ◌∙◌, arith}
use Rattle.vb_host.specs.declared.seat.Seat.{Seat}
use Rattle.vb_host.specs.Lending.{Lending, each_at, held_at, owed, rank_at, test_at, waited}
use Rattle.vb_host.specs.Line.{ByGrants, FirstBelow, Granted, GrantsNone, IsFirst, IsNextGrant, Stays}
use Rattle.vb_host.specs.Seats.{asked, covers, granted_waiting, granting, waits}
use Rattle.vb_host.proofs.Granting.{still_none_covered}
use Rattle.vb_host.proofs.Grants.{fewer, how_many, may_waits, next_may, none_nobody}
use Rattle.vb_host.proofs.Lines.{first_earlier, first_new, first_of_all, first_same, first_stays}
use Rattle.vb_host.proofs.Places.{value_within}
use Rattle.vb_host.proofs.Proceeding.{grant_lends, is_granted}
use Rattle.vb_host.proofs.Sound.{either, lt_false, lt_true}

-- ---- who waits first

by_rank : (xs : List Seat) (n m : ℕ) (b : Bool) → nat_lt (rank_at xs n) (rank_at xs m) ≡ b → 0 < held_at xs n → FirstBelow xs n (Some m) → (o : Option ℕ) × FirstBelow xs (n + 1) o
by_rank xs n m true e w h = (Some n, first_earlier xs n m w (lt_true (rank_at xs n) (rank_at xs m) e) h)
by_rank xs n m false e w h = (Some m, first_stays xs n m (lt_false (rank_at xs n) (rank_at xs m) e) h)

one_further : (xs : List Seat) (n : ℕ) (o : Option ℕ) (b : Bool) → nat_lt 0 (held_at xs n) ≡ b → FirstBelow xs n o → (p : Option ℕ) × FirstBelow xs (n + 1) p
one_further xs n o false e h = (o, first_same xs n o (none (held_at xs n) (lt_false 0 (held_at xs n) e)) h) where
  none : (a : ℕ) → a ≤ 0 → a ≡ 0
  none a l = omega (arith, l)
one_further xs n None true e h = (Some n, first_new xs n (lt_true 0 (held_at xs n) e) h)
one_further xs n (Some m) true e h = by_rank xs n m (nat_lt (rank_at xs n) (rank_at xs m)) refl (lt_true 0 (held_at xs n) e) h

first_below : (xs : List Seat) (n : ℕ) → (o : Option ℕ) × FirstBelow xs n o
first_below xs zero = (None, λ k l. absurd (omega (arith, l)))
first_below xs (suc n) =
    let below = first_below xs n in
    let next = one_further xs n below.0 (nat_lt 0 (held_at xs n)) refl below.1 in
    let last : n + 1 ≡ suc n = omega arith in
    (next.0, subst (λ (k : ℕ). FirstBelow xs k next.0) last next.1)

-- ---- one that is granted

grants_it : (s : Seat) → waits s ≡ true → granting s ≡ granted_waiting s
grants_it s e = sym (ap (λ (b : Bool). if b then granting s else s) e)

granted_after : (n : ℕ) (xs : List Seat) → test_at waits xs n ≡ true → map granted_waiting (each_at n granting xs) ≡ map granted_waiting xs
granted_after n [] e = refl
granted_after zero (x ∷ xs) e = ap (λ (s : Seat). s ∷ map granted_waiting xs) (grants_it x e)
granted_after (suc n) (x ∷ xs) e = ap (λ (ss : List Seat). granted_waiting x ∷ ss) (granted_after n xs e)

-- ---- where nobody waits

leaves_it : (s : Seat) → s.held ≡ 0 → granted_waiting s ≡ s
leaves_it s e = ap (λ (k : ℕ). if nat_lt 0 k then granting s else s) e

leaves_all : (xs : List Seat) → ((n : ℕ) → held_at xs n ≡ 0) → map granted_waiting xs ≡ xs
leaves_all [] h = refl
leaves_all (x ∷ xs) h = ap (λ (s : Seat). s ∷ map granted_waiting xs) (leaves_it x (h zero)) ∙ ap (λ (ss : List Seat). x ∷ ss) (leaves_all xs (λ n. h (suc n)))

-- ---- all are granted, one after another

by_first : (l : Lending) (o : Option ℕ) → ((k : ℕ) → test_at covers l.seats k ≡ false) → owed l.seats + waited l.seats ≤ l.frames
    → MatchOption o ((n : ℕ) → held_at l.seats n ≡ 0) (λ n. (n < length l.seats) × IsFirst l.seats n)
    → ((n : ℕ) → test_at waits l.seats n ≡ true
    → ByGrants (record l { seats = each_at n granting l.seats }) (record l { seats = map granted_waiting (each_at n granting l.seats) }))
    → ByGrants l (record l { seats = map granted_waiting l.seats })
by_first l None c f h rest = subst (λ (xs : List Seat). ByGrants l (record l { seats = xs })) (sym (leaves_all l.seats h)) (Stays l)
by_first l (Some n) c f h rest =
    let next : IsNextGrant l n = inr (c, h.1, omega (arith, f, value_within asked n l.seats)) in
    let waiting : test_at waits l.seats n ≡ true = may_waits l n (next_may l n next) in
    let others : ByGrants (record l { seats = each_at n granting l.seats }) (record l { seats = map granted_waiting l.seats }) =
    subst (λ (xs : List Seat). ByGrants (record l { seats = each_at n granting l.seats }) (record l { seats = xs })) (granted_after n l.seats waiting) (rest n waiting) in
    Granted l (record l { seats = map granted_waiting l.seats }) n next (subst (λ (k : Lending). ByGrants k (record l { seats = map granted_waiting l.seats })) (sym (is_granted l n next)) others)

who_first : (xs : List Seat) → (o : Option ℕ) × MatchOption o ((n : ℕ) → held_at xs n ≡ 0) (λ n. (n < length xs) × IsFirst xs n)
who_first xs = let first = first_below xs (length xs) in (first.0, first_of_all xs (length xs) first.0 (omega arith) first.1)

pub all_by_grants : (fuel : ℕ) (l : Lending) → how_many l.seats ≤ fuel → ((k : ℕ) → test_at covers l.seats k ≡ false) → owed l.seats + waited l.seats ≤ l.frames
    → ByGrants l (record l { seats = map granted_waiting l.seats })
all_by_grants zero l h c f = let first = who_first l.seats in by_first l first.0 c f first.1 (λ n w. absurd (omega (arith, h, fewer n l.seats w)))
all_by_grants (suc fuel) l h c f = let first = who_first l.seats in
    by_first l first.0 c f first.1
    (λ n w. all_by_grants fuel (record l { seats = each_at n granting l.seats }) (omega (arith, h, fewer n l.seats w)) (still_none_covered n l.seats c)
    (omega (arith, f, grant_lends n l.seats w)))

-- ---- then nobody waits

holds_none : (s : Seat) → (granted_waiting s).held ≡ 0
holds_none s = either (λ (x : Seat). x.held ≡ 0) (waits s) (granting s) s (λ _. refl) (λ e. none s.held (lt_false 0 s.held e)) where
  none : (a : ℕ) → a ≤ 0 → a ≡ 0
  none a l = omega (arith, l)

hold_none : (xs : List Seat) (n : ℕ) → held_at (map granted_waiting xs) n ≡ 0
hold_none [] n = refl
hold_none (x ∷ xs) zero = holds_none x
hold_none (x ∷ xs) (suc n) = hold_none xs n

covers_none : (s : Seat) → s.held ≡ 0 → covers s ≡ false
covers_none s e = ap (λ (k : ℕ). nat_lt 0 k && (asked s == 0)) e

cover_none : (xs : List Seat) (n : ℕ) → test_at covers (map granted_waiting xs) n ≡ false
cover_none [] n = refl
cover_none (x ∷ xs) zero = covers_none (granted_waiting x) (holds_none x)
cover_none (x ∷ xs) (suc n) = cover_none xs n

pub all_granted : (l : Lending) → GrantsNone (record l { seats = map granted_waiting l.seats })
all_granted l = none_nobody (record l { seats = map granted_waiting l.seats }) (cover_none l.seats) (hold_none l.seats)
