-- Grants by code: what is covered in one pass, and who waits first one after another.
use Rattle.std.proofs.Common.{below_more, ◌≡◌, ℕ, zero, suc, ◌+◌, ◌≤◌, ◌<◌, true, false, List, [], ◌∷◌, length, inr, refl, ap, sym, subst, ◌∙◌, arith}
use Rattle.std.proofs.lemmas.List.Sums.{sum_by-cons}
use Rattle.vb_host.specs.declared.seat.Seat.{Seat}
use Rattle.vb_host.specs.Lending.{Lending, owed, each_at, value_at, test_at}
use Rattle.vb_host.specs.Line.{ByGrants, IsFirst, IsNextGrant}
use Rattle.vb_host.specs.Seats.{asked, covers, granting, lent, waits}
use Rattle.vb_host.proofs.Grants.{fewer, grants_one, how_many, may_waits, next_is_covered, next_may}
use Rattle.vb_host.proofs.Targeting.{at_length}

-- ---- deflates that are covered, one after another

pub none_covered_below : (n : ℕ) (xs : List Seat) → ((k : ℕ) → k < n → test_at covers xs k ≡ false) → (k : ℕ) → k < n + 1 → test_at covers (each_at n granting xs) k ≡ false
none_covered_below n [] h k l = refl
none_covered_below zero (x ∷ xs) h zero l = refl
none_covered_below zero (x ∷ xs) h (suc k) l = absurd (omega (arith, l))
none_covered_below (suc n) (x ∷ xs) h zero l = h zero (omega arith)
none_covered_below (suc n) (x ∷ xs) h (suc k) l = none_covered_below n xs (λ i m. h (suc i) (omega (arith, m))) k (omega (arith, l))

pub still_none_covered : (n : ℕ) (xs : List Seat) → ((k : ℕ) → test_at covers xs k ≡ false) → (k : ℕ) → test_at covers (each_at n granting xs) k ≡ false
still_none_covered n [] h k = refl
still_none_covered zero (x ∷ xs) h zero = refl
still_none_covered zero (x ∷ xs) h (suc k) = h (suc k)
still_none_covered (suc n) (x ∷ xs) h zero = h zero
still_none_covered (suc n) (x ∷ xs) h (suc k) = still_none_covered n xs (λ i. h (suc i)) k

-- grants alone led from one list to another, where none of the first n guests is covered
abbrev pub CoveredBelow : ℕ → List Seat → List Seat → ℕ → Type 0
CoveredBelow frames xs ys n = ((overdraft : ℕ) → ByGrants (record { frames = frames; overdraft = overdraft; seats = xs }) (record { frames = frames; overdraft = overdraft; seats = ys }))
    × ((k : ℕ) → k < n → test_at covers ys k ≡ false)
    × (length ys ≡ length xs)

pub grants_covered : (frames n : ℕ) (xs ys zs : List Seat) → CoveredBelow frames xs ys n → test_at covers ys n ≡ true → zs ≡ each_at n granting ys → CoveredBelow frames xs zs (n + 1)
grants_covered frames n xs ys zs h e f = (
  λ overdraft. grants_one _ (record { frames = frames; overdraft = overdraft; seats = ys }) n zs (h.0 overdraft) (next_is_covered (record { frames = frames; overdraft = overdraft; seats = ys }) n e h.1) f,
  λ k l. ap (λ (ss : List Seat). test_at covers ss k) f ∙ none_covered_below n ys h.1 k l,
  ap (λ (ss : List Seat). length ss) f ∙ (at_length n granting ys ∙ h.2),
)

pub passes_one : (frames n : ℕ) (xs ys : List Seat) → CoveredBelow frames xs ys n → test_at covers ys n ≡ false → CoveredBelow frames xs ys (n + 1)
passes_one frames n xs ys h e = (h.0, below_more (λ k. test_at covers ys k ≡ false) n h.1 e, h.2)

-- ---- what is lent then

asks_just : (s : Seat) → waits s ≡ true → lent (granting s) ≡ lent s + asked s
asks_just s e = grind (arith, e)

pub owed_then : (n : ℕ) (xs : List Seat) → test_at waits xs n ≡ true → owed (each_at n granting xs) ≡ owed xs + value_at asked xs n
owed_then n [] e = absurd (cc)
owed_then zero (x ∷ xs) e = omega (arith, asks_just x e, sum_by-cons lent (granting x) xs, sum_by-cons lent x xs)
owed_then (suc n) (x ∷ xs) e = omega (arith, owed_then n xs e, sum_by-cons lent x (each_at n granting xs), sum_by-cons lent x xs)

-- grants alone led from one list to another, where no guest is covered, and where this much is lent
abbrev pub GrantedInTurn : ℕ → List Seat → List Seat → ℕ → Type 0
GrantedInTurn frames xs ys lent = ((overdraft : ℕ) → ByGrants (record { frames = frames; overdraft = overdraft; seats = xs }) (record { frames = frames; overdraft = overdraft; seats = ys }))
    × ((k : ℕ) → test_at covers ys k ≡ false)
    × (lent ≡ owed ys)

next_in_turn : (l : Lending) (n now more : ℕ) → ((k : ℕ) → test_at covers l.seats k ≡ false) → now ≡ owed l.seats → IsFirst l.seats n → more ≡ value_at asked l.seats n → now + more ≤ l.frames → IsNextGrant l n
next_in_turn l n now more c o f e h = inr (c, f, omega (arith, o, e, h))

pub grants_first : (frames n now more : ℕ) (xs ys zs : List Seat) → GrantedInTurn frames xs ys now → IsFirst ys n → more ≡ value_at asked ys n → now + more ≤ frames → zs ≡ each_at n granting ys
    → GrantedInTurn frames xs zs (now + more) × (how_many zs < how_many ys)
grants_first frames n now more xs ys zs h f e l z =
    let next : (overdraft : ℕ) → IsNextGrant (record { frames = frames; overdraft = overdraft; seats = ys }) n = λ overdraft. next_in_turn (record { frames = frames; overdraft = overdraft; seats = ys }) n now more h.1 h.2 f e l in
    let waiting : test_at waits ys n ≡ true = may_waits (record { frames = frames; overdraft = 0; seats = ys }) n (next_may (record { frames = frames; overdraft = 0; seats = ys }) n (next 0)) in (
      (
        λ overdraft. grants_one _ (record { frames = frames; overdraft = overdraft; seats = ys }) n zs (h.0 overdraft) (next overdraft) z,
        λ k. ap (λ (ss : List Seat). test_at covers ss k) z ∙ still_none_covered n ys h.1 k,
        then_lent now more (owed ys) (value_at asked ys n) (owed (each_at n granting ys)) h.2 e (owed_then n ys waiting) ∙ sym (ap (λ (ss : List Seat). owed ss) z),
      ),
      subst (λ (ss : List Seat). how_many ss < how_many ys) (sym z) (fewer n ys waiting),
    ) where
      then_lent : (now more lent asks later : ℕ) → now ≡ lent → more ≡ asks → later ≡ lent + asks → now + more ≡ later
      then_lent now more lent asks later e f g = omega (arith, e, f, g)
