-- The first guest that waits.
use Rattle.std.proofs.Common.{◌≡◌, ℕ, zero, suc, ◌+◌, ◌<◌, ◌≤◌, Bool, true, false, List, [], ◌∷◌, length, Option, Some, None, MatchOption, ◌&&◌, nat_lt, nat_le, ◌==◌, ◌*◌, ◌⊎◌, inl, inr, if◌then◌else◌, refl, subst, sym, ◌∙◌, arith, below_more}
use Rattle.std.proofs.lemmas.Bool.Decides.{nat_tests}
use Rattle.std.specs.List.{list_all}
use Rattle.vb_host.specs.declared.seat.Seat.{Seat}
use Rattle.vb_host.specs.Lending.{held_at, comes_at, is_first, comes_first, rank_at}
use Rattle.vb_host.specs.Line.{IsFirst, FirstBelow}
use Rattle.vb_host.specs.Seats.{is_preferred, line_rank, place_in_line, rank}
use Rattle.vb_host.specs.Turns.{ComesBefore, IsEarlier}
use Rattle.vb_host.proofs.Places.{value_there}
use Rattle.vb_host.proofs.Sound.{and_left, and_right, either, eq_false, eq_true, lt_false, lt_true}

-- what holds of each number below a limit, where it holds at the limit too
rank_below : (xs : List Seat) (least limit : ℕ) → ((k : ℕ) → k < limit → 0 < held_at xs k → least ≤ rank_at xs k) → (0 < held_at xs limit → least ≤ rank_at xs limit)
    → (k : ℕ) → k < limit + 1 → 0 < held_at xs k → least ≤ rank_at xs k
rank_below xs least limit below here = below_more (λ k. 0 < held_at xs k → least ≤ rank_at xs k) limit below here

pub first_same : (xs : List Seat) (place : ℕ) (first : Option ℕ) → held_at xs place ≡ 0 → FirstBelow xs place first → FirstBelow xs (place + 1) first
first_same xs place None e h = below_more (λ k. held_at xs k ≡ 0) place h e
first_same xs place (Some n) e h = (omega (arith, h.0), h.1, rank_below xs (rank_at xs n) place h.2 (λ w. absurd (omega (arith, e, w))), h.3)

pub first_new : (xs : List Seat) (place : ℕ) → 0 < held_at xs place → FirstBelow xs place None → FirstBelow xs (place + 1) (Some place)
first_new xs place w h = (
  omega arith,
  w,
  rank_below xs (rank_at xs place) place (λ k l v. absurd (omega (arith, h k l, v))) (λ _. omega arith),
  λ k l v. absurd (omega (arith, h k l, v)),
)

pub first_earlier : (xs : List Seat) (place n : ℕ) → 0 < held_at xs place → rank_at xs place < rank_at xs n → FirstBelow xs place (Some n) → FirstBelow xs (place + 1) (Some place)
first_earlier xs place n w l h = (
  omega arith,
  w,
  rank_below xs (rank_at xs place) place (λ k b v. omega (arith, l, h.2 k b v)) (λ _. omega arith),
  λ k b v. omega (arith, l, h.2 k b v),
)

pub first_stays : (xs : List Seat) (place n : ℕ) → rank_at xs n ≤ rank_at xs place → FirstBelow xs place (Some n) → FirstBelow xs (place + 1) (Some n)
first_stays xs place n l h = (omega (arith, h.0), h.1, rank_below xs (rank_at xs n) place h.2 (λ _. l), h.3)

none_or : (xs : List Seat) (n : ℕ) (b : Bool) → nat_lt 0 (held_at xs n) ≡ b → (0 < held_at xs n → held_at xs n ≡ 0) → held_at xs n ≡ 0
none_or xs n true e h = h (lt_true 0 (held_at xs n) e)
none_or xs n false e h = omega (arith, lt_false 0 (held_at xs n) e)

none_at : (xs : List Seat) (limit n : ℕ) → length xs ≤ limit → ((k : ℕ) → k < limit → held_at xs k ≡ 0) → held_at xs n ≡ 0
none_at xs limit n l h = none_or xs n (nat_lt 0 (held_at xs n)) refl (λ w. h n (omega (arith, l, value_there (λ s. s.held) n xs w)))

pub first_of_all : (xs : List Seat) (limit : ℕ) (first : Option ℕ) → length xs ≤ limit → FirstBelow xs limit first
    → MatchOption first ((n : ℕ) → held_at xs n ≡ 0) (λ n. (n < limit) × IsFirst xs n)
first_of_all xs limit None l h = λ n. none_at xs limit n l h
first_of_all xs limit (Some n) l h = (
  h.0,
  record { waits = h.1; before_all = λ i w. h.2 i (omega (arith, l, value_there (λ s. s.held) i xs w)) w; lowest = h.3 },
)

-- ---- the test and what it says

comes_by : (held first r : ℕ) → (if nat_lt 0 held then nat_le first r else true) ≡ true → 0 < held → first ≤ r
comes_by held first r e w = grind (arith, nat_tests)

comes_of : (held first r : ℕ) → (0 < held → first ≤ r) → (if nat_lt 0 held then nat_le first r else true) ≡ true
comes_of held first r h = grind (arith, nat_tests)

and_both : (a b : Bool) → a ≡ true → b ≡ true → (a && b) ≡ true
and_both true b e f = f
and_both false b e f = e

all_come : (first : ℕ) (xs : List Seat) → list_all (comes_at first) xs ≡ true → (i : ℕ) → 0 < held_at xs i → first ≤ rank_at xs i
all_come first [] e i w = absurd (omega arith)
all_come first (x ∷ xs) e zero w = comes_by x.held first (rank x) (and_left (comes_at first x) (list_all (comes_at first) xs) e) w
all_come first (x ∷ xs) e (suc i) w = all_come first xs (and_right (comes_at first x) (list_all (comes_at first) xs) e) i w

come_all : (first : ℕ) (xs : List Seat) → ((i : ℕ) → 0 < held_at xs i → first ≤ rank_at xs i) → list_all (comes_at first) xs ≡ true
come_all first [] h = refl
come_all first (x ∷ xs) h = and_both (comes_at first x) (list_all (comes_at first) xs) (comes_of x.held first (rank x) (h zero)) (come_all first xs (λ i. h (suc i)))

above : (a b : ℕ) → a + 1 ≤ b → (a ≤ b) × (a < b)
above a b l = (omega (arith, l), omega (arith, l))

firsts : (first n : ℕ) (xs : List Seat) → comes_first first n xs ≡ true → (i : ℕ) → 0 < held_at xs i → (first ≤ rank_at xs i) × (i < n → first < rank_at xs i)
firsts first zero xs e i w = (all_come first xs e i w, λ l. absurd (omega (arith, l)))
firsts first (suc n) [] e i w = absurd (omega arith)
firsts first (suc n) (x ∷ xs) e zero w = let c = above first (rank x) (comes_by x.held (first + 1) (rank x) (and_left (comes_at (first + 1) x) _ e) w) in (c.0, λ _. c.1)
firsts first (suc n) (x ∷ xs) e (suc i) w = let r = firsts first n xs (and_right (comes_at (first + 1) x) _ e) i w in (r.0, λ l. r.1 (omega (arith, l)))

next_above : (a b : ℕ) → a < b → a + 1 ≤ b
next_above a b l = omega (arith, l)

firsts_by : (first n : ℕ) (xs : List Seat) → ((i : ℕ) → 0 < held_at xs i → first ≤ rank_at xs i) → ((i : ℕ) → i < n → 0 < held_at xs i → first < rank_at xs i)
    → comes_first first n xs ≡ true
firsts_by first zero xs h l = come_all first xs h
firsts_by first (suc n) [] h l = refl
firsts_by first (suc n) (x ∷ xs) h l = and_both (comes_at (first + 1) x) (comes_first first n xs)
    (comes_of x.held (first + 1) (rank x) (λ w. next_above first (rank x) (l zero (omega arith) w)))
    (firsts_by first n xs (λ i. h (suc i)) (λ i b. l (suc i) (omega (arith, b))))

pub first_is : (xs : List Seat) (n : ℕ) → is_first xs n ≡ true → IsFirst xs n
first_is xs n e = record {
  waits = lt_true 0 (held_at xs n) (and_left (nat_lt 0 (held_at xs n)) _ e);
  before_all = λ i w. (firsts (rank_at xs n) n xs (and_right (nat_lt 0 (held_at xs n)) _ e) i w).0;
  lowest = λ i l w. (firsts (rank_at xs n) n xs (and_right (nat_lt 0 (held_at xs n)) _ e) i w).1 l;
}

pub by_waits : (a : ℕ) → 0 < a → nat_lt 0 a ≡ true
by_waits a h = grind (arith, nat_tests)

pub is_the_first : (xs : List Seat) (n : ℕ) → IsFirst xs n → is_first xs n ≡ true
is_the_first xs n h = and_both (nat_lt 0 (held_at xs n)) _ (by_waits (held_at xs n) h.waits) (firsts_by (rank_at xs n) n xs h.before_all h.lowest)

-- ---- one is first

pub same_by_order : (a b : ℕ) (t u : Bool) → nat_lt a b ≡ t → nat_lt b a ≡ u → (a < b → ⊥) → (b < a → ⊥) → a ≡ b
same_by_order a b true u e f g h = absurd (g (lt_true a b e))
same_by_order a b false true e f g h = absurd (h (lt_true b a f))
same_by_order a b false false e f g h = omega (arith, lt_false a b e, lt_false b a f)

pub one_first : (xs : List Seat) (a b : ℕ) → IsFirst xs a → IsFirst xs b → a ≡ b
one_first xs a b h k = same_by_order a b (nat_lt a b) (nat_lt b a) refl refl
    (λ l. omega (arith, k.lowest a l h.waits, h.before_all b k.waits)) (λ l. omega (arith, h.lowest b l k.waits, k.before_all a h.waits))

-- ---- by line, then by the place in it

pub first_place : (s : Seat) → 0 < s.preferred → place_in_line s ≡ 0
first_place s h = either (λ (n : ℕ). n ≡ 0) (is_preferred s) 0 (s.turn + 1) (λ _. refl) (λ f. absurd (omega (arith, h, lt_false 0 s.preferred f)))

pub turn_place : (s : Seat) → s.preferred ≡ 0 → place_in_line s ≡ s.turn + 1
turn_place s h = either (λ (n : ℕ). n ≡ s.turn + 1) (is_preferred s) 0 (s.turn + 1) (λ t. absurd (omega (arith, h, lt_true 0 s.preferred t))) (λ _. refl)

pub place_within : (s : Seat) → place_in_line s ≤ s.turn + 1
place_within s = either (λ (n : ℕ). n ≤ s.turn + 1) (is_preferred s) 0 (s.turn + 1) (λ _. omega arith) (λ _. omega arith)

less_by : (a b c d : ℕ) → a < b → a ≡ c → b ≡ d → c < d
less_by a b c d l e f = omega (arith, l, e, f)

not_less : (n k : ℕ) → n < k → k ≡ 0 → ⊥
not_less n k l e = omega (arith, l, e)

preferred_not : (s : Seat) → is_preferred s ≡ false → s.preferred ≡ 0
preferred_not s e = omega (arith, lt_false 0 s.preferred e)

earlier_by : (s t : Seat) (x y : Bool) → is_preferred s ≡ x → is_preferred t ≡ y → place_in_line s < place_in_line t → IsEarlier s t
earlier_by s t x true e f l = absurd (not_less (place_in_line s) (place_in_line t) l (first_place t (lt_true 0 t.preferred f)))
earlier_by s t true false e f l = inl (lt_true 0 s.preferred e, preferred_not t f)
earlier_by s t false false e f l = let a = preferred_not s e in let b = preferred_not t f in
    inr (a, b, less_turn s.turn t.turn (less_by (place_in_line s) (place_in_line t) (s.turn + 1) (t.turn + 1) l (turn_place s a) (turn_place t b))) where
      less_turn : (t u : ℕ) → t + 1 < u + 1 → t < u
      less_turn t u l = omega (arith, l)

earlier_of : (s t : Seat) → IsEarlier s t → place_in_line s < place_in_line t
earlier_of s t h = elim h [
  | inl first ↦ less_by 0 (t.turn + 1) (place_in_line s) (place_in_line t) (omega arith) (sym (first_place s first.0)) (sym (turn_place t first.1))
  | inr turn ↦ less_by (s.turn + 1) (t.turn + 1) (place_in_line s) (place_in_line t) (omega (arith, turn.2)) (sym (turn_place s turn.0)) (sym (turn_place t turn.1))
]

before_by : (a b p q : ℕ) (x y : Bool) → nat_lt a b ≡ x → nat_lt b a ≡ y → p < 18446744073709551617 → q < 18446744073709551617
    → 18446744073709551617 * a + p < 18446744073709551617 * b + q → (a < b) ⊎ ((a ≡ b) × (p < q))
before_by a b p q true y e f i j l = inl (lt_true a b e)
before_by a b p q false true e f i j l = absurd (omega (arith, lt_true b a f, i, j, l))
before_by a b p q false false e f i j l = let same : a ≡ b = omega (arith, lt_false a b e, lt_false b a f) in inr (same, omega (arith, same, l))

ranks_by : (a b p q : ℕ) → p < 18446744073709551617 → (a < b) ⊎ ((a ≡ b) × (p < q)) → 18446744073709551617 * a + p < 18446744073709551617 * b + q
ranks_by a b p q i c = elim c [
  | inl less ↦ omega (arith, i, less)
  | inr same ↦ omega (arith, same.0, same.1)
]

place_below : (s : Seat) → s.turn < 18446744073709551616 → place_in_line s < 18446744073709551617
place_below s h = below_by (place_in_line s) s.turn (place_within s) h where
  below_by : (p t : ℕ) → p ≤ t + 1 → t < 18446744073709551616 → p < 18446744073709551617
  below_by p t l h = omega (arith, l, h)

pub lines_order : (s t : Seat) → s.turn < 18446744073709551616 → t.turn < 18446744073709551616 → (rank s < rank t → ComesBefore s t) × (ComesBefore s t → rank s < rank t)
lines_order s t i j = (
  λ l. comes_before s t (before_by (line_rank s) (line_rank t) (place_in_line s) (place_in_line t) _ _ refl refl (place_below s i) (place_below t j) l),
  λ c. ranks_by (line_rank s) (line_rank t) (place_in_line s) (place_in_line t) (place_below s i) (of_places s t c),
) where
  comes_before : (s t : Seat) → (line_rank s < line_rank t) ⊎ ((line_rank s ≡ line_rank t) × (place_in_line s < place_in_line t)) → ComesBefore s t
  comes_before s t h = elim h [
    | inl less ↦ inl less
    | inr same ↦ inr (same.0, earlier_by s t (is_preferred s) (is_preferred t) refl refl same.1)
  ]

  of_places : (s t : Seat) → ComesBefore s t → (line_rank s < line_rank t) ⊎ ((line_rank s ≡ line_rank t) × (place_in_line s < place_in_line t))
  of_places s t h = elim h [
    | inl less ↦ inl less
    | inr same ↦ inr (same.0, earlier_of s t same.1)
  ]

-- ---- the test as code makes it

by_place : (xs : List Seat) (first n : ℕ) (b c : Bool) → (first == n) ≡ b → is_first xs n ≡ c → IsFirst xs first → b ≡ c
by_place xs first n true c e f h = sym (is_the_first xs n (subst (λ (k : ℕ). IsFirst xs k) (eq_true first n e) h)) ∙ f
by_place xs first n false true e f h = absurd (eq_false first n e (one_first xs first n h (first_is xs n f)))
by_place xs first n false false e f h = refl

pub first_is_at : (xs : List Seat) (first n : ℕ) → IsFirst xs first → (first == n) ≡ is_first xs n
first_is_at xs first n h = by_place xs first n (first == n) (is_first xs n) refl refl h

pub first_idle : (xs : List Seat) (n : ℕ) → held_at xs n ≡ 0 → false ≡ is_first xs n
first_idle xs n e = not_waiting (held_at xs n) _ e where
  not_waiting : (a : ℕ) (b : Bool) → a ≡ 0 → false ≡ (nat_lt 0 a && b)
  not_waiting a b e = rw e refl
