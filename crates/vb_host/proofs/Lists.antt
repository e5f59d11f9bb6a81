-- Lists of guests, of which one is changed.
use Rattle.std.proofs.Common.{◌≡◌, ◌≢◌, ℕ, zero, suc, ◌+◌, ◌≤◌, Bool, true, false, nat_lt, List, [], ◌∷◌, map, sum_by, Some, refl, ap, subst, arith}
use Rattle.std.proofs.lemmas.List.Sums.{sum_by-cons}
use Rattle.std.specs.Prelude.{slice_get}
use Rattle.std.specs.List.{AllByRecursion}
use Rattle.vb_host.specs.declared.seat.Seat.{Seat}
use Rattle.vb_host.specs.Lending.{owed, each_at, value_at, test_at, held_at}
use Rattle.vb_host.specs.Promises.{strictly}
use Rattle.vb_host.specs.Seats.{lent, waits}
use Rattle.vb_host.specs.System.{Guest, seats, view, by_lender, arriving}
use Rattle.vb_host.proofs.LentBy.{seen_lends, viewed_lends}

pub all_at : (P : Guest → Type 0) (n : ℕ) (f : Guest → Guest) (xs : List Guest) → ((g : Guest) → P g → P (f g)) → AllByRecursion P xs → AllByRecursion P (each_at n f xs)
all_at P n f [] h a = a
all_at P zero f (x ∷ xs) h a = (h x a.0, a.1)
all_at P (suc n) f (x ∷ xs) h a = (a.0, all_at P n f xs h a.1)

-- where the one that is changed passes a test, as the lender sees it
pub all_where : (P : Guest → Type 0) (test : Seat → Bool) (n : ℕ) (f : Guest → Guest) (xs : List Guest) → ((g : Guest) → test (view g) ≡ true → P g → P (f g))
    → test_at test (seats xs) n ≡ true → AllByRecursion P xs → AllByRecursion P (each_at n f xs)
all_where P test n f [] h e a = a
all_where P test zero f (x ∷ xs) h e a = (h x e a.0, a.1)
all_where P test (suc n) f (x ∷ xs) h e a = (a.0, all_where P test n f xs h e a.1)

pub all_map : (P : Guest → Type 0) (f : Guest → Guest) (xs : List Guest) → ((g : Guest) → P g → P (f g)) → AllByRecursion P xs → AllByRecursion P (map f xs)
all_map P f [] h a = a
all_map P f (x ∷ xs) h a = (h x a.0, all_map P f xs h a.1)

-- ---- what is lent together

-- by the seats of the last lenders that knew the guests
abbrev pub its_lent : Guest → ℕ
its_lent g = strictly g.strict (lent g.seat)

abbrev pub lent_all : List Guest → ℕ
lent_all xs = sum_by its_lent xs

pub strictly_by : (b : Bool) (x y more : ℕ) → (b ≡ true → x ≤ y + more) → strictly b x ≤ strictly b y + more
strictly_by true x y more h = h refl
strictly_by false x y more h = omega arith

pub strictly_within : (b : Bool) (x : ℕ) → strictly b x ≤ x
strictly_within true x = omega arith
strictly_within false x = omega arith

-- a guest is lent no more than this above what it was lent, and so are all
pub lends_at : (P : Guest → Type 0) (more n : ℕ) (f : Guest → Guest) (xs : List Guest) → ((g : Guest) → P g → its_lent (f g) ≤ its_lent g + more) → AllByRecursion P xs
    → lent_all (each_at n f xs) ≤ lent_all xs + more
lends_at P more n f [] h a = omega arith
lends_at P more zero f (x ∷ xs) h a = omega (arith, h x a.0, sum_by-cons its_lent (f x) xs, sum_by-cons its_lent x xs)
lends_at P more (suc n) f (x ∷ xs) h a = omega (arith, lends_at P more n f xs h a.1, sum_by-cons its_lent x (each_at n f xs), sum_by-cons its_lent x xs)

pub lent_map : (P : Guest → Type 0) (f : Guest → Guest) (xs : List Guest) → ((g : Guest) → P g → its_lent (f g) ≤ its_lent g) → AllByRecursion P xs
    → lent_all (map f xs) ≤ lent_all xs
lent_map P f [] h a = omega arith
lent_map P f (x ∷ xs) h a = omega (arith, h x a.0, lent_map P f xs h a.1, sum_by-cons its_lent (f x) (map f xs), sum_by-cons its_lent x xs)

-- what one is lent depends on itself, and it passes a test
pub lent_where : (test : Seat → Bool) (n : ℕ) (f : Guest → Guest) (xs : List Guest) → ((g : Guest) → test (view g) ≡ true → its_lent (f g) ≤ its_lent g)
    → test_at test (seats xs) n ≡ true → lent_all (each_at n f xs) ≤ lent_all xs
lent_where test n f [] h e = omega arith
lent_where test zero f (x ∷ xs) h e = omega (arith, h x e, sum_by-cons its_lent (f x) xs, sum_by-cons its_lent x xs)
lent_where test (suc n) f (x ∷ xs) h e = omega (arith, lent_where test n f xs h e, sum_by-cons its_lent x (each_at n f xs), sum_by-cons its_lent x xs)

-- a lender that doesn't know a guest sees it with all that it may have
pub lent_seen : (xs : List Guest) → lent_all xs ≤ owed (seats xs)
lent_seen [] = omega arith
lent_seen (x ∷ xs) = omega (
  arith,
  strictly_within x.strict (lent x.seat),
  viewed_lends x.known x.seat,
  lent_seen xs,
  sum_by-cons its_lent x xs,
  sum_by-cons lent (view x) (seats xs),
)

-- what a lender does to the seat of a guest, by what it sees
pub seen_at : (test : Seat → Bool) (more : Seat → ℕ) (n : ℕ) (f : Seat → Seat) (xs : List Guest) → ((s : Seat) → test s ≡ true → lent (f s) ≤ lent s + more s)
    → test_at test (seats xs) n ≡ true → lent_all (each_at n (by_lender f) xs) ≤ owed (seats xs) + value_at more (seats xs) n
seen_at test more n f [] h e = omega arith
seen_at test more zero f (x ∷ xs) h e = omega (
  arith,
  strictly_within x.strict (lent (by_lender f x).seat),
  seen_lends x.known f x.seat test more h e,
  lent_seen xs,
  sum_by-cons its_lent (by_lender f x) xs,
  sum_by-cons lent (view x) (seats xs),
)
seen_at test more (suc n) f (x ∷ xs) h e = omega (
  arith,
  strictly_within x.strict (lent x.seat),
  viewed_lends x.known x.seat,
  seen_at test more n f xs h e,
  sum_by-cons its_lent x (each_at n (by_lender f) xs),
  sum_by-cons lent (view x) (seats xs),
)

-- ---- tests

pub test_implies : (one other : Seat → Bool) (n : ℕ) (xs : List Seat) → ((s : Seat) → one s ≡ true → other s ≡ true) → test_at one xs n ≡ true → test_at other xs n ≡ true
test_implies one other n [] h e = e
test_implies one other zero (x ∷ xs) h e = h x e
test_implies one other (suc n) (x ∷ xs) h e = test_implies one other n xs h e

pub waits_at : (xs : List Seat) (n : ℕ) → nat_lt 0 (held_at xs n) ≡ true → test_at waits xs n ≡ true
waits_at [] n e = e
waits_at (x ∷ xs) zero e = e
waits_at (x ∷ xs) (suc n) e = waits_at xs n e

-- ---- one joins another

pub some_is : (x g : Guest) → Some x ≡ Some g → x ≡ g
some_is x g e = cc

-- a guest that has gone was lent what it was lent
gone_lends : (xs : List Guest) (m : ℕ) (x : Guest) → slice_get xs m ≡ Some x → lent_all (each_at m (λ _. arriving 0 0) xs) + its_lent x ≤ lent_all xs
gone_lends [] m x e = absurd (cc)
gone_lends (y ∷ xs) zero x e = omega (arith, ap its_lent (some_is y x e), sum_by-cons its_lent (arriving 0 0) xs, sum_by-cons its_lent y xs)
gone_lends (y ∷ xs) (suc m) x e = omega (arith, gone_lends xs m x e, sum_by-cons its_lent y (each_at m (λ _. arriving 0 0) xs), sum_by-cons its_lent y xs)

lent_grows : (xs : List Guest) (n : ℕ) (f : Guest → Guest) (more : ℕ) → ((g : Guest) → its_lent (f g) ≤ its_lent g + more) → lent_all (each_at n f xs) ≤ lent_all xs + more
lent_grows [] n f more h = omega arith
lent_grows (x ∷ xs) zero f more h = omega (arith, h x, sum_by-cons its_lent (f x) xs, sum_by-cons its_lent x xs)
lent_grows (x ∷ xs) (suc n) f more h = omega (arith, lent_grows xs n f more h, sum_by-cons its_lent x (each_at n f xs), sum_by-cons its_lent x xs)

pub join_lends : (xs : List Guest) (n m : ℕ) (x : Guest) (f : Guest → Guest) → n ≢ m → slice_get xs m ≡ Some x → ((g : Guest) → its_lent (f g) ≤ its_lent g + its_lent x)
    → lent_all (each_at m (λ _. arriving 0 0) (each_at n f xs)) ≤ lent_all xs
join_lends [] n m x f d e h = absurd (cc)
join_lends (y ∷ xs) zero zero x f d e h = absurd (d refl)
join_lends (y ∷ xs) zero (suc m) x f d e h = omega (arith, h y, gone_lends xs m x e, sum_by-cons its_lent (f y) (each_at m (λ _. arriving 0 0) xs), sum_by-cons its_lent y xs)
join_lends (y ∷ xs) (suc n) zero x f d e h = omega (
  arith,
  ap its_lent (some_is y x e),
  lent_grows xs n f (its_lent x) h,
  sum_by-cons its_lent (arriving 0 0) (each_at n f xs),
  sum_by-cons its_lent y xs,
)
join_lends (y ∷ xs) (suc n) (suc m) x f d e h = omega (
  arith,
  join_lends xs n m x f (λ k. d (ap (λ (i : ℕ). suc i) k)) e h,
  sum_by-cons its_lent y (each_at m (λ _. arriving 0 0) (each_at n f xs)),
  sum_by-cons its_lent y xs,
)

pub all_get : (P : Guest → Type 0) (xs : List Guest) (n : ℕ) (g : Guest) → AllByRecursion P xs → slice_get xs n ≡ Some g → P g
all_get P [] n g a e = absurd (cc)
all_get P (x ∷ xs) zero g a e = subst P (some_is x g e) a.0
all_get P (x ∷ xs) (suc n) g a e = all_get P xs n g a.1 e
