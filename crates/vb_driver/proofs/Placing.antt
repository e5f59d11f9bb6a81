-- Tables of places, as pages move one by one.
use Rattle.std.proofs.Common.{◌≡◌, ◌∙◌, sym, ap, arith, refl, ℕ, zero, suc}
use Rattle.std.proofs.Common.{◌+◌, ◌-◌, ◌<◌, ◌≤◌, Bool, true, false, cond, eqb, ◌||◌, List, [], ◌∷◌}
use Rattle.std.proofs.Common.{◌++◌, length, take, get_or, set, map, eq-eqb, count_by, if◌then◌else◌}
use Rattle.std.proofs.lemmas.{Bool.ne_eqb, List.{same_lists, get_or-set_same, get_or-set_other}}
use Rattle.std.proofs.lemmas.List.{length-set, get_or-map, length-map, take_more, length-take}
use Rattle.std.{proofs.lemmas.List.Folds.{list_any-append, list_any_at}, specs.List.range_with_len}
use Rattle.vb_virtio.specs.Tests.{is_in, one_if, pages_from, pages_where}
use Rattle.vb_virtio.proofs.Tables.{count_by-cons, length-each_from, each_page-get}
use Rattle.vb_model.specs.declared.places.Place.{Place}
use Rattle.vb_model.specs.Pages.{placed}
use Rattle.vb_driver.specs.Places.{marked}

-- ---- some pages of a table have one value

pub length-marked : {A : Type 0} (pages : List ℕ) (value : A) (table : List A)
    → length (marked pages value table) ≡ length table
length-marked pages value table =
    length-each_from 0 (λ page old. if is_in page pages then value else old) table

pub marked-get : {A : Type 0} (pages : List ℕ) (value : A) (table : List A) (k : ℕ) (d : A)
    → k < length table → get_or (marked pages value table) k d
    ≡ cond (is_in k pages) value (get_or table k d)
marked-get pages value table k d lt = grind (arith, each_page-get)

pub is_in-push : (k : ℕ) (xs : List ℕ) (x : ℕ)
    → is_in k (xs ++ x ∷ []) ≡ (is_in k xs || (eqb x k || false))
is_in-push k xs x = list_any-append (λ m. eqb m k) xs (x ∷ [])

pub or_false : (a : Bool) → (a || false) ≡ a
or_false x = grind arith

pub or_true : (a : Bool) → (a || true) ≡ true
or_true x = grind arith

-- one page more
pub marked_more : {A : Type 0} (xs : List ℕ) (x : ℕ) (value : A) (table : List A) → x < length table
    → marked (xs ++ x ∷ []) value table ≡ set (marked xs value table) x value
marked_more xs x value table lt = grind (
  arith,
  length-marked,
  same_lists,
  length-set,
  marked-get,
  is_in-push,
  get_or-set_same,
  get_or-set_other,
)

pub marked_none : {A : Type 0} (value : A) {table : List A} → marked [] value table ≡ table
marked_none value = grind (arith, same_lists, length-marked, marked-get)

-- one page alone
pub marked_one : {A : Type 0} (x : ℕ) (value : A) (table : List A)
    → x < length table → marked (x ∷ []) value table ≡ set table x value
marked_one x value table lt =
    marked_more [] x value table lt ∙ ap (λ (l : List _). set l x value) (marked_none value)

-- some pages, and then others
pub marked_append : {A : Type 0} (xs ys : List ℕ) (value : A) (table : List A)
    → marked ys value (marked xs value table) ≡ marked (xs ++ ys) value table
marked_append {A = A} xs ys value table =
    grind (arith, length-marked, same_lists, marked-get, list_any-append)

-- a block's pages, up to the next
pub range_push : (start k : ℕ)
    → range_with_len start (suc k) ≡ range_with_len start k ++ (start + k) ∷ []
range_push start zero = ap (λ (n : ℕ). n ∷ []) (omega arith)
range_push start (suc k) = grind (arith, range_push (start + 1) k)

pub placed_next : (start page : ℕ) (place : Place) (ps : List Place) → start ≤ page
    → page < length ps → set (placed (range_with_len start (page - start)) place ps) page place
    ≡ placed (range_with_len start (page + 1 - start)) place ps
placed_next start page place ps from lt = let k = page - start in
    let here : start + k ≡ page = omega arith in
    let next : suc k ≡ page + 1 - start = omega arith in
    sym (marked_more (range_with_len start k) page place ps lt) ∙ ap
    (λ (l : List ℕ). placed l place ps) (ap (λ (n : ℕ). range_with_len start k ++ n ∷ []) (sym here)
    ∙ (sym (range_push start k) ∙ ap (λ (n : ℕ). range_with_len start n) next))

-- a run of pages, and then the pages after it
range_append : (start a b : ℕ)
    → range_with_len start a ++ range_with_len (start + a) b ≡ range_with_len start (a + b)
range_append start zero b = ap (λ (n : ℕ). range_with_len n b) (omega arith)
    ∙ ap (range_with_len start) (omega arith)
range_append start (suc a) b = let here : start + suc a ≡ start + 1 + a = omega arith in
    let all : suc (a + b) ≡ suc a + b = omega arith in ap (λ (l : List ℕ). start ∷ l)
    (ap (λ (n : ℕ). range_with_len (start + 1) a ++ range_with_len n b) here
    ∙ range_append (start + 1) a b) ∙ ap (range_with_len start) all

pub placed_further : (start page next : ℕ) (place : Place) (ps : List Place) → start ≤ page
    → page ≤ next → placed (range_with_len page (next - page)) place
    (placed (range_with_len start (page - start)) place ps)
    ≡ placed (range_with_len start (next - start)) place ps
placed_further start page next place ps from further = grind (
  arith,
  marked_append (range_with_len start (page - start)) (range_with_len page (next - page)) place ps,
  range_append start (page - start) (next - page),
)

-- ---- each page to a place that its own decides

-- the first i entries have changed
pub record Changing (old now : List Place) (f : Place → Place) (i : ℕ) : Type 0 where
  pub same : length now ≡ length old
  pub put : (k : ℕ) (d : Place) → k < i → k < length old → get_or now k d ≡ f (get_or old k d)
  pub rest : (k : ℕ) (d : Place) → i ≤ k → get_or now k d ≡ get_or old k d

pub changing_more : {old now : List Place} {f : Place → Place} {i : ℕ} (y : Place)
    → Changing old now f i
    → i < length old → ((d : Place) → y ≡ f (get_or old i d)) → Changing old (set now i y) f (i + 1)
changing_more y c lt is = search (arith, length-set, get_or-set_same, get_or-set_other)

pub changed_all : {old now : List Place} {f : Place → Place} {i : ℕ}
    → Changing old now f i → length old ≤ i → now ≡ map f old
changed_all c all = grind (arith, same_lists, length-map, get_or-map)

-- ---- the pages that pass a test

pub pages_from-append : {A : Type 0} (first : ℕ) (test : A → Bool) (xs ys : List A)
    → pages_from first test (xs ++ ys) ≡ pages_from first test xs
    ++ pages_from (first + length xs) test ys
pages_from-append first test [] ys = ap (λ n. pages_from n test ys) (omega arith)
pages_from-append first test (x ∷ xs) ys = grind (arith, pages_from-append (suc first) test xs ys)

-- one page more of a table
pub pages_more : {A : Type 0} (test : A → Bool) (xs : List A) (i : ℕ) (d : A) → i < length xs
    → pages_where test (take (i + 1) xs) ≡ pages_where test (take i xs)
    ++ cond (test (get_or xs i d)) (i ∷ []) []
pages_more test xs i d lt = grind (
  arith,
  take_more xs i d lt,
  pages_from-append 0 test (take i xs) (get_or xs i d ∷ []),
  length-take i xs,
)

-- there is none where their count is 0
pub none_where : {A : Type 0} (test : A → Bool) (first : ℕ) (xs : List A) → count_by test xs ≡ 0
    → pages_from first test xs ≡ []
none_where test first [] e = refl
none_where test first (x ∷ xs) e =
    at (test x) (omega (arith, count_by-cons test x xs, e)) (λ none. none_where test (suc first) xs none)
  where
    at : (b : Bool) → one_if b + count_by test xs ≡ 0
        → (count_by test xs ≡ 0 → pages_from (suc first) test xs ≡ [])
        → cond b (first ∷ pages_from (suc first) test xs) (pages_from (suc first) test xs) ≡ []
    at x none ih = grind arith

-- an entry is among the entries
pub is_in-at : (xs : List ℕ) (i : ℕ) → i < length xs → is_in (get_or xs i 0) xs ≡ true
is_in-at xs i lt = list_any_at (λ m. eqb m (get_or xs i 0)) xs i 0 lt
    (eq-eqb (get_or xs i 0) (get_or xs i 0) refl)

-- a page isn't among those below it
pub not_in_first : {A : Type 0} (test : A → Bool) (xs : List A) (n : ℕ)
    → is_in n (pages_where test (take n xs)) ≡ false
not_in_first test xs n = below 0 (take n xs) (omega (arith, length-take n xs)) where
  below : (k : ℕ) (ys : List _) → k + length ys ≤ n → is_in n (pages_from k test ys) ≡ false
  below k [] le = refl
  below k (y ∷ ys) le = at (test y) (below (suc k) ys (omega arith)) where
    at : (b : Bool) → is_in n (pages_from (suc k) test ys) ≡ false
        → is_in n (cond b (k ∷ pages_from (suc k) test ys) (pages_from (suc k) test ys)) ≡ false
    at true ih = ap (λ (v : Bool). v || is_in n (pages_from (suc k) test ys))
        (ne_eqb k n (λ e. omega arith)) ∙ ih
    at false ih = ih
