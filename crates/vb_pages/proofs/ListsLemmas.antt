-- Pages that move between a list and the areas: how often each is there.
use Rattle.std.proofs.Common.{◌≡◌, ℕ, ◌+◌, ◌%◌, ◌^◌, ◌<◌, ◌≤◌, inl, inr, Bool, true, false, List}
use Rattle.std.{proofs.lemmas.List.Folds.list_any-append, specs.Prelude.{◌==◌, count_by, nat_lt}}
use Rattle.std.proofs.lemmas.Bool.{cases_Bool, both_ways, or_cases, or_parts, eq-eqb, ltb-true}
use Rattle.std.proofs.Common.{[], ◌∷◌, ◌++◌, length, Some, refl, sym, ◌∙◌, ap, arith, length-append}
use Rattle.vb_virtio.specs.Tests.{is_in, one_if}
use Rattle.vb_virtio.proofs.Tables.{count_by-cons, count_by-append}
use Rattle.vb_model.proofs.PageSteps.{covers_is}
use Rattle.vb_model.specs.Pages.{pages_of, covers}
use Rattle.vb_pages.proofs.Sets.{with_union, with_cases, with_old, with_new, without_parts}
use Rattle.vb_pages.specs.Areas.{has, with_pages, without_pages, block_at, HasNoBlock, TakesBlock}
use Rattle.vb_pages.{specs.{Areas.IsBlock, FreePages.TakesPages}, proofs.AreasLemmas.taken_inside}
use Rattle.vb_pages.proofs.Sets.{without_old, length-with_pages, count_one, same_sets, block_bounds}

-- how often a page is in a list
abbrev pub times : ℕ → List ℕ → ℕ
times page xs = count_by (λ p. p == page) xs

pub times-cons : (p x : ℕ) (xs : List ℕ) → times p (x ∷ xs) ≡ one_if (x == p) + times p xs
times-cons p x xs = count_by-cons (λ q. q == p) x xs

pub times-append : (p : ℕ) (xs ys : List ℕ) → times p (xs ++ ys) ≡ times p xs + times p ys
times-append p xs ys = count_by-append (λ q. q == p) xs ys

pub times-one : (p x : ℕ) → times p (x ∷ []) ≡ one_if (x == p)
times-one p x = let e = times-cons p x [] in omega (arith, e)

pub times_in : (p : ℕ) (xs : List ℕ) → is_in p xs ≡ true → 1 ≤ times p xs
times_in p [] h = absurd (both_ways false refl h)
times_in p (x ∷ xs) h = elim (or_cases (x == p) (is_in p xs) h) [
  | inl e ↦ let o : one_if (x == p) ≡ 1 = ap one_if e in omega (arith, o, times-cons p x xs)
  | inr m ↦ omega (arith, times_in p xs m, times-cons p x xs)
]

pub times_out : (p : ℕ) (xs : List ℕ) → is_in p xs ≡ false → times p xs ≡ 0
times_out p [] h = refl
times_out p (x ∷ xs) h = let q = or_parts (x == p) (is_in p xs) h in
    let o : one_if (x == p) ≡ 0 = ap one_if q.0 in
    omega (arith, o, times-cons p x xs, times_out p xs q.1)

pub one_if_le : (b : Bool) → one_if b ≤ 1
one_if_le true = omega arith
one_if_le false = omega arith

pub one_if_true : (b : Bool) → 1 ≤ one_if b → b ≡ true
one_if_true true h = refl
one_if_true false h = absurd (omega arith)

pub one_if_false : (b : Bool) → one_if b ≤ 0 → b ≡ false
one_if_false true h = absurd (omega arith)
one_if_false false h = refl

-- ---- pages that come to a set in which they aren't

-- each page is at most once in the set or the list, and is there
abbrev pub Once : List Bool → List ℕ → Type 0
Once set list = (p : ℕ) → one_if (has set p) + times p list ≤ one_if (nat_lt p (length set))

pub with_none : (set : List Bool) → with_pages [] set ≡ set
with_none set = grind (arith, same_sets, length-with_pages, with_cases, with_old)

pub with_append : (xs ys : List ℕ) (set : List Bool)
    → with_pages xs (with_pages ys set) ≡ with_pages (xs ++ ys) set
with_append xs ys set = grind (arith, with_union, list_any-append)

-- how often a page is in a set that some pages came to
pub with_times : (set : List Bool) (xs : List ℕ) → Once set xs → (p : ℕ)
    → one_if (has (with_pages xs set) p) ≡ one_if (has set p) + times p xs
with_times set xs once p = grind (arith, times_in, with_new, times_out, with_old, with_cases)

-- the last page of a list goes into the set first
module _ (set : List Bool) (list rest : List ℕ) (page : ℕ) (is : list ≡ rest ++ page ∷ [])
    (once : Once set list) where
  once_split : (p : ℕ) → one_if (has set p) + (times p rest + one_if (page == p)) ≤ one_if
      (nat_lt p (length set))
  once_split p =
      let e : times p list ≡ times p rest + one_if (page == p) =
      ap (times p) is ∙ (times-append p rest (page ∷ [])
      ∙ ap (λ (n : ℕ). times p rest + n) (times-one p page)) in omega (arith, e, once p)

  last_once : Once set (page ∷ [])
  last_once p = omega (arith, once_split p, times-one p page)

  pub last_inside : page < length set
  last_inside = let o : one_if (page == page) ≡ 1 = ap one_if (eq-eqb page page refl) in
      ltb-true page (length set)
      (one_if_true (nat_lt page (length set)) (omega (arith, o, once_split page)))

  pub last_outside : has set page ≡ false
  last_outside = grind (arith, eq-eqb, one_if_false, once_split, one_if_le)

  pub rest_once : Once (with_pages (page ∷ []) set) rest
  rest_once p = grind (arith, length-with_pages, with_times, last_once, times-one, once_split)

  pub rest_set : with_pages rest (with_pages (page ∷ []) set) ≡ with_pages list set
  rest_set = with_append rest (page ∷ []) set ∙ ap (λ (xs : List ℕ). with_pages xs set) (sym is)

  pub last_count : count_by (λ f. f) (with_pages (page ∷ []) set) ≡ count_by (λ f. f) set + 1
  last_count = count_one page set last_inside last_outside

  pub last_length : length list ≡ length rest + 1
  last_length = ap length is ∙ length-append rest (page ∷ [])

-- ---- pages that are taken one after the other

pub takes_times : (set new : List Bool) (k s : ℕ) → TakesBlock set k (Some s) new → (p : ℕ)
    → one_if (has new p) + one_if (covers p (block_at s k)) ≡ one_if (has set p)
takes_times set new k s t p = let inside = taken_inside set s k t.0.0 t.0.1 in
    let block = pages_of (block_at s k) in
    let e : has new p ≡ has (without_pages block set) p = ap (λ (x : List Bool). has x p) t.1 in
    elim (cases_Bool (is_in p block)) [
      | inl i ↦ grind (arith, block_bounds, without_parts)
      | inr o ↦ grind (arith, covers_is p (block_at s k) false o, without_old, without_parts)
    ]

pub covers_one : (s p : ℕ) → one_if (covers p (block_at s 0)) ≡ one_if (s == p)
covers_one s p = grind arith

pub takes_page_times : (set new : List Bool) (s : ℕ) → TakesBlock set 0 (Some s) new → (p : ℕ)
    → one_if (has new p) + one_if (s == p) ≡ one_if (has set p)
takes_page_times set new s t p = omega (arith, takes_times set new 0 s t p, covers_one s p)

pub takes_pages_times : (set new : List Bool) (pages : List ℕ) → TakesPages set pages new → (p : ℕ)
    → one_if (has new p) + times p pages ≡ one_if (has set p)
takes_pages_times set new [] t p = let e : one_if (has new p) ≡ one_if (has set p) =
    ap (λ (x : List Bool). one_if (has x p)) t in omega (arith, e)
takes_pages_times set new (x ∷ pages) t p = grind (
  arith,
  takes_page_times set t.0 x t.1 p,
  takes_pages_times t.0 new pages t.2 p,
  times-cons p x pages,
)

pub takes_more : (set mid new : List Bool) (pages : List ℕ) (page : ℕ) → TakesPages set pages mid
    → TakesBlock mid 0 (Some page) new → TakesPages set (pages ++ page ∷ []) new
takes_more set mid new [] page t u = (new, rw (← t) u, refl)
takes_more set mid new (x ∷ pages) page t u = (t.0, t.1, takes_more t.0 mid new pages page t.2 u)

pub page_block : (p : ℕ) → IsBlock (block_at p 0)
page_block p = (omega arith, eq-eqb (p % 2 ^ 0) 0 (omega arith))

-- a set without a block of order 0 has no page
pub no_page : (set : List Bool) → HasNoBlock set 0 → (p : ℕ) → has set p ≡ false
no_page set none p = grind (arith, page_block p)

pub takes_none : (set new : List Bool) (p : ℕ) → HasNoBlock set 0 → TakesBlock set 0 (Some p) new
    → ⊥
takes_none set new p none t =
    grind (arith, taken_inside set p 0 t.0.0 t.0.1 p (omega arith) (omega arith))

pub with_append_turned : (xs ys : List ℕ) (set : List Bool)
    → with_pages xs (with_pages ys set) ≡ with_pages (ys ++ xs) set
with_append_turned xs ys set = grind (arith, with_union, list_any-append)
