-- Sets of pages.
use Rattle.std.proofs.Common.{◌≡◌, ℕ, zero, suc, ◌+◌, ◌^◌, ◌<◌, ◌≤◌, ◌⊎◌, inl, inr, Bool, true}
use Rattle.std.proofs.Common.{false, not, ◌&&◌, ◌||◌, List, [], ◌∷◌, length, refl, sym, ◌∙◌, ap}
use Rattle.std.proofs.lemmas.Bool.{ne_eqb, or_from, both_ways, or_left, or_right}
use Rattle.std.proofs.lemmas.List.{same_lists, get_or_default, get_or_past, get_or-set_same}
use Rattle.{std.specs.List.range_with_len, vb_model.specs.Pages.pages_of}
use Rattle.std.{proofs.lemmas.Bool.false_from_ne_true, specs.Prelude.{count_by, slice_set as put}}
use Rattle.std.proofs.{Common.arith, lemmas.{List.{get_or-set_other, length-set}, Nat.pow_pos}}
use Rattle.vb_virtio.proofs.Tables.{length-each_from, each_page-get, count_by-cons}
use Rattle.vb_virtio.proofs.Ranges.{is_in-range, outside-range}
use Rattle.vb_virtio.specs.Tests.{is_in, one_if}
use Rattle.vb_pages.specs.Areas.{has, with_pages, without_pages, block_at}

pub same_bool : (a b : Bool) → (a ≡ true → b ≡ true) → (b ≡ true → a ≡ true) → a ≡ b
same_bool true b f g = sym (f refl)
same_bool false b f g = sym (false_from_ne_true b (λ e. both_ways false refl (g e)))

pub is_inside : (set : List Bool) (p : ℕ) → has set p ≡ true → p < length set
is_inside set p h = grind (arith, get_or_past)

pub same_sets : (a b : List Bool) → length a ≡ length b → ((p : ℕ)
    → has a p ≡ true → has b p ≡ true) → ((p : ℕ) → has b p ≡ true → has a p ≡ true) → a ≡ b
same_sets a b l f g = same_lists a b l (λ k d h. get_or_default a k d false h
    ∙ (same_bool (has a k) (has b k) (f k) (g k)
    ∙ sym (get_or_default b k d false (omega (arith, l)))))

-- ---- pages that come and go

pub length-with_pages : (ps : List ℕ) (set : List Bool) → length (with_pages ps set) ≡ length set
unfolding with_pages
length-with_pages ps set = length-each_from 0 (λ page old. old || is_in page ps) set

pub length-without_pages : (ps : List ℕ) (set : List Bool)
    → length (without_pages ps set) ≡ length set
unfolding without_pages
length-without_pages ps set = length-each_from 0 (λ page old. old && not (is_in page ps)) set

pub has-with_pages : (ps : List ℕ) (set : List Bool) (p : ℕ) → p < length set
    → has (with_pages ps set) p ≡ (has set p || is_in p ps)
unfolding with_pages
has-with_pages ps set p h =
    each_page-get (λ page old. old || is_in page ps) set p false (λ l. absurd (omega arith))

pub has-without_pages : (ps : List ℕ) (set : List Bool) (p : ℕ)
    → has (without_pages ps set) p ≡ (has set p && not (is_in p ps))
unfolding without_pages
has-without_pages ps set p =
    each_page-get (λ page old. old && not (is_in page ps)) set p false (λ l. refl)

pub with_old : (ps : List ℕ) (set : List Bool) (p : ℕ) → has set p ≡ true
    → has (with_pages ps set) p ≡ true
with_old ps set p h =
    has-with_pages ps set p (is_inside set p h) ∙ or_left (has set p) (is_in p ps) h

pub with_new : (ps : List ℕ) (set : List Bool) (p : ℕ) → p < length set → is_in p ps ≡ true
    → has (with_pages ps set) p ≡ true
with_new ps set p l h = has-with_pages ps set p l ∙ or_right (has set p) (is_in p ps) h

pub with_cases : (ps : List ℕ) (set : List Bool) (p : ℕ) → has (with_pages ps set) p ≡ true
    → (has set p ≡ true) ⊎ (is_in p ps ≡ true)
with_cases ps set p h = grind (arith, is_inside, length-with_pages, has-with_pages)

pub without_parts : (ps : List ℕ) (set : List Bool) (p : ℕ) → has (without_pages ps set) p ≡ true
    → (has set p ≡ true) × (is_in p ps ≡ false)
without_parts ps set p h = grind (arith, has-without_pages)

pub without_old : (ps : List ℕ) (set : List Bool) (p : ℕ) → has set p ≡ true → is_in p ps ≡ false
    → has (without_pages ps set) p ≡ true
without_old ps set p h n = grind (arith, has-without_pages)

-- ---- the pages of a block

pub in_block : (s k p : ℕ) → s ≤ p → p < s + 2 ^ k → is_in p (pages_of (block_at s k)) ≡ true
in_block s k p l h = grind (arith, outside-range)

pub block_bounds : (s k p : ℕ) → is_in p (pages_of (block_at s k)) ≡ true
    → (s ≤ p) × (p < s + 2 ^ k)
block_bounds s k p h = is_in-range p s (2 ^ k) h

pub not_in_block : (s k p : ℕ) → (s ≤ p → p < s + 2 ^ k → ⊥)
    → is_in p (pages_of (block_at s k)) ≡ false
not_in_block s k p h = grind (arith, block_bounds)

-- ---- both at once

pub with_union : (ps qs rs : List ℕ) (set : List Bool)
    → ((p : ℕ) → is_in p rs ≡ true → (is_in p ps ≡ true) ⊎ (is_in p qs ≡ true))
    → ((p : ℕ) → is_in p ps ≡ true → is_in p rs ≡ true) → ((p : ℕ)
    → is_in p qs ≡ true → is_in p rs ≡ true) → with_pages ps (with_pages qs set) ≡ with_pages rs set
with_union ps qs rs set split left right =
    grind (arith, same_sets, length-with_pages, is_inside, with_cases, with_old, with_new)

pub with_without : (ps : List ℕ) (set : List Bool)
    → ((p : ℕ) → is_in p ps ≡ true → has set p ≡ true) → with_pages ps (without_pages ps set) ≡ set
with_without ps set inside = grind (
  arith,
  same_sets,
  length-with_pages,
  length-without_pages,
  with_cases,
  without_parts,
  with_new,
  is_inside,
  with_old,
  without_old,
)

pub without_with : (ps : List ℕ) (set : List Bool)
    → ((p : ℕ) → is_in p ps ≡ true → has set p ≡ false) → without_pages ps (with_pages ps set) ≡ set
without_with ps set outside = grind (
  arith,
  same_sets,
  length-without_pages,
  length-with_pages,
  without_parts,
  with_cases,
  without_old,
  with_old,
)

-- the two halves of a block
pub halves : (s k : ℕ) (set : List Bool)
    → with_pages (pages_of (block_at s k)) (with_pages (pages_of (block_at (s + 2 ^ k) k)) set)
    ≡ with_pages (pages_of (block_at s (suc k))) set
halves s k set = grind (arith, with_union, block_bounds, in_block)

pub halves_turned : (s k : ℕ) (set : List Bool)
    → with_pages (pages_of (block_at (s + 2 ^ k) k)) (with_pages (pages_of (block_at s k)) set)
    ≡ with_pages (pages_of (block_at s (suc k))) set
halves_turned s k set = grind (arith, with_union, block_bounds, in_block)

-- ---- counts

with_cons : (p : ℕ) (ps : List ℕ) (set : List Bool)
    → with_pages (p ∷ ps) set ≡ with_pages ps (with_pages (p ∷ []) set)
with_cons p ps set = grind (arith, with_union)

with_one : (p : ℕ) (set : List Bool) → p < length set → with_pages (p ∷ []) set ≡ put set p true
with_one p set l = same_lists (with_pages (p ∷ []) set) (put set p true)
    (length-with_pages (p ∷ []) set ∙ sym (length-set set p true)) (λ k d h.
    let k_in : k < length set = omega (arith, length-with_pages (p ∷ []) set) in
    get_or_default (with_pages (p ∷ []) set) k d false h ∙ (grind (
      arith,
      has-with_pages,
      get_or-set_same,
      get_or_default,
      get_or-set_other,
    )))
  where
    or_false : (b : Bool) → (b || (false || false)) ≡ b
    or_false true = refl
    or_false false = refl

pub count_one : (p : ℕ) (set : List Bool) → p < length set → has set p ≡ false
    → count_by (λ f. f) (with_pages (p ∷ []) set) ≡ count_by (λ f. f) set + 1
count_one p set l f = ap (count_by (λ f. f)) (with_one p set l) ∙ put_counts set p l f where
  put_counts : (xs : List Bool) (i : ℕ) → i < length xs → has xs i ≡ false
      → count_by (λ f. f) (put xs i true) ≡ count_by (λ f. f) xs + 1
  put_counts [] i h e = absurd (omega arith)
  put_counts (x ∷ xs) zero h e = count_by-cons (λ f. f) true xs
      ∙ (let c : count_by (λ f. f) (x ∷ xs) ≡ count_by (λ f. f) xs = count_by-cons (λ f. f) x xs
      ∙ ap (λ (b : Bool). one_if b + count_by (λ f. f) xs) e ∙ omega arith in omega (arith, c))
  put_counts (x ∷ xs) (suc i) h e = omega (
    arith,
    count_by-cons (λ f. f) x (put xs i true),
    count_by-cons (λ f. f) x xs,
    put_counts xs i (omega arith) e,
  )

pub count_range : (n s : ℕ) (set : List Bool) → s + n ≤ length set
    → ((p : ℕ) → s ≤ p → p < s + n → has set p ≡ false)
    → count_by (λ f. f) (with_pages (range_with_len s n) set) ≡ count_by (λ f. f) set + n
count_range zero s set l h = ap (count_by (λ f. f))
    (same_sets (with_pages [] set) set (length-with_pages [] set)
    (λ p e. elim (with_cases [] set p e)
    [ inl old ↦ old | inr new ↦ absurd (both_ways false refl new) ]) (λ p e. with_old [] set p e))
    ∙ (let z : count_by (λ f. f) set ≡ count_by (λ f. f) set + 0 = omega arith in z)
count_range (suc n) s set l h = grind (
  arith,
  count_one,
  with_cons,
  count_range n (s + 1) (with_pages (s ∷ []) set) (omega (arith, length-with_pages (s ∷ []) set)) (λ
      p a b. has-with_pages (s ∷ []) set p (omega arith) ∙ or_from (has set p) (is_in p (s ∷ [])) (h
      p (omega arith) (omega arith)) (ap (λ (v : Bool). v || false) (ne_eqb s p (λ e. omega
      arith)))),
)

pub count_without : (s k : ℕ) (set : List Bool)
    → ((p : ℕ) → s ≤ p → p < s + 2 ^ k → has set p ≡ true) → count_by (λ f. f) set
    ≡ count_by (λ f. f) (without_pages (pages_of (block_at s k)) set) + 2 ^ k
count_without s k set inside = let block = pages_of (block_at s k) in
    let back : with_pages block (without_pages block set) ≡ set =
    with_without block set (λ p h. let b = block_bounds s k p h in inside p b.0 b.1) in
    let pos : 0 < 2 ^ k = pow_pos k in
    grind (arith, is_inside, count_range, length-without_pages, has-without_pages, in_block)

pub count_le : (set : List Bool) → count_by (λ f. f) set ≤ length set
count_le [] = omega arith
count_le (x ∷ xs) = grind (arith, count_by-cons (λ f. f) x xs, count_le xs)
