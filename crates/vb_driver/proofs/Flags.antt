-- Which pages the allocator has free, as a flag a page.
use Rattle.std.{specs.List.list_any, proofs.Common.{subst, ◌≡◌, ◌∙◌, sym, ap, arith, refl, ℕ, ◌+◌}}
use Rattle.std.proofs.Common.{◌<◌, ◌≤◌, Bool, true, false, cond, eqb, not, ◌||◌, ◌&&◌, List, []}
use Rattle.std.proofs.Common.{◌∷◌, ◌++◌, length, take, get_or, map, count_by, Option, Some, eq-eqb}
use Rattle.std.proofs.lemmas.List.{same_lists, get_or_past, length-set, length-map, get_or-map}
use Rattle.std.proofs.lemmas.List.{take_more, Sums.sum_by-take-le, FromFn.get_or-map-range_with_len}
use Rattle.std.proofs.lemmas.{List.FromFn.length-map-range_with_len, Bool.false_from_ne_true}
use Rattle.vb_virtio.specs.Tests.{times, is_in, one_if}
use Rattle.vb_virtio.proofs.Tables.{each_page-get, count_by-cons, count_by-append}
use Rattle.vb_model.specs.Pages.{Block, covers, pages_of, is_free, all_free}
use Rattle.vb_model.specs.declared.places.Place.TheVariants.{Reserved}
use Rattle.{vb_model.proofs.PageSteps.covers_is, vb_pages.proofs.ListsLemmas.{one_if_le, times_in}}
use Rattle.vb_pages.proofs.{ListsLemmas.times_out, AreasLemmas.{length-unreserved, has-unreserved}}
use Rattle.vb_pages.proofs.{Sets.length-with_pages, FreeLemmas.flat-replicate}
use Rattle.vb_pages.specs.PageState.{PageState, page_count, is_free_page, is_unreserved, IsApart}
use Rattle.vb_pages.specs.{PageState.{new_page_state, with_free_block}, FreePages.FreePages}
use Rattle.vb_pages.specs.FreePages.{in_lists, drained, times_free, given_back, Tries, Serves}
use Rattle.vb_driver.specs.{Areas.{AreFor, flags_of, is_free_at, all_given}, Places.marked}
use Rattle.vb_driver.{specs.{Places.first_place, Answers.block_at}, proofs.Placing.length-marked}

-- ---- a page's flag

pub length_flags : (s : PageState) → length (flags_of s.free) ≡ page_count s
unfolding flags_of
length_flags s = length-map-range_with_len (is_free_page s) 0 (page_count s)

pub flag_at : (s : PageState) (p : ℕ) (d : Bool) → p < page_count s
    → get_or (flags_of s.free) p d ≡ is_free_page s p
unfolding flags_of
flag_at s p d lt = get_or-map-range_with_len (is_free_page s) 0 (page_count s) p p d lt
    (omega arith)

-- a page with a flag is free
pub flag_free : (s : PageState) (p : ℕ) → is_free_at (flags_of s.free) p ≡ true
    → is_free_page s p ≡ true
flag_free s p h = grind (arith, flag_at, get_or_past, length_flags)

some_times : (s : PageState) (p : ℕ) → is_free_page s p ≡ true → 1 ≤ times_free s.free p
some_times s p h = grind (arith, times_in)

-- a free page is there, and isn't reserved
pub free_inside : (s : PageState) (p : ℕ) → IsApart s → is_free_page s p ≡ true → p < page_count s
free_inside s p apart h = grind (arith, some_times)

pub free_flag : (s : PageState) (p : ℕ) → IsApart s → is_free_page s p ≡ true
    → is_free_at (flags_of s.free) p ≡ true
free_flag s p apart h = flag_at s p false (free_inside s p apart h) ∙ h

-- a page in a held block isn't free
pub held_unfree : (s : PageState) (p : ℕ) → IsApart s → list_any (covers p) s.held ≡ true
    → is_free_at (flags_of s.free) p ≡ false
held_unfree s p apart covered = false_from_ne_true (is_free_at (flags_of s.free) p) (λ h.
    let free : 1 ≤ times_free s.free p = some_times s p (flag_free s p h) in
    let held : 1 ≤ count_by (covers p) s.held = some_covers s.held covered in
    omega (arith, apart p, one_if_le (is_unreserved s p))) where
      step : (b : Bool) (rest : Bool) (n : ℕ) → (b || rest) ≡ true → (rest ≡ true → 1 ≤ n)
          → 1 ≤ one_if b + n
      step x rest n h k = grind arith

      some_covers : (held : List Block) → list_any (covers p) held ≡ true
          → 1 ≤ count_by (covers p) held
      some_covers [] h = cc
      some_covers (b ∷ held) h = omega (
        arith,
        count_by-cons (covers p) b held,
        step (covers p b) (list_any (covers p) held) (count_by (covers p) held) h (some_covers held),
      )

-- ---- flags that change

pub flags_moved : (s new : PageState) (pages : List ℕ) (flag : Bool) → page_count new ≡ page_count s
    → ((p : ℕ) → is_free_page new p ≡ cond (is_in p pages) flag (is_free_page s p))
    → flags_of new.free ≡ marked pages flag (flags_of s.free)
flags_moved s new pages flag size agree =
    grind (arith, same_lists, length_flags, length-marked, flag_at, each_page-get)

pub flags_same : (s new : PageState) → page_count new ≡ page_count s
    → ((p : ℕ) → is_free_page new p ≡ is_free_page s p) → flags_of new.free ≡ flags_of s.free
flags_same s new size agree = grind (arith, same_lists, length_flags, flag_at)

pub left_by : (p : ℕ) (b : Block) (old : Bool)
    → (old && not (covers p b)) ≡ cond (is_in p (pages_of b)) false old
left_by p b old = grind (arith, covers_is)

pub gained_by : (p : ℕ) (b : Block) (old : Bool)
    → (old || covers p b) ≡ cond (is_in p (pages_of b)) true old
gained_by p b old = grind (arith, covers_is)

-- what these pages left over, where each is once
pub taken_by : (p : ℕ) (pages : List ℕ) {new : Bool} (old : Bool)
    → one_if new + times p pages ≡ one_if old → new ≡ cond (is_in p pages) false old
taken_by p pages old sum = grind (arith, times_in, times_out)

-- ---- as many processors, and pages, as before

pub for_itself : {f : FreePages} → AreFor f f
for_itself = record { processors = refl; reserved = refl }

-- the same of areas that are these
pub for_these : {f g new : FreePages} → new ≡ g → AreFor f g → AreFor f new
for_these {f} is same = subst (AreFor f) (sym is) same

pub for_both : {f g h : FreePages} → AreFor f g → AreFor g h → AreFor f h
for_both first next = search (arith)

drained_for : {f : FreePages} → AreFor f (drained f)
drained_for = grind (arith, length-map)

tries_for : {f new : FreePages} (cpu order : ℕ) (got : Option ℕ)
    → Tries f cpu order got new → AreFor f new
tries_for cpu order got h = grind (arith, length-set)

pub serves_for : {f new : FreePages} (cpu order start : ℕ)
    → Serves f cpu order (Some start) new → AreFor f new
serves_for cpu order start h = grind (arith, tries_for, drained_for)

pub record SameSizes (f new : FreePages) : Type 0 where
  pub pages : length new.areas ≡ length f.areas
  pub same : AreFor f new

pub drained_sizes : (f : FreePages) → SameSizes f (drained f)
drained_sizes f = record { pages = length-with_pages (in_lists f) f.areas; same = drained_for }

pub given_sizes : {f : FreePages} (cpu start order : ℕ) → SameSizes f (given_back cpu start order f)
given_sizes cpu start order = grind (arith, length-with_pages, length-set)

-- ---- a guest as it is plugged in

free_first : (pages cpus reserved k : ℕ) → k < pages
    → is_free_page (new_page_state pages cpus reserved) k ≡ is_free (first_place reserved k)
free_first pages cpus reserved k lt = grind (arith, flat-replicate, has-unreserved)

pub fresh_flags : (pages cpus reserved : ℕ)
    → flags_of (new_page_state pages cpus reserved).free ≡ map is_free (all_free reserved pages)
fresh_flags pages cpus reserved = let s = new_page_state pages cpus reserved in
    let places = all_free reserved pages in
    let size : page_count s ≡ pages = length-unreserved pages reserved in
    let all : length places ≡ pages = length-map-range_with_len (first_place reserved) 0 pages in
    same_lists (flags_of s.free) (map is_free places)
    (length_flags s ∙ (size ∙ sym (length-map places is_free ∙ all))) (λ k d near.
    let here : k < pages = omega (arith, length_flags s) in flag_at s k d (omega arith)
    ∙ (free_first pages cpus reserved k here
    ∙ sym (get_or-map is_free places k Reserved d (omega arith) ∙ ap is_free
    (get_or-map-range_with_len (first_place reserved) 0 pages k k Reserved here (omega arith)))))

-- ---- pages that come back one by one

pub given_more : (xs : List ℕ) (x : ℕ) (s : PageState)
    → all_given (xs ++ x ∷ []) s ≡ with_free_block (block_at x 0) (all_given xs s)
given_more [] x s = refl
given_more (y ∷ xs) x s = given_more xs x (with_free_block (block_at y 0) s)

-- a page that is once isn't among those before it
pub not_before : (pages : List ℕ) (i : ℕ) → i < length pages → times (get_or pages i 0) pages ≤ 1
    → is_in (get_or pages i 0) (take i pages) ≡ false
not_before pages i lt once = let x = get_or pages i 0 in
    false_from_ne_true (is_in x (take i pages)) (λ h.
    let more : times x (take (i + 1) pages) ≡ times x (take i pages ++ x ∷ []) =
    ap (times x) (take_more pages i 0 lt) in
    let one : times x (x ∷ []) ≡ 1 = search (arith, count_by-cons, eqb, eq-eqb) in omega (
      arith,
      times_in x (take i pages) h,
      count_by-append (λ q. eqb q x) (take i pages) (x ∷ []),
      sum_by-take-le (λ q. cond (eqb q x) 1 0) pages (i + 1),
    ))
