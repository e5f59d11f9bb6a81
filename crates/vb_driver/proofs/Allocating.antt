-- What the allocator answers, as the driver sees it.
use Rattle.std.proofs.Common.{◌≡◌, ◌∙◌, ap, subst, arith, refl, ℕ, suc, ◌+◌, ◌<◌, ◌≤◌, Bool, true}
use Rattle.std.proofs.Common.{false, eqb, not, ◌||◌, ◌&&◌, ◌⊎◌, ◌↔◌, List, [], ◌∷◌, length, get_or}
use Rattle.std.proofs.Common.{set, map, inl, inr, IsTrue, Option, Result, Ok, Err, IfOk, OnOk}
use Rattle.std.proofs.{Common.{OnErr, nat_le, nat_lt, count_by, eq-eqb}, lemmas.Nat.pow_pos}
use Rattle.std.proofs.lemmas.Bool.{cases_lt, and_parts, and_from, false_from_ne_true, ne_eqb}
use Rattle.std.{proofs.lemmas.Bool.{le-ltb, le-leb, lt-leb}, specs.List.{list_all, range_with_len}}
use Rattle.std.proofs.lemmas.List.{Sums.count_by-le-length, Folds.{list_any_at, list_any_none}}
use Rattle.std.proofs.lemmas.List.FromFn.{get_or-range_with_len, length-range_with_len}
use Rattle.vb_virtio.specs.Tests.{is_in, one_if, times}
use Rattle.vb_virtio.proofs.Tables.{count_by-cons, list_all-at}
use Rattle.vb_virtio.specs.FirstRefusal.{first_refusal, ◌⇒◌}
use Rattle.vb_virtio.specs.declared.refusals.Refusal.{Refusal}
use Rattle.vb_virtio.specs.declared.refusals.Refusal.TheVariants.{BadOrder, BadCpu, NoPages}
use Rattle.vb_model.specs.{Pages.{covers, pages_of, is_aligned}, Driver.{with_block, without_block}}
use Rattle.vb_pages.specs.PageState.{with_free_block, HasRoomIn}
use Rattle.{vb_model.proofs.PageSteps.covers_is, vb_pages.proofs.Sets.{length-with_pages, in_block}}
use Rattle.vb_pages.specs.PageState.{PageState, page_count, cpu_count, is_free_page, IsApart}
use Rattle.vb_pages.specs.PageState.{IsWhollyFree, AllocatesBlock, TakesFree, freed, reserved_count}
use Rattle.vb_pages.specs.declared.fault.PageFault.{PageFault, TheVariants.BadCpu as NoSuchCpu}
use Rattle.vb_pages.specs.declared.fault.PageFault.TheVariants.{BadOrder as OrderTooLarge}
use Rattle.vb_pages.specs.declared.fault.PageFault.TheVariants.{NoPages as NoFreeBlock}
use Rattle.vb_pages.specs.declared.fault.PageFault.TheVariants.{NotHeld as NoSuchBlock}
use Rattle.vb_pages.specs.{Areas.{has, IsBlock}, FreePages.{in_lists, drained, free_count}}
use Rattle.vb_pages.proofs.{ListsLemmas.times_in, ServingLemmas.{serves_length, length-takes_pages}}
use Rattle.vb_driver.specs.Areas.{AreApart, Becomes, Allots, has_block, flags_of, refusal_of}
use Rattle.vb_driver.specs.{Areas.{is_free_at, is_covered, is_free_block}, Places.marked}
use Rattle.vb_driver.{specs.Answers.{refusal_in, block_at}, proofs.Placing.marked_one}
use Rattle.vb_driver.proofs.Flags.{length_flags, flag_at, flag_free, free_flag, free_inside}
use Rattle.vb_driver.proofs.Flags.{held_unfree, flags_moved, flags_same, left_by, gained_by}
use Rattle.vb_driver.proofs.Flags.{taken_by, for_these, serves_for, drained_sizes, given_sizes}

-- the driver's answer, by the allocator's
abbrev pub answered : {T : Type 0} → Result T PageFault → Result T Refusal
answered (Ok x) = Ok x
answered (Err fault) = Err (refusal_of fault)

-- ---- free blocks

list_all-from : (test : ℕ → Bool) (xs : List ℕ) → ((n : ℕ) → is_in n xs ≡ true → test n ≡ true)
    → list_all test xs ≡ true
list_all-from test [] all = refl
list_all-from test (x ∷ xs) all =
    and_from (test x) (list_all test xs) (all x (ap (λ v. v || is_in x xs) (eq-eqb x x refl)))
    (list_all-from test xs (λ n h. all n (later (eqb x n) (is_in n xs) h))) where
      later : (a b : Bool) → b ≡ true → (a || b) ≡ true
      later x b h = grind arith

whole_block : (s : PageState) (start order : ℕ) → IsApart s → IsBlock (block_at start order)
    → IsWhollyFree s (block_at start order)
    → is_free_block (flags_of s.free) (block_at start order) ≡ true
whole_block s start order apart block free =
    search (arith, and_from, list_all-from, free_flag, covers_is)

some_block : (s : PageState) (start order : ℕ) → IsApart s → IsBlock (block_at start order)
    → IsWhollyFree s (block_at start order) → has_block s order ≡ true
some_block s start order apart block free =
    let first : is_free_page s start ≡ true = search (arith, covers_is, in_block, pow_pos) in
    let lt : start < length (flags_of s.free) =
    omega (arith, free_inside s start apart first, length_flags s) in
    let here : get_or (range_with_len 0 (length (flags_of s.free))) start 0 ≡ start =
    get_or-range_with_len 0 (length (flags_of s.free)) start 0 lt ∙ omega arith in
    list_any_at (λ first. is_free_block (flags_of s.free) (block_at first order))
    (range_with_len 0 (length (flags_of s.free))) start 0
    (omega (arith, length-range_with_len 0 (length (flags_of s.free))))
    (ap (λ (n : ℕ). is_free_block (flags_of s.free) (block_at n order)) here
    ∙ whole_block s start order apart block free)

covered_in : (p start order : ℕ) → covers p (block_at start order) ≡ true
    → is_in p (pages_of (block_at start order)) ≡ true
covered_in p start order h = grind (arith, in_block)

not_whole : (s : PageState) (start order : ℕ) → order ≤ 9
    → (IsBlock (block_at start order) → IsWhollyFree s (block_at start order) → ⊥)
    → is_free_block (flags_of s.free) (block_at start order) ≡ false
not_whole s start order small none =
    false_from_ne_true (is_free_block (flags_of s.free) (block_at start order)) (λ t.
    let parts = and_parts (is_aligned (block_at start order))
    (list_all (is_free_at (flags_of s.free)) (pages_of (block_at start order))) t in
    none (small, parts.0) (λ p covered. flag_free s p (list_all-at (is_free_at (flags_of s.free))
    (pages_of (block_at start order)) p parts.1 (covered_in p start order covered))))

no_block : (s : PageState) (order : ℕ) → order ≤ 9 → ((start : ℕ) → IsBlock (block_at start order)
    → IsWhollyFree s (block_at start order) → ⊥) → has_block s order ≡ false
no_block s order small none = search (arith, list_any_none, not_whole)

-- ---- alloc

abbrev pub first_of : Bool → Bool → Bool → Option Refusal
first_of order cpu block =
    first_refusal ((order ⇒ BadOrder) ∷ (cpu ⇒ BadCpu) ∷ (not block ⇒ NoPages) ∷ [])

-- the clauses of an allocation
pub record IsServed (s new : PageState) (cpu order : ℕ) (r : Result ℕ PageFault) : Type 0 where
  pub apart : IsApart s
  pub bad_order : (r ≡ Err OrderTooLarge) ↔ (9 < order)
  pub bad_cpu : (r ≡ Err NoSuchCpu) ↔ ((order ≤ 9) × (cpu_count s ≤ cpu))
  pub never : r ≡ Err NoSuchBlock → ⊥
  pub unchanged : (9 < order) ⊎ (cpu_count s ≤ cpu) → new ≡ s
  pub allocates : order ≤ 9 → cpu < cpu_count s → AllocatesBlock s cpu order r new
  pub was_free : IfOk r
      (λ start. IsBlock (block_at start order) × IsWhollyFree s (block_at start order))
  pub held : IfOk r (λ start. new.held ≡ with_block (block_at start order) s.held)
  pub left : IfOk r (λ start. (page : ℕ)
      → is_free_page new page ≡ (is_free_page s page && not (covers page (block_at start order))))
  pub none : r ≡ Err NoFreeBlock → (start : ℕ) → IsBlock (block_at start order)
      → IsWhollyFree s (block_at start order) → ⊥
  pub same : r ≡ Err NoFreeBlock → ((page : ℕ) → is_free_page new page ≡ is_free_page s page)
      × (new.held ≡ s.held) × (new.free.lists ≡ map (λ (list : List ℕ). []) s.free.lists)

small_order : {s new : PageState} {cpu order : ℕ} {r : Result ℕ PageFault}
    → IsServed s new cpu order r → (r ≡ Err OrderTooLarge → ⊥) → order ≤ 9
small_order {order} served not_it =
    elim (cases_lt 9 order) [ inl lt ↦ absurd (not_it (served.bad_order.1 lt)) | inr le ↦ le ]

there_cpu : {s new : PageState} {cpu order : ℕ} {r : Result ℕ PageFault}
    → IsServed s new cpu order r → order ≤ 9 → (r ≡ Err NoSuchCpu → ⊥) → cpu < cpu_count s
there_cpu served small not_it = grind arith

pub alloc_refusal : {s new : PageState} {cpu order : ℕ} (r : Result ℕ PageFault)
    → IsServed s new cpu order r → refusal_in (answered r)
    ≡ first_of (nat_lt 9 order) (nat_le (cpu_count s) cpu) (has_block s order)
alloc_refusal x served =
    grind (arith, small_order, there_cpu, nat_lt, le-ltb, nat_le, lt-leb, some_block, no_block)

pub alloc_refused : {s new : PageState} {cpu order : ℕ} {r : Result ℕ PageFault}
    → IsServed s new cpu order r → OnErr (answered r) (Becomes s new (flags_of s.free) s.held)
alloc_refused served = grind (arith, drained_sizes, flags_same)

-- what an allocation does to the areas, by its refusal
pub alloc_allots : {s new : PageState} {cpu order : ℕ} {r : Result ℕ PageFault}
    → IsServed s new cpu order r → Allots s cpu order (answered r) new
alloc_allots served = grind arith

pub alloc_free : {s new : PageState} {cpu order : ℕ} {r : Result ℕ PageFault}
    → IsServed s new cpu order r
    → IfOk (answered r) (λ start. IsTrue (is_free_block (flags_of s.free) (block_at start order)))
alloc_free served = grind (arith, whole_block)

pub alloc_state : {s new : PageState} {cpu order : ℕ} (r : Result ℕ PageFault)
    → IsServed s new cpu order r → IfOk (answered r) (λ start. Becomes s new (marked (pages_of
    (block_at start order)) false (flags_of s.free)) (with_block (block_at start order) s.held))
alloc_state {s} {new} {cpu} {order} (Ok start) served =
    let small : order ≤ 9 = small_order served (λ e. cc) in
    let cpu_there : cpu < cpu_count s = there_cpu served small (λ e. cc) in
    let got = served.allocates small cpu_there in
    let pages : page_count new ≡ page_count s =
    ap page_count got.2 ∙ serves_length s.free got.0 cpu order start got.1 in
    let b = block_at start order in record {
      free = flags_moved s new (pages_of b) false pages
          (λ p. served.left p ∙ left_by p b (is_free_page s p));
      held = served.held;
      same = for_these (ap (λ (v : PageState). v.free) got.2) (serves_for cpu order start got.1);
    }
alloc_state (Err fault) served = tt

-- ---- free

pub free_state : (s new : PageState) (cpu start order : ℕ) (r : Result Unit PageFault)
    → OnOk r (new ≡ freed cpu (block_at start order) s) → OnOk r ((page : ℕ)
    → is_free_page new page ≡ (is_free_page s page || covers page (block_at start order)))
    → OnOk (answered r) (Becomes s new (marked (pages_of (block_at start order)) true
    (flags_of s.free)) (without_block (block_at start order) s.held))
free_state s new cpu start order (Ok x) is gained = let b = block_at start order in
    let sizes = given_sizes cpu start order in record {
      free = flags_moved s new (pages_of b) true (ap page_count is ∙ sizes.pages)
          (λ p. gained p ∙ gained_by p b (is_free_page s p));
      held = ap (λ (v : PageState). v.held) is;
      same = for_these (ap (λ (v : PageState). v.free) is) sizes.same;
    }
free_state s new cpu start order (Err fault) is gained = tt

pub areas_apart : {s : PageState} → IsApart s → AreApart s
areas_apart {s} apart = record { apart = λ p covered. held_unfree s p apart covered }

-- ---- single pages

count_step : (k : ℕ) (xs : List ℕ)
    → times k xs + count_by (λ p. nat_le (suc k) p) xs ≡ count_by (λ p. nat_le k p) xs
count_step k [] = refl
count_step k (x ∷ xs) = omega (
  arith,
  count_step k xs,
  at (cases_lt k x) (cases_lt x k),
  count_by-cons (λ p. eqb p k) x xs,
  count_by-cons (λ p. nat_le (suc k) p) x xs,
  count_by-cons (λ p. nat_le k p) x xs,
) where
  at : ((k < x) ⊎ (x ≤ k)) → ((x < k) ⊎ (k ≤ x))
      → one_if (eqb x k) + one_if (nat_le (suc k) x) ≡ one_if (nat_le k x)
  at x b = grind (arith, eqb, ne_eqb, nat_le, le-leb, lt-leb, eq-eqb)

flags_sum : (k : ℕ) (set : List Bool) (xs : List ℕ) (test : ℕ → Bool) → ((i : ℕ) → i < length set
    → one_if (test (k + i)) ≤ one_if (get_or set i false) + times (k + i) xs)
    → count_by (λ f. f) (map test (range_with_len k (length set))) ≤ count_by (λ f. f) set +
    count_by (λ p. nat_le k p) xs
flags_sum k [] xs test most = omega arith
flags_sum k (x ∷ set) xs test most =
    let first : one_if (test k) ≤ one_if x + times k xs = subst
    (λ (n : ℕ). one_if (test n) ≤ one_if x + times n xs) (omega arith) (most 0 (omega arith)) in
    let rest : count_by (λ f. f) (map test (range_with_len (suc k) (length set))) ≤ count_by
    (λ f. f) set + count_by (λ p. nat_le (suc k) p) xs = flags_sum (suc k) set xs test (λ i lt.
    subst (λ (n : ℕ). one_if (test n) ≤ one_if (get_or set i false) + times n xs) (omega arith)
    (most (suc i) (omega arith))) in
    let next : count_by (λ f. f) (map test (range_with_len (k + 1) (length set)))
    ≡ count_by (λ f. f) (map test (range_with_len (suc k) (length set))) =
    ap (λ (n : ℕ). count_by (λ f. f) (map test (range_with_len n (length set)))) (omega arith) in
    omega (
      arith,
      count_step k xs,
      count_by-cons (λ f. f) (test k) (map test (range_with_len (k + 1) (length set))),
      count_by-cons (λ f. f) x set,
    )

-- no more pages have a flag than are free
pub count_flags : (s : PageState) → count_by (λ f. f) (flags_of s.free) ≤ free_count s.free
unfolding flags_of
count_flags s =
    let all = flags_sum 0 s.free.areas (in_lists s.free) (is_free_page s)
    (λ i lt. subst (λ (n : ℕ). one_if (is_free_page s n) ≤ one_if (get_or s.free.areas i false)
    + times n (in_lists s.free)) (omega arith) (one i)) in
    omega (arith, all, count_by-le-length (λ p. nat_le 0 p) (in_lists s.free)) where
      at : (a b : Bool) (n : ℕ) → (b ≡ true → 1 ≤ n) → one_if (a || b) ≤ one_if a + n
      at x b n some = grind arith

      one : (i : ℕ) → one_if (is_free_page s i) ≤ one_if (get_or s.free.areas i false) + times i
          (in_lists s.free)
      one i = at (has s.free.areas i) (is_in i (in_lists s.free)) (times i (in_lists s.free))
          (times_in i (in_lists s.free))

pub taken_state : {s new : PageState} (pages : List ℕ) → TakesFree s pages new
    → ((p : ℕ) → one_if (is_free_page new p) + times p pages ≡ one_if (is_free_page s p))
    → Becomes s new (marked pages false (flags_of s.free)) s.held
taken_state {s} {new} pages takes left = let sizes = drained_sizes s.free in record {
  free = flags_moved s new pages false (length-takes_pages (drained s.free).areas new.free.areas
      pages takes.0 ∙ sizes.pages) (λ p. taken_by p pages (is_free_page s p) (left p));
  held = takes.2;
  same = record { processors = ap length takes.1 ∙ sizes.same.processors; reserved = takes.3 };
}

pub taken_free : (s new : PageState) (pages : List ℕ) → IsApart s
    → ((p : ℕ) → one_if (is_free_page new p) + times p pages ≡ one_if (is_free_page s p))
    → list_all (is_free_at (flags_of s.free)) pages ≡ true
taken_free s new pages apart left = grind (arith, list_all-from, free_flag, times_in)

pub taken_once : (new old : Bool) (n : ℕ) → one_if new + n ≡ one_if old → n ≤ 1
taken_once new y n h = grind arith

pub given_room : (s : PageState) (page : ℕ) → reserved_count s ≤ page → page < length (flags_of s.free)
    → is_free_at (flags_of s.free) page ≡ false → is_covered page s.held ≡ false
    → HasRoomIn s (block_at page 0)
given_room s page unreserved inside taken uncovered = grind (arith, length_flags, flag_at)

pub given_state : {s new : PageState} (page : ℕ) → new ≡ with_free_block (block_at page 0) s
    → ((p : ℕ) → is_free_page new p ≡ (is_free_page s p || covers p (block_at page 0)))
    → page < length (flags_of s.free) → Becomes s new (set (flags_of s.free) page true) s.held
given_state {s} {new} page is gained there = let b = block_at page 0 in record {
  free = flags_moved s new (pages_of b) true
      (ap page_count is ∙ length-with_pages (pages_of b) s.free.areas) (λ p. gained p
      ∙ gained_by p b (is_free_page s p)) ∙ marked_one page true (flags_of s.free) there;
  held = ap (λ (v : PageState). v.held) is;
  same = record { processors = ap cpu_count is; reserved = ap reserved_count is };
}
