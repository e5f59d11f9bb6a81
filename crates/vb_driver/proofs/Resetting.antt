-- What a reset leaves, queues that begin anew, and a driver as it is made.
use Rattle.std.proofs.Common.{◌≡◌, ◌∙◌, sym, ap, arith, refl, ℕ, zero, suc, replicate, ◌+◌}
use Rattle.std.proofs.Common.{◌<◌, ◌≤◌, Bool, true, false, cond, eqb, ◌||◌, List, [], ◌∷◌, length}
use Rattle.{std.proofs.Common.{get_or, map, is_none, slice_index_or}, vb_ring.specs.Ends.DriverEnd}
use Rattle.std.proofs.lemmas.List.{length-replicate, length-map, get_or-map, get_or_past}
use Rattle.{std.proofs.lemmas.List.{get_or-replicate, same_lists}, vb_ring.specs.Layout.IsSize}
use Rattle.std.proofs.lemmas.Bool.{cases_lt, lt-ltb, eq-eqb, ne_eqb, false_from_ne_true}
use Rattle.std.proofs.lemmas.List.FromFn.{get_or-map-range_with_len, length-map-range_with_len}
use Rattle.vb_virtio.specs.Layout.{reserved_pages}
use Rattle.vb_virtio.specs.Tests.{is_in, pages_from, pages_where}
use Rattle.vb_model.specs.Pages.{place_of, is_free, is_reporting, all_free}
use Rattle.vb_model.specs.declared.places.Place.{TheVariants.Reserved, Place}
use Rattle.vb_model.proofs.LifeSteps.{place_of-reset}
use Rattle.{vb_model.specs.Life.place_after_reset, vb_pages.proofs.ListsLemmas.times_in}
use Rattle.{vb_pages.specs.FreePages.FreePages, vb_driver.proofs.Flags.fresh_flags}
use Rattle.vb_driver.specs.State.{DriverState, IsQueue, naming, fresh_side, fresh_driver, IsDriver}
use Rattle.vb_driver.specs.State.{IsStatisticsQueue, fresh_statistics, fresh_report}
use Rattle.vb_driver.specs.{Places.{marked, first_place}, Areas.{AreFor, flags_of}}
use Rattle.vb_driver.proofs.{Naming.later_none, ReportTables.{none_owned, fresh_report_queue}}
use Rattle.vb_driver.proofs.{RequestTables.requests_fresh, Placing.{length-marked, marked-get}}

-- ---- a reset

-- a page is among those that pass a test exactly where its entry does
in_from : {A : Type 0} (test : A → Bool) (n k i : ℕ) (xs : List A) (d : A) → i < length xs
    → n ≡ k + i → is_in n (pages_from k test xs) ≡ test (get_or xs i d)
in_from test n k i [] d lt is = absurd (omega arith)
in_from test n k zero (x ∷ xs) d lt is = at (test x) where
  here : eqb k n ≡ true
  here = eq-eqb k n (omega arith)

  past : is_in n (pages_from (suc k) test xs) ≡ false
  past = false_from_ne_true (is_in n (pages_from (suc k) test xs)) (λ h. omega (
    arith,
    later_none n (suc k) test xs (omega arith),
    times_in n (pages_from (suc k) test xs) h,
  ))

  at : (b : Bool)
      → is_in n (cond b (k ∷ pages_from (suc k) test xs) (pages_from (suc k) test xs)) ≡ b
  at true = ap (λ (v : Bool). v || is_in n (pages_from (suc k) test xs)) here
  at false = past
in_from test n k (suc i) (x ∷ xs) d lt is =
    grind (arith, ne_eqb, in_from test n (suc k) i xs d (omega arith) (omega arith))

in_where : {A : Type 0} (test : A → Bool) (xs : List A) (n : ℕ) (d : A) → n < length xs
    → is_in n (pages_where test xs) ≡ test (get_or xs n d)
in_where test xs n d lt = in_from test n 0 n xs d lt (omega arith)

-- just the reported pages are free besides
free_after : (x : Place) → is_free (place_after_reset x) ≡ cond (is_reporting x) true (is_free x)
free_after Reserved = refl
free_after x = refl

free_all_after : (places : List Place)
    → marked (pages_where is_reporting places) true (map is_free places)
    ≡ map is_free (map place_after_reset places)
free_all_after places = let pages = pages_where is_reporting places in
    let left = marked pages true (map is_free places) in
    let right = map is_free (map place_after_reset places) in
    let n1 : length left ≡ length places =
    length-marked pages true (map is_free places) ∙ length-map places is_free in
    let n2 : length right ≡ length places =
    length-map (map place_after_reset places) is_free ∙ length-map places place_after_reset in
    same_lists left right (n1 ∙ sym n2) (λ k d near.
    let inside : k < length places = omega arith in
    marked-get pages true (map is_free places) k d (omega (arith, length-map places is_free))
    ∙ (ap (λ (v : Bool). cond (is_in k pages) true v)
    (get_or-map is_free places k Reserved d inside)
    ∙ (ap (λ (v : Bool). cond v true (is_free (place_of places k)))
    (in_where is_reporting places k Reserved inside) ∙ (sym (free_after (place_of places k))
    ∙ sym (get_or-map is_free (map place_after_reset places) k Reserved d
    (omega (arith, length-map places place_after_reset))
    ∙ ap is_free (get_or-map place_after_reset places k Reserved Reserved inside))))))

naming_none : (p n : ℕ) → naming p (replicate {A = List ℕ} n []) ≡ 0
naming_none p zero = refl
naming_none p (suc n) = let ih : naming p (replicate {A = List ℕ} n []) ≡ 0 = naming_none p n in
    omega (arith, ih)

none_sent : (i : ℕ) → slice_index_or (replicate {A = List ℕ} 16 []) i [] ≡ []
none_sent i = grind (arith, cases_lt, get_or-replicate, get_or_past)

fresh_queue : (queue size : ℕ) → IsQueue (fresh_side queue size) queue size
fresh_queue queue size = record {
  requests = requests_fresh queue size (replicate {A = List ℕ} 16 []) refl none_sent;
  number = refl;
  size = refl;
}

pub fresh_statistics_queue : {size : ℕ} → IsStatisticsQueue (fresh_statistics size) size
fresh_statistics_queue = grind (arith, is_none, none_owned)

pub reset_kept : {d : DriverState} {areas2 : FreePages} (features : ℕ) → IsDriver d
    → flags_of areas2 ≡ marked (pages_where is_reporting d.places) true (flags_of d.areas)
    → AreFor d.areas areas2 → IsDriver (record d {
      places = map place_after_reset d.places;
      areas = areas2;
      inflate = fresh_side 0 d.queue_size;
      deflate = fresh_side 1 d.queue_size;
      statistics = fresh_statistics d.queue_size;
      report = fresh_report d.queue_size;
      features = features;
      actual = 0;
    })
reset_kept {d} features kept given same = grind (
  arith,
  length-map,
  fresh_queue 0 d.queue_size,
  fresh_queue 1 d.queue_size,
  fresh_statistics_queue,
  fresh_report_queue,
  naming_none,
  free_all_after,
  place_of-reset,
)

-- ---- the queues begin anew

pub renewed_kept : {d : DriverState} {statistics2 : DriverEnd} → IsDriver d
    → IsStatisticsQueue statistics2 d.queue_size → IsDriver (record d {
      inflate = fresh_side 0 d.queue_size;
      deflate = fresh_side 1 d.queue_size;
      statistics = statistics2;
      report = fresh_report d.queue_size;
    })
renewed_kept {d} kept statistics = grind (
  arith,
  fresh_queue 0 d.queue_size,
  fresh_queue 1 d.queue_size,
  fresh_report_queue,
  naming_none,
)

-- ---- a driver as it is made

reserved_first : (reserved n p : ℕ) → p < reserved → place_of (all_free reserved n) p ≡ Reserved
reserved_first reserved n p low = grind (
  arith,
  cases_lt,
  get_or-map-range_with_len,
  lt-ltb,
  get_or_past,
  length-map-range_with_len,
)

pub fresh_kept : (pages : ℕ) {size : ℕ} (processors f : ℕ) → 64 ≤ pages → pages ≤ 65536
    → IsSize size → IsDriver (record (fresh_driver pages size processors) { features = f })
fresh_kept pages {size} processors f least most sized = record {
  table = length-map-range_with_len (first_place (reserved_pages size)) 0 pages;
  least = least;
  most = most;
  size = sized;
  inflate = fresh_queue 0 size;
  deflate = fresh_queue 1 size;
  giving = λ p. omega (arith, naming_none p 16);
  taking = λ told p. omega (arith, naming_none p 16);
  statistics = fresh_statistics_queue;
  report = fresh_report_queue;
  reporting = λ p. omega arith;
  free = fresh_flags pages processors (reserved_pages size);
  used = λ p covered. (let wrong : false ≡ true = covered in cc);
  reserved = reserved_first (reserved_pages size) pages;
  processors = length-replicate {A = List ℕ} processors [];
  set_aside = refl;
}
