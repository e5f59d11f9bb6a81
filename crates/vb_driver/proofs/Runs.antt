-- Tables of places, as the pages of a run move that are all at one place.
use Rattle.std.proofs.Common.{◌≡◌, ◌∙◌, sym, ap, arith, ℕ, zero, suc, ◌+◌, ◌-◌, ◌<◌, ◌≤◌, Bool}
use Rattle.std.proofs.Common.{true, false, List, length, get_or, set, map, count_by, min}
use Rattle.std.proofs.lemmas.List.{get_or_default, length-map, length-set, same_lists}
use Rattle.std.proofs.lemmas.List.FromFn.{get_or-map-range_with_len, length-range_with_len}
use Rattle.std.{proofs.Math.Seq.map-set_same, specs.List.range_with_len}
use Rattle.vb_virtio.proofs.Ranges.{is_in-range, outside-range}
use Rattle.vb_virtio.specs.Tests.{is_in}
use Rattle.vb_model.specs.Pages.{all_free, placed}
use Rattle.vb_model.specs.Pages.{place_of, is_lent, is_stranded}
use Rattle.vb_model.specs.declared.places.Place.{Place, TheVariants.{Reserved, Free}}
use Rattle.vb_driver.proofs.Placing.{length-marked, marked-get, marked_none, marked_more}
use Rattle.vb_driver.{specs.Places.{number_of, is_at, IsTable}, proofs.Placing.range_push}
use Rattle.vb_driver.proofs.Counting.{hits, count_moves, counts_shifted, number_small}

-- these pages are at this place
pub record AreAt (places : List Place) (start n : ℕ) (place : Place) : Type 0 where
  pub inside : start + n ≤ length places
  pub each : (page : ℕ) → start ≤ page → page < start + n → place_of places page ≡ place

fewer : {places : List Place} {start n : ℕ} {place : Place}
    → AreAt places start (suc n) place → AreAt places start n place
fewer are = search (arith)

-- the pages of a run, and the others
pub in_range : (page start len : ℕ) → start ≤ page → page < start + len
    → is_in page (range_with_len start len) ≡ true
in_range page start len from before = grind (arith, outside-range)

not_in_range : (page start len : ℕ) → (start ≤ page → page < start + len → ⊥)
    → is_in page (range_with_len start len) ≡ false
not_in_range page start len away = grind (arith, is_in-range)

-- the pages of a run, the first of which is where it was found
pub run_is : {places : List Place} {start : ℕ} (next : ℕ) {old : Place} → start < next
    → next ≤ length places → old ≡ get_or places start old → ((page : ℕ) → start + 1 ≤ page
    → page < next → place_of places page ≡ old) → AreAt places start (next - start) old
run_is next further bound here same = search (arith, get_or_default)

-- one page more of the run
abbrev moved : List Place → ℕ → ℕ → Place → List Place
moved places start n place = placed (range_with_len start n) place places

moved_more : (places : List Place) (start n : ℕ) (place : Place) → start + n < length places
    → moved places start (suc n) place ≡ set (moved places start n place) (start + n) place
moved_more places start n place lt = grind (arith, range_push, marked_more)

-- the next page of the run is where it was
next_at : {places : List Place} {start : ℕ} (n : ℕ) (new : Place) {old : Place} (d : Place)
    → AreAt places start (suc n) old → get_or (moved places start n new) (start + n) d ≡ old
next_at n new d are = search (arith, marked-get, not_in_range, get_or_default)

-- ---- counts

hits_more : (n a b : ℕ) → hits (suc n) a b ≡ hits n a b + hits 1 a b
hits_more n a b = grind arith

no_hits : (a b : ℕ) → hits 0 a b ≡ 0
no_hits a b = grind arith

pub run_counted : {places : List Place}
    {start : ℕ} (n : ℕ) (new : Place) {old : Place} (which : Place) → AreAt places start n old
    → count_by (is_at which) (placed (range_with_len start n) new places) + hits n (number_of old)
    (number_of which) ≡ count_by (is_at which) places + hits n (number_of new) (number_of which)
run_counted zero new which are =
    grind (arith, no_hits (number_of new) (number_of which), marked_none new)
run_counted {places} {start} (suc n) new {old} which are = let before = moved places start n new in
    let w = number_of which in let lt : start + n < length places = omega (arith, are.inside) in
    let size : length before ≡ length places = length-marked (range_with_len start n) new places in
    let here : hits 1 (number_of (get_or before (start + n) old)) w ≡ hits 1 (number_of old) w =
    ap (λ (p : Place). hits 1 (number_of p) w) (next_at n new old are) in
    let more = hits_more n (number_of old) w in
    let more2 = hits_more n (number_of new) w in omega (
      arith,
      ap (λ (l : List Place). count_by (is_at which) l) (moved_more places start n new lt),
      count_moves before (start + n) which new old (omega arith),
      run_counted n new which (fewer are),
    )

-- another place
abbrev other : Place → Place
other Reserved = Free
other _ = Reserved

-- n pages are at the place at least
pub run_some : {places : List Place} {start n : ℕ} {old : Place}
    → AreAt places start n old → n ≤ count_by (is_at old) places
run_some {n} {old} are = grind (arith, run_counted n (other old) old are)

-- ---- sets

-- a set that has the pages at neither place
pub run_unset : (test : Place → Bool) {places : List Place}
    {start : ℕ} (n : ℕ) (new : Place) {old : Place} → AreAt places start n old → test new ≡ false
    → test old ≡ false → map test (placed (range_with_len start n) new places) ≡ map test places
run_unset test zero new are is was = ap (map test) (marked_none new)
run_unset test {places} {start} (suc n) new {old} are is was =
    let before = moved places start n new in
    ap (map test) (moved_more places start n new (omega (arith, are.inside)))
    ∙ (map-set_same test before (start + n) new old
    (is ∙ sym (ap test (next_at n new old are) ∙ was)) ∙ run_unset test n new (fewer are) is was)

-- ---- tables

-- the table after a run moved between places that no set has
pub run_table : {counts : List ℕ} {lent stranded : List Bool} {places : List Place}
    {start n o k : ℕ} (new : Place) {old : Place} → IsTable counts lent stranded places
    → AreAt places start n old → o ≡ number_of old → k ≡ number_of new → is_lent new ≡ false
    → is_lent old ≡ false → is_stranded new ≡ false → is_stranded old ≡ false → IsTable
    (set (set counts o (get_or counts o 0 - n)) k (get_or (set counts o (get_or counts o 0 - n)) k 0
    + n)) lent stranded (placed (range_with_len start n) new places)
run_table
    {counts} {places} {start} {n} {o} {k} new {old} table are was is unlent bare unstranded kept =
    let small = number_small old in
    let small2 = number_small new in record {
      kinds = length-set (set counts o _) k _ ∙ (length-set counts o _ ∙ table.kinds);
      are_counts = counts_shifted n new old table.kinds was is (omega arith)
          (omega arith) (run_some are) (λ which. run_counted n new which are) table.are_counts;
      are_sets = record {
        of_lent = table.are_sets.of_lent ∙ sym (run_unset is_lent n new are unlent bare);
        of_stranded = table.are_sets.of_stranded
            ∙ sym (run_unset is_stranded n new are unstranded kept);
      };
      small = omega (arith, table.small, length-marked (range_with_len start n) new places);
    }

-- ---- a table as the guest is plugged in

-- the first pages reserved and the others free
pub first_table : (places : List Place) (count : ℕ) {reserved : ℕ} → reserved
    ≡ min count (length places) → placed (range_with_len reserved (length places - reserved)) Free
    (placed (range_with_len 0 reserved) Reserved places) ≡ all_free count (length places)
first_table places count is = grind (
  arith,
  length-marked,
  same_lists,
  length-map,
  length-range_with_len,
  marked-get,
  get_or-map-range_with_len,
  not_in_range,
  in_range,
)
