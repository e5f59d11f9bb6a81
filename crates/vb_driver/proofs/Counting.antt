-- Counts of places, as a page moves.
use Rattle.std.proofs.Common.{◌≡◌, ◌∙◌, sym, ap, arith, ℕ, ◌+◌, ◌-◌, ◌<◌, ◌≤◌, cond, eqb, List}
use Rattle.std.proofs.Common.{length, get_or, set, count_by, eq-eqb, refl, not, [], ◌∷◌, Bool, true}
use Rattle.std.proofs.{Common.{false, zero, suc, replicate, map}, lemmas.List.Sums.sum_by-set}
use Rattle.std.proofs.lemmas.List.{Sums.get_or-le-sum_by, length-replicate, get_or-set_same}
use Rattle.std.proofs.lemmas.{List.{get_or-set_other, length-set}, Bool.{cases_eq, ne_eqb}}
use Rattle.vb_virtio.proofs.Tables.{count_by-cons}
use Rattle.vb_model.specs.Pages.{is_lent, is_stranded}
use Rattle.vb_model.specs.declared.places.Place.{Place, TheVariants.Reserved}
use Rattle.vb_driver.{specs.Places.{number_of, is_at, AreCounts, IsTable}, proofs.Marking.none_of}

pub number_small : (place : Place) → number_of place < 8
number_small place = search (arith)

-- ---- a place and its number

abbrev same : Bool → Bool → Bool
same a b = cond a b (not b)

-- a page has a place just if the numbers are equal
pub at_number : (place other : Place) → eqb (number_of other) (number_of place) ≡ is_at place other
at_number place other = grind arith

pub at_is : (place : Place) {other : Place} → is_at place other ≡ true → other ≡ place
at_is place here = grind arith

-- ---- counts

-- n where the numbers are equal
abbrev pub hits : ℕ → ℕ → ℕ → ℕ
hits m a b = cond (eqb a b) m 0

hits_same : {m a b : ℕ} → a ≡ b → hits m a b ≡ m
hits_same {m} {a} {b} e = ap (λ v. cond v m 0) (eq-eqb a b e)

pub hits_other : (m a b : ℕ) → (a ≡ b → ⊥) → hits m a b ≡ 0
hits_other m a b ne = ap (λ v. cond v m 0) (ne_eqb a b ne)

-- how many pages have a place, as one moves
pub count_moves : (places : List Place) (page : ℕ) (which new old : Place) → page < length places
    → count_by (is_at which) (set places page new) + hits 1 (number_of (get_or places page old))
    (number_of which) ≡ count_by (is_at which) places + hits 1 (number_of new) (number_of which)
count_moves places page which new old lt = grind (arith, at_number, sum_by-set)

-- a page's own place has a page
pub counts_some : (places : List Place) (page : ℕ) (old : Place)
    → page < length places → 1 ≤ count_by (is_at (get_or places page old)) places
counts_some places page old lt = let here = get_or places page old in
    let one : hits 1 (number_of here) (number_of here) ≡ 1 = hits_same refl in
    let low : cond (is_at here here) 1 0 ≤ count_by (is_at here) places =
    get_or-le-sum_by (λ x. cond (is_at here x) 1 0) places page old lt in
    let same_hit : hits 1 (number_of here) (number_of here) ≡ cond (is_at here here) 1 0 =
    ap (λ v. cond v 1 0) (at_number here here) in omega arith

-- the counts after n pages moved from one place to another
pub counts_shifted : {counts : List ℕ} {places now : List Place} {o n : ℕ} (m : ℕ) (new old : Place)
    → length counts ≡ 8 → o ≡ number_of old → n ≡ number_of new → o < 8
    → n < 8 → m ≤ count_by (is_at old) places → ((which : Place) → count_by (is_at which) now
    + hits m (number_of old) (number_of which) ≡ count_by (is_at which) places + hits m
    (number_of new) (number_of which)) → AreCounts counts places → AreCounts (set (set counts o
    (get_or counts o 0 - m)) n (get_or (set counts o (get_or counts o 0 - m)) n 0 + m)) now
counts_shifted m new old eight was is small small2 some moves all =
    grind (arith, length-set, cases_eq, get_or-set_same, hits_same, get_or-set_other, hits_other)

-- the counts after a page moved
pub counts_moved : {counts : List ℕ} {places : List Place}
    (page : ℕ) {o n : ℕ} (new : Place) {was : Place} → length counts ≡ 8 → page < length places
    → was ≡ get_or places page was → o ≡ number_of was → n ≡ number_of new → o < 8
    → n < 8 → AreCounts counts places → AreCounts (set (set counts o (get_or counts o 0 - 1)) n
    (get_or (set counts o (get_or counts o 0 - 1)) n 0 + 1)) (set places page new)
counts_moved {places} page new {was = old} eight lt here was is small small2 all =
    let e : count_by (is_at old) places ≡ count_by (is_at (get_or places page old)) places =
    ap (λ v. count_by (is_at v) places) here in
    counts_shifted 1 new old eight was is small small2
    (omega (arith, counts_some places page old lt)) (λ which.
    let w = number_of which in
    let there : hits 1 (number_of (get_or places page old)) w ≡ hits 1 (number_of old) w =
    ap (λ v. hits 1 (number_of v) w) (sym here) in
    omega (arith, count_moves places page which new old lt)) all

-- ---- a table of reserved pages

count_replicate : (test : Place → Bool) (x : Place) (n : ℕ)
    → count_by test (replicate n x) ≡ cond (test x) n 0
count_replicate test x zero = grind arith
count_replicate test x (suc n) =
    grind (arith, count_by-cons test x (replicate n x), count_replicate test x n)

pub reserved_table : {counts : List ℕ} {lent stranded : List Bool} {places : List Place} (pages : ℕ)
    → counts ≡ pages ∷ 0 ∷ 0 ∷ 0 ∷ 0 ∷ 0 ∷ 0 ∷ 0 ∷ []
    → lent ≡ replicate pages false → stranded ≡ replicate pages false
    → places ≡ replicate pages Reserved → pages ≤ 65536 → IsTable counts lent stranded places
reserved_table pages counted lents strandeds is most = record {
  kinds = ap (λ (l : List ℕ). length l) counted;
  are_counts = record {
    each = λ place. ap (λ (l : List ℕ). get_or l (number_of place) 0) counted ∙ (at place
        ∙ sym (ap (count_by (is_at place)) is ∙ count_replicate (is_at place) Reserved pages));
  };
  are_sets = record {
    of_lent = lents ∙ (none_of is_lent Reserved pages refl ∙ ap (map is_lent) (sym is));
    of_stranded = strandeds
        ∙ (none_of is_stranded Reserved pages refl ∙ ap (map is_stranded) (sym is));
  };
  small = omega (arith, ap (λ (l : List Place). length l) is, length-replicate pages Reserved);
} where
  at : (place : Place) → get_or (pages ∷ 0 ∷ 0 ∷ 0 ∷ 0 ∷ 0 ∷ 0 ∷ 0 ∷ []) (number_of place) 0
      ≡ cond (is_at place Reserved) pages 0
  at x = grind arith
