-- The pages of a new request.
use Rattle.std.specs.Prelude.{◌≡◌, ℕ, zero, suc, ◌<◌, ◌≤◌, ◌==◌, ◌||◌, Bool, true, false, List}
use Rattle.std.specs.{Prelude.{[], ◌∷◌, ◌++◌, All, length, slice_index_or, refl}, List.list_any}
use Rattle.std.proofs.{Common.{sym, ◌∙◌, ap, subst, arith, eq-eqb}, lemmas.List.get_or_past}
use Rattle.vb_virtio.specs.Tests.{is_in, times}
use Rattle.vb_virtio.specs.Layout.{reserved_pages}
use Rattle.vb_virtio.specs.Queues.{Request}
use Rattle.vb_virtio.proofs.Distinct.{distinct_once}
use Rattle.vb_model.specs.declared.places.Place.{Place}
use Rattle.vb_model.specs.Guest.{Guest}
use Rattle.vb_model.specs.Pages.{place_of, is_lent, is_reserved}
use Rattle.vb_model.specs.Driver.{AllFreePages, stranded_first, lowest_lent}
use Rattle.vb_model.specs.Orderly.{IsOrderly, IsRequestSound, AllRequestsSound}
use Rattle.vb_model.proofs.{PageSteps.can_be_given, CallSteps.{inflated_pages, lent_pages}}
use Rattle.vb_guest.specs.Line.{AreRequested}

-- a page that isn't at a reserved place is there, and above the reserved ones
pub high_page : (g : Guest) (page : ℕ) → IsOrderly g → is_reserved (place_of g.places page) ≡ false
    → (reserved_pages g.config.queue_size ≤ page) × (page < g.config.pages)
high_page g page orderly free = grind (arith, get_or_past)

-- pages none of which is at a reserved place are those of a request
pub high_pages : (g : Guest) (pages : List ℕ) → IsOrderly g
    → ((page : ℕ) → is_in page pages ≡ true → is_reserved (place_of g.places page) ≡ false)
    → All (λ page. reserved_pages g.config.queue_size ≤ page) pages
    × All (λ page. page < g.config.pages) pages
high_pages g pages orderly out = (
  (λ k d lt. (high_page g (slice_index_or pages k d) orderly
      (out (slice_index_or pages k d) (at_in pages k d lt))).0),
  (λ k d lt. (high_page g (slice_index_or pages k d) orderly
      (out (slice_index_or pages k d) (at_in pages k d lt))).1),
) where
  at_in : (xs : List ℕ) (k d : ℕ) → k < length xs → is_in (slice_index_or xs k d) xs ≡ true
  at_in [] k d lt = absurd (omega arith)
  at_in (x ∷ xs) zero d lt = ap (λ (b : Bool). b || list_any (λ m. m == x) xs) (eq-eqb x x refl)
  at_in (x ∷ xs) (suc k) d lt = ap (λ (b : Bool). (x == slice_index_or xs k d) || b)
      (at_in xs k d (omega arith)) ∙ either_true (x == slice_index_or xs k d) where
        either_true : (b : Bool) → (b || true) ≡ true
        either_true true = refl
        either_true false = refl

given_high : (place : Place) → can_be_given place ≡ true → is_reserved place ≡ false
given_high place e = grind arith

lent_high : (place : Place) → is_lent place ≡ true → is_reserved place ≡ false
lent_high place e = grind arith

-- ---- the pages of a request

pub last_sound : (rs : List Request) {r : Request}
    → AllRequestsSound (rs ++ r ∷ []) → IsRequestSound r
last_sound [] all = all.0
last_sound (x ∷ rs) all = last_sound rs all.1

-- by the size of the queue's own ring
pub asked_as : {k : ℕ} (g : Guest) {pages : List ℕ} → k ≡ g.config.queue_size
    → AreRequested g.config.queue_size g.config.pages pages → AreRequested k g.config.pages pages
asked_as g {pages} same asked =
    subst (λ (s : ℕ). AreRequested s g.config.pages pages) (sym same) asked

-- the pages of an inflate, and those of a deflate
pub inflate_requested : (g : Guest) (n : ℕ) (others : List ℕ) → IsOrderly g → AllFreePages g others
    → ((p : ℕ) → times p (stranded_first g n ++ others) ≤ 1)
    → 0 < length (stranded_first g n ++ others) → length (stranded_first g n ++ others) ≤ 256
    → AreRequested g.config.queue_size g.config.pages (stranded_first g n ++ others)
inflate_requested g n others orderly free once some few =
    let high = high_pages g (stranded_first g n ++ others) orderly
    (λ page e. given_high (place_of g.places page) (inflated_pages g n others page free e)) in
    (assumption (distinct_once (stranded_first g n ++ others) once))

pub deflate_requested : (g : Guest) (n : ℕ) → IsOrderly g
    → ((p : ℕ) → times p (lowest_lent n g) ≤ 1) → 0 < length (lowest_lent n g)
    → length (lowest_lent n g) ≤ 256 → AreRequested g.config.queue_size g.config.pages (lowest_lent n g)
deflate_requested g n orderly once some few =
    let high = high_pages g (lowest_lent n g) orderly
    (λ page e. lent_high (place_of g.places page) (lent_pages g n page e)) in
    (assumption (distinct_once (lowest_lent n g) once))
