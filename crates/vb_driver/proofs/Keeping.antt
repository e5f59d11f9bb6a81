-- What holds of each driver, as pages move.
use Rattle.std.proofs.lemmas.List.{same_lists, length-map, get_or-map, get_or_past}
use Rattle.std.proofs.{lemmas.Bool.{false_from_ne_true, both_ways}, Common.{◌≡◌, ◌∙◌}}
use Rattle.std.proofs.Common.{sym, ap, arith, refl, ℕ, ◌<◌, ◌≤◌, Bool, true, false, cond, List, []}
use Rattle.{std.proofs.Common.{length, map, if◌then◌else◌}, vb_model.specs.Pages.{place_of, placed}}
use Rattle.vb_model.specs.Pages.{is_free, is_giving, is_taking, is_reporting, Block, pages_of_all}
use Rattle.vb_model.specs.declared.places.Place.{Place, TheVariants.{Reserved, Free, Used}}
use Rattle.vb_virtio.specs.Tests.{times, is_in, one_if}
use Rattle.vb_virtio.proofs.Tables.{each_page-get, length-each_from}
use Rattle.vb_pages.specs.FreePages.{FreePages}
use Rattle.vb_driver.proofs.Placing.{length-marked, marked-get, marked_none}
use Rattle.vb_driver.{proofs.{Counting.at_is, Naming.naming_same}, specs.Places.{is_at, marked}}
use Rattle.vb_driver.specs.{Areas.{AreFor, flags_of, is_covered}, State.{RequestSide, ReportSide}}
use Rattle.vb_driver.specs.State.{DriverState, IsQueue, IsReportQueue, naming, tells_host, IsDriver}

-- ---- a page's place

pub there_by : (places : List Place) (p : ℕ) (test : Place → Bool) → test Reserved ≡ false
    → test (place_of places p) ≡ true → p < length places
there_by places p test fails passes = grind (arith, get_or_past)

pub place_placed : (pages : List ℕ) (to : Place) (places : List Place) (p : ℕ)
    → (is_in p pages ≡ true → p < length places)
    → place_of (placed pages to places) p ≡ cond (is_in p pages) to (place_of places p)
place_placed pages to places p there = search (arith, each_page-get)

-- ---- free pages

pub free_marked : (places : List Place) (pages others : List ℕ) (to : Place) (flag : Bool)
    → ((p : ℕ) (place : Place) → place ≡ place_of places p
    → cond (is_in p others) flag (is_free place) ≡ is_free (cond (is_in p pages) to place))
    → marked others flag (map is_free places) ≡ map is_free (placed pages to places)
free_marked places pages others to flag agree =
    let left = marked others flag (map is_free places) in let moved = placed pages to places in
    let n1 : length left ≡ length places = search (arith, length-each_from, length-map) in
    let n2 : length moved ≡ length places = length-marked pages to places in
    same_lists left (map is_free moved) (n1 ∙ sym (length-map moved is_free ∙ n2)) (λ k d near.
    let inside : k < length places = omega arith in
    each_page-get (λ page old. if is_in page others then flag else old) (map is_free places) k d
    (λ far. absurd (omega (arith, length-map places is_free)))
    ∙ (ap (λ v. cond (is_in k others) flag v) (get_or-map is_free places k Reserved d inside)
    ∙ (agree k (place_of places k) refl ∙ sym (get_or-map is_free moved k Reserved d (omega arith)
    ∙ ap is_free (marked-get pages to places k Reserved inside)))))

pub free_same : (places : List Place) (pages : List ℕ) (to : Place) → ((p : ℕ) (place : Place)
    → place ≡ place_of places p → is_free place ≡ is_free (cond (is_in p pages) to place))
    → map is_free places ≡ map is_free (placed pages to places)
free_same places pages to agree =
    sym (marked_none false) ∙ free_marked places pages [] to false agree

-- ---- pages that leave

-- these pages leave places of which a test holds, none of them reserved
pub record Leaves (d : DriverState) (pages : List ℕ) (from : Place → Bool) : Type 0 where
  pub kept : IsDriver d
  pub at : (p : ℕ) → is_in p pages ≡ true → from (place_of d.places p) ≡ true
  pub high : from Reserved ≡ false

-- a place of which it holds is none of which it doesn't
pub not_left : (from : Place → Bool) (other place : Place)
    → from other ≡ false → from place ≡ true → is_at other place ≡ false
not_left from other place fails holds = false_from_ne_true (is_at other place)
    (λ e. both_ways (from place) (ap from (at_is other e) ∙ fails) holds)

-- what is named of other places is there still
pub stays : {d : DriverState} {pages : List ℕ} {from : Place → Bool} {n : ℕ → ℕ}
    → Leaves d pages from → (to other : Place) → from other ≡ false
    → ((p : ℕ) → n p ≤ one_if (is_at other (place_of d.places p))) → (p : ℕ)
    → n p ≤ one_if (is_at other (cond (is_in p pages) to (place_of d.places p)))
stays {d} {pages} {from} {n} leaves to other fails few p =
    naming_same p (n p) pages (is_at other) to (place_of d.places p) (few p)
    (λ here. not_left from other (place_of d.places p) fails (leaves.at p here))

-- and so are held blocks
pub stays_held : {d : DriverState} {pages : List ℕ} {from : Place → Bool} → Leaves d pages from
    → (to : Place) → from Used ≡ false → (p : ℕ) → is_covered p d.held ≡ true
    → cond (is_in p pages) to (place_of d.places p) ≡ Used
stays_held {d} {pages} {from} leaves to fails p covered = by (is_in p pages) refl where
  by : (b : Bool) → is_in p pages ≡ b → cond (is_in p pages) to (place_of d.places p) ≡ Used
  by x e = grind (arith, both_ways, cond)

-- the areas' flags, where the pages become free or cease to be
pub free_set : {d : DriverState} (areas2 : FreePages) (pages : List ℕ) (to : Place) {b : Bool}
    → IsDriver d → is_free to ≡ b → flags_of areas2 ≡ marked pages b (flags_of d.areas)
    → flags_of areas2 ≡ map is_free (placed pages to d.places)
free_set {d} areas2 pages to {b} kept is set = set ∙ (ap (marked pages b) kept.free
    ∙ free_marked d.places pages pages to b (λ p place e. agree place (is_in p pages))) where
      agree : (place : Place) (v : Bool) → cond v b (is_free place) ≡ is_free (cond v to place)
      agree place y = grind arith

-- and where they are free neither before nor then
pub free_stays : {d : DriverState} {pages : List ℕ} {from : Place → Bool} → Leaves d pages from
    → (to : Place) → from Free ≡ false → is_free to ≡ false
    → flags_of d.areas ≡ map is_free (placed pages to d.places)
free_stays {d} {pages} {from} leaves to fails is = leaves.kept.free
    ∙ free_same d.places pages to (λ p place e. by p place e (is_in p pages) refl) where
      by : (p : ℕ) (place : Place) → place ≡ place_of d.places p → (b : Bool) → is_in p pages ≡ b
          → is_free place ≡ is_free (cond (is_in p pages) to place)
      by p place e u here = grind (arith, not_left, cond)

-- ---- the whole

-- pages that move to a place, as blocks come to be held, or no more
pub record Changes (d : DriverState) (areas2 : FreePages) (pages : List ℕ) (from : Place → Bool)
    (to : Place) (held2 : List Block) (i2 e2 : RequestSide) (r2 : ReportSide) : Type 0 where
  pub leaves : Leaves d pages from
  pub inflate : IsQueue i2 0 d.queue_size
  pub deflate : IsQueue e2 1 d.queue_size
  pub giving : (p : ℕ) → naming p i2.sent ≤ one_if
      (is_giving (cond (is_in p pages) to (place_of d.places p)))
  pub taking : tells_host d ≡ true → (p : ℕ) → naming p e2.sent ≤ one_if
      (is_taking (cond (is_in p pages) to (place_of d.places p)))
  pub report : IsReportQueue r2 d.queue_size
  pub reporting : (p : ℕ) → times p (pages_of_all r2.blocks) ≤ one_if
      (is_reporting (cond (is_in p pages) to (place_of d.places p)))
  pub free : flags_of areas2 ≡ map is_free (placed pages to d.places)
  pub same : AreFor d.areas areas2
  pub used : (p : ℕ) → is_covered p held2 ≡ true
      → cond (is_in p pages) to (place_of d.places p) ≡ Used

pub kept_changed : {d : DriverState} {areas2 : FreePages} {pages : List ℕ}
    {from : Place → Bool} {to : Place} {held2 : List Block} {i2 e2 : RequestSide} {r2 : ReportSide}
    → Changes d areas2 pages from to held2 i2 e2 r2 → IsDriver (record d {
      places = placed pages to d.places;
      held = held2;
      areas = areas2;
      inflate = i2;
      deflate = e2;
      report = r2;
    })
kept_changed {d} {pages} {from} m = let there : (p : ℕ) → is_in p pages ≡ true → p < length d.places =
    λ p here. there_by d.places p from m.leaves.high (m.leaves.at p here) in
    let unreserved : (p : ℕ) → is_in p pages ≡ true → is_at Reserved (place_of d.places p) ≡ false =
    λ p here. not_left from Reserved (place_of d.places p) m.leaves.high (m.leaves.at p here) in
    grind (arith, place_placed, length-marked, there, unreserved)
