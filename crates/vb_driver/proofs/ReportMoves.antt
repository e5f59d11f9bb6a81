-- The driver as a report goes out, and as it comes back.
use Rattle.std.proofs.Common.{◌≡◌, ap, arith, refl, ℕ, ◌≤◌, Bool, true, false, cond, List, []}
use Rattle.vb_virtio.proofs.Distinct.{distinct_list}
use Rattle.vb_virtio.specs.Tests.{times, is_in, one_if, AllDistinct}
use Rattle.vb_driver.proofs.Counting.{at_is}
use Rattle.vb_model.specs.Pages.{Block, pages_of_all, place_of, placed, is_free, is_reporting}
use Rattle.vb_model.specs.declared.places.Place.TheVariants.{Free, Giving, Taking, Reporting}
use Rattle.vb_pages.{specs.FreePages.FreePages, proofs.ListsLemmas.{times_in, times_out}}
use Rattle.vb_driver.specs.{Places.marked, State.{ReportSide, DriverState, IsReportQueue, IsDriver}}
use Rattle.vb_driver.{specs.Areas.{AreFor, flags_of, is_free_at}, proofs.Moving.free_is_place}
use Rattle.vb_driver.proofs.Keeping.{Leaves, stays, stays_held, free_set, kept_changed}

-- ---- a report goes out

-- a page whose flag says so is free
pub free_place : {d : DriverState} (p : ℕ)
    → IsDriver d → is_free_at (flags_of d.areas) p ≡ true → place_of d.places p ≡ Free
free_place p kept h = grind (arith, at_is, free_is_place)

pub reported_kept : {d : DriverState} {areas2 : FreePages} {r2 : ReportSide} → IsDriver d
    → ((p : ℕ) → is_in p (pages_of_all r2.blocks) ≡ true → is_free_at (flags_of d.areas) p ≡ true)
    → AllDistinct (pages_of_all r2.blocks)
    → flags_of areas2 ≡ marked (pages_of_all r2.blocks) false (flags_of d.areas)
    → AreFor d.areas areas2 → IsReportQueue r2 d.queue_size → IsDriver (record d {
      places = placed (pages_of_all r2.blocks) Reporting d.places;
      areas = areas2;
      report = r2;
    })
reported_kept {d} {areas2} {r2} kept chosen distinct taken same queue =
    let pages = pages_of_all r2.blocks in
    let leaves : Leaves d pages is_free = search (arith, free_place) in
    kept_changed (record {
      leaves = leaves;
      inflate = kept.inflate;
      deflate = kept.deflate;
      giving = stays leaves Reporting Giving refl kept.giving;
      taking = λ told. stays leaves Reporting Taking refl (kept.taking told);
      report = queue;
      reporting = λ p. named p (is_in p pages) refl;
      free = free_set areas2 pages Reporting kept refl taken;
      same = same;
      used = stays_held leaves Reporting refl;
    }) where
      named : (p : ℕ) (b : Bool) → is_in p (pages_of_all r2.blocks) ≡ b
          → times p (pages_of_all r2.blocks) ≤ one_if
          (is_reporting (cond (is_in p (pages_of_all r2.blocks)) Reporting (place_of d.places p)))
      named p true e =
          let one : one_if
          (is_reporting (cond (is_in p (pages_of_all r2.blocks)) Reporting (place_of d.places p)))
          ≡ 1 = ap (λ (v : Bool). one_if (is_reporting (cond v Reporting (place_of d.places p)))) e in
          omega (arith, distinct_list (pages_of_all r2.blocks) p distinct)
      named p false e = omega (arith, times_out p (pages_of_all r2.blocks) e)

-- ---- and comes back

pub reported_place : {d : DriverState} (p : ℕ)
    → IsDriver d → is_in p (pages_of_all d.report.blocks) ≡ true → place_of d.places p ≡ Reporting
reported_place p kept here = grind (arith, times_in)

pub reported_once : {d : DriverState} (p : ℕ)
    → IsDriver d → times p (pages_of_all d.report.blocks) ≤ 1
reported_once {d} p kept = at (is_reporting (place_of d.places p)) (kept.reporting p) where
  at : (b : Bool) → times p (pages_of_all d.report.blocks) ≤ one_if b
      → times p (pages_of_all d.report.blocks) ≤ 1
  at x le = grind arith

pub returned_kept : {d : DriverState} {areas2 : FreePages} {r2 : ReportSide} → IsDriver d
    → flags_of areas2 ≡ marked (pages_of_all d.report.blocks) true (flags_of d.areas)
    → AreFor d.areas areas2 → IsReportQueue r2 d.queue_size → r2.blocks ≡ [] → IsDriver (record d {
      places = placed (pages_of_all d.report.blocks) Free d.places;
      areas = areas2;
      report = r2;
    })
returned_kept {d} {areas2} kept given same queue none = let pages = pages_of_all d.report.blocks in
    let leaves : Leaves d pages is_reporting = search (arith, reported_place) in
    kept_changed (record {
      leaves = leaves;
      inflate = kept.inflate;
      deflate = kept.deflate;
      giving = stays leaves Free Giving refl kept.giving;
      taking = λ told. stays leaves Free Taking refl (kept.taking told);
      report = queue;
      reporting = λ p. omega (arith, ap (λ (bs : List Block). times p (pages_of_all bs)) none);
      free = free_set areas2 pages Free kept refl given;
      same = same;
      used = stays_held leaves Free refl;
    })
