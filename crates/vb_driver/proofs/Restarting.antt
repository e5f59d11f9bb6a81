-- A driver that begins a new life is as a new one.
use Rattle.std.proofs.{Common.{◌≡◌, ◌∙◌, sym, ap, ℕ, List, length, map}, lemmas.List.length-map}
use Rattle.vb_model.specs.{declared.places.Place.Place, Life.place_after_reset, Pages.all_free}
use Rattle.vb_virtio.specs.Tests.{pages_where}
use Rattle.vb_virtio.specs.Layout.{reserved_pages}
use Rattle.vb_model.specs.Pages.{is_free, is_reporting}
use Rattle.vb_pages.specs.PageState.{PageState, page_count, cpu_count, reserved_count}
use Rattle.{vb_pages.specs.PageState.new_page_state, vb_driver.specs.State.DriverState}
use Rattle.vb_driver.specs.State.{IsDriver, page_state, fresh_driver, fresh_side, fresh_statistics}
use Rattle.vb_driver.{specs.{State.fresh_report, Areas.areas_with}, proofs.Flags.length_flags}

abbrev after_reset : DriverState → DriverState
after_reset d = record d {
  places = map place_after_reset d.places;
  areas = areas_with (pages_where is_reporting d.places) d.areas;
  inflate = fresh_side 0 d.queue_size;
  deflate = fresh_side 1 d.queue_size;
  statistics = fresh_statistics d.queue_size;
  report = fresh_report d.queue_size;
  features = 0;
  actual = 0;
}

-- all pages are free after a reset
pub restarted : (d : DriverState) {v : DriverState} {at : List Place} {reserved : ℕ} {s : PageState}
    → IsDriver v → v ≡ after_reset d
    → reserved ≡ reserved_pages v.queue_size → at ≡ all_free reserved (length v.places)
    → s ≡ new_page_state (page_count (page_state v)) (cpu_count (page_state v))
    (reserved_count (page_state v)) → record v { places = at; held = s.held; areas = s.free }
    ≡ fresh_driver d.pages d.queue_size d.processors
restarted d {v} {at} {s} kept is few free areas =
    let pages : v.pages ≡ d.pages = ap (λ (x : DriverState). x.pages) is in
    let table : length v.places ≡ d.pages = kept.table ∙ pages in
    let count : page_count (page_state v) ≡ d.pages =
    sym (length_flags (page_state v))
    ∙ (ap length kept.free ∙ (length-map v.places is_free ∙ table)) in
    let lists : cpu_count (page_state v) ≡ d.processors =
    kept.processors ∙ ap (λ (x : DriverState). x.processors) is in
    let size : reserved_pages v.queue_size ≡ reserved_pages d.queue_size =
    ap (λ (x : DriverState). reserved_pages x.queue_size) is in
    let set_aside : reserved_count (page_state v) ≡ reserved_pages d.queue_size =
    kept.set_aside ∙ size in
    let at_first : at ≡ all_free (reserved_pages d.queue_size) d.pages =
    free ∙ (ap (λ (n : ℕ). all_free n (length v.places)) (few ∙ size)
    ∙ ap (all_free (reserved_pages d.queue_size)) table) in
    let new : s ≡ new_page_state d.pages d.processors (reserved_pages d.queue_size) =
    areas ∙ (ap (λ n. new_page_state n (cpu_count (page_state v)) (reserved_count (page_state v)))
    count ∙ (ap (λ n. new_page_state d.pages n (reserved_count (page_state v))) lists
    ∙ ap (new_page_state d.pages d.processors) set_aside)) in
    let fresh : DriverState = fresh_driver d.pages d.queue_size d.processors in
    ap (λ (x : DriverState). record x { places = at; held = s.held; areas = s.free }) is
    ∙ (ap (λ (l : List Place). record fresh { places = l; held = s.held; areas = s.free }) at_first
    ∙ ap (λ (x : PageState). record fresh { held = x.held; areas = x.free }) new)
