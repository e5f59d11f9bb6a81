-- A guest's reset is a step of the definitions.
use Rattle.std.specs.Prelude.{◌≡◌, ℕ, Bool, false, List, [], length, map, replicate, refl}
use Rattle.{std.proofs.Common.{◌∙◌, ap, inl}, vb_driver.specs.{Areas.areas_with, Calls.ResetsBy}}
use Rattle.vb_model.specs.declared.{calls.Call.TheVariants.Reset, places.Place.Place}
use Rattle.vb_virtio.specs.Tests.{pages_where}
use Rattle.vb_model.specs.declared.replies.Reply.TheVariants.{Done}
use Rattle.vb_model.specs.Guest.{Guest}
use Rattle.vb_model.specs.{Pages.is_reporting, Life.{place_after_reset, after_reset}}
use Rattle.{vb_ram.specs.Pages.Pages, vb_guest.specs.{Stands.{Honest, Ties}, Steps.StepsAlone}}
use Rattle.{vb_ram.specs.Part.Part, vb_status.specs.After.part_after_reset as device_after_reset}
use Rattle.vb_driver.specs.State.{DriverState, fresh_side, fresh_statistics, fresh_report}
use Rattle.vb_guest.proofs.Closing.{honest_performed, steps_alone, ties_same}

pub reset_step : {m1 m2 : Pages} {p1 p2 : Part} {d1 d2 : DriverState} {g : Guest}
    → ResetsBy m1 m2 p1 p2 d1 d2 → Honest m1 p1 d1 g → StepsAlone (Honest m2 p2 d2) g Reset Done
reset_step {m1} {p1} {d1} {g} did stands = let parts = stands.ties.parts in
    let new : Guest = after_reset g in let part : Part = device_after_reset p1 in
    let state : DriverState =
    record d1 {
      places = map place_after_reset d1.places;
      areas = areas_with (pages_where is_reporting d1.places) d1.areas;
      inflate = fresh_side 0 d1.queue_size;
      deflate = fresh_side 1 d1.queue_size;
      statistics = fresh_statistics d1.queue_size;
      report = fresh_report d1.queue_size;
      features = 0;
      actual = 0;
    } in
    let size : length p1.ballooned ≡ g.config.pages =
    ap (λ (l : List Bool). length l) parts.device.ballooned ∙ stands.consistent.flagged in
    let there : Ties m1 part state new = record {
      parts = assumption (
        ap (λ (l : List Place). map place_after_reset l) parts.driver.places,
        ap (λ (n : ℕ). replicate n false) size,
      );
      pages = stands.ties.pages;
      queues = inl (record {
        state = inl refl;
        inflate = refl;
        deflate = refl;
        report = refl;
        buffer = refl;
        ballooned = refl;
        actual = refl;
        last = refl;
      });
    } in
    steps_alone stands (honest_performed g Reset [] Done new refl (refl, (refl, refl)))
    (ties_same did.mem did.part did.state there) refl
