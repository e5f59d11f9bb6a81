-- How a driver initialises its device, resets it, and what it keeps then (VIRTIO 1.1, 2.1 and
-- 3.1.1).
use Rattle.std.specs.Prelude.{◌≡◌, ℕ, [], map, Result, IfErr, OnOk, Bool, true, false}
use Rattle.vb_virtio.specs.declared.negotiation.TheConstants.{FAILED_STATUS, READY_STATUS}
use Rattle.vb_virtio.specs.declared.refusals.Refusal.{Refusal}
use Rattle.vb_virtio.specs.declared.refusals.Refusal.TheVariants.{AlreadyUp, NoFrame}
use Rattle.vb_virtio.specs.Tests.{pages_where}
use Rattle.vb_virtio.specs.Features.{stats_vq}
use Rattle.vb_virtio.specs.Status.{feature_refusal}
use Rattle.vb_virtio.specs.FirstRefusal.{first_refusal}
use Rattle.vb_virtio.specs.Layout.{is_ring_page}
use Rattle.vb_model.specs.Pages.{is_reporting}
use Rattle.vb_model.specs.Life.{place_after_reset, accepted_before}
use Rattle.vb_ram.specs.Pages.{Pages}
use Rattle.vb_ram.specs.Part.{Part}
use Rattle.vb_status.specs.After.{part_after_reset}
use Rattle.vb_ring.specs.Ends.{DriverEnd}
use Rattle.vb_ring.specs.Meaning.{Shows, Tracks}
use Rattle.vb_driver.specs.Coding.{AreZeroed}
use Rattle.vb_driver.specs.State.{DriverState, IsDriver, fresh_side, fresh_statistics, fresh_report}
use Rattle.vb_driver.specs.State.{figures_of}
use Rattle.vb_driver.specs.Areas.{areas_with}
use Rattle.vb_driver.specs.Answers.{refusal_in, init_causes}
use Rattle.vb_driver.specs.Unchanged.{Unchanged}
use Rattle.vb_driver.specs.Statistics.{PostsBuffer}

-- The ring of a queue shows that nothing was published and nothing used.
pub record IsNewRing (mem : Pages) (ring : DriverEnd) : Type 0 where
  pub shows : Shows mem ring.layout ring.size [] []
  pub tracks : Tracks mem ring [] [] 0

-- Once the rings are zeroed: where a queue of statistics was agreed on, the first buffer goes out,
-- filled; else that ring is as new.
abbrev pub FirstBuffer : Bool → Pages → Pages → DriverState → DriverState → Type 0
FirstBuffer true m1 m2 d1 d2 =
    PostsBuffer m1 m2 (fresh_statistics d1.queue_size) d2.statistics (figures_of d1)
FirstBuffer false m1 m2 d1 d2 =
    (m2 ≡ m1) × (d2.statistics ≡ fresh_statistics d1.queue_size)

-- The rings begin anew in zeroed pages, the first statistics buffer is filled, and the device is
-- told so: its status is ACKNOWLEDGE, DRIVER, FEATURES_OK and DRIVER_OK (1 + 2 + 8 + 4).
pub record Starts (m1 m2 : Pages) (p1 p2 : Part) (d1 d2 : DriverState) (wanted : ℕ) : Type 0 where
  pub part : p2 ≡ record (part_after_reset p1) { status = READY_STATUS; features = wanted }
  pub driver : d2 ≡ record d1 {
    inflate = fresh_side 0 d1.queue_size;
    deflate = fresh_side 1 d1.queue_size;
    statistics = d2.statistics;
    report = fresh_report d1.queue_size;
    features = wanted;
    actual = 0;
  }
  pub inflate : IsNewRing m2 d2.inflate.ring
  pub deflate : IsNewRing m2 d2.deflate.ring
  pub report : IsNewRing m2 d2.report.ring
  pub zeroed : Pages
  pub rings : AreZeroed m1 zeroed (is_ring_page d1.queue_size)
  pub statistics : IsNewRing zeroed (fresh_statistics d1.queue_size)
  pub buffer : FirstBuffer (stats_vq wanted) zeroed m2 d1 d2

-- The device is reset, so no request is out any more.
abbrev pub with_nothing_out : DriverState → DriverState
with_nothing_out d = record d {
  inflate = fresh_side 0 d.queue_size;
  deflate = fresh_side 1 d.queue_size;
  statistics = fresh_statistics d.queue_size;
  report = fresh_report d.queue_size;
}

-- The device and its driver agree on the features (1 + 2 + 8).
pub record Agrees (m1 m2 : Pages) (p1 p2 : Part) (d1 d2 : DriverState) (wanted : ℕ) : Type 0 where
  pub mem : m2 ≡ m1
  pub part : p2 ≡ record (part_after_reset p1) { status = 11; features = wanted }
  pub driver : d2 ≡ record (with_nothing_out d1) { features = wanted; actual = 0 }

-- The driver gives up, where the device was asked for features that it refused (128 + 2 + 1).
pub record GivesUp (m1 m2 : Pages) (p1 p2 : Part) (d1 d2 : DriverState)
    (features : ℕ) : Type 0 where
  pub mem : m2 ≡ m1
  pub part : p2 ≡ record (part_after_reset p1) { status = FAILED_STATUS; features = features }
  pub driver : d2 ≡ record (with_nothing_out d1) { features = features; actual = 0 }

abbrev pub InitRefused : Refusal → Pages → Pages → Part → Part → DriverState → DriverState → ℕ
    → Type 0
InitRefused AlreadyUp m1 m2 p1 p2 d1 d2 wanted = Unchanged m1 m2 p1 p2 d1 d2
InitRefused NoFrame m1 m2 p1 p2 d1 d2 wanted = Unchanged m1 m2 p1 p2 d1 d2
InitRefused refusal m1 m2 p1 p2 d1 d2 wanted =
    GivesUp m1 m2 p1 p2 d1 d2 (accepted_before refusal wanted)

-- The device is reset, and then asked for the features.
pub record NegotiatesBy {T : Type 0} (m1 m2 : Pages) (p1 p2 : Part) (d1 d2 : DriverState)
    (wanted : ℕ) (result : Result T Refusal) : Type 0 where
  pub refusal : refusal_in result ≡ feature_refusal wanted
  pub refused : IfErr result (λ refusal. GivesUp m1 m2 p1 p2 d1 d2 (accepted_before refusal wanted))
  pub agrees : OnOk result (Agrees m1 m2 p1 p2 d1 d2 wanted)

pub record InitsBy {T : Type 0} (m1 m2 : Pages) (p1 p2 : Part) (d1 d2 : DriverState) (wanted : ℕ)
    (result : Result T Refusal) : Type 0 where
  pub driver : IsDriver d1
  pub refusal : refusal_in result ≡ first_refusal (init_causes d1.queue_size m1 p1 wanted)
  pub refused : IfErr result (λ refusal. InitRefused refusal m1 m2 p1 p2 d1 d2 wanted)
  pub starts : OnOk result (Starts m1 m2 p1 p2 d1 d2 wanted)

-- A reset of the device: what was lent, or on its way, is stranded, pages that are reported are
-- free, and nothing is outstanding any more.
pub record ResetsBy (m1 m2 : Pages) (p1 p2 : Part) (d1 d2 : DriverState) : Type 0 where
  pub driver : IsDriver d1
  pub mem : m2 ≡ m1
  pub part : p2 ≡ part_after_reset p1
  pub state : d2 ≡ record d1 {
    places = map place_after_reset d1.places;
    areas = areas_with (pages_where is_reporting d1.places) d1.areas;
    inflate = fresh_side 0 d1.queue_size;
    deflate = fresh_side 1 d1.queue_size;
    statistics = fresh_statistics d1.queue_size;
    report = fresh_report d1.queue_size;
    features = 0;
    actual = 0;
  }
