-- Pages lose their frames one at a time: the work of a paced device, and a sweep (profile).
use Rattle.std.specs.Prelude.{◌≡◌, ℕ, Bool, [], ◌∷◌, if◌then◌else◌, Option, Some, None, is_some}
use Rattle.std.specs.Prelude.{Result, Ok, Err}
use Rattle.vb_virtio.specs.declared.layout.TheConstants.{INFLATE_QUEUE, REPORT_QUEUE}
use Rattle.vb_virtio.specs.declared.refusals.Refusal.{Refusal}
use Rattle.vb_model.specs.Device.{visiting, next_page}
use Rattle.vb_ram.specs.Pages.{Pages, frame_at}
use Rattle.vb_ram.specs.Part.{Part}
use Rattle.vb_device.specs.declared.worked.Worked.{Worked}
use Rattle.vb_device.specs.Queues.{queue_part, with_queue}
use Rattle.vb_device.specs.Conditions.{work_refusal, sweep_refusal}
use Rattle.vb_device.specs.Discards.{discarded, frames_behind}
use Rattle.vb_device.specs.Loose.{SameFrames}

-- The oldest page of a queue that is still to be visited, of a device that visits pages.
abbrev pub next_visit : ℕ → Part → Option ℕ
next_visit q part = if part.paced then next_page (queue_part q part).taken else None

-- A page of a taken request on this queue is visited: it loses its frame, if it has one. No frame
-- was loose before.
pub record Visits (q page : ℕ) (m1 m2 : Pages) (p1 p2 : Part)
    (result : Result (Option Worked) Refusal) : Type 0 where
  pub answer : result ≡ Ok (Some (record { page = page; freed = is_some (frame_at m1 page) }))
  pub memory : m2 ≡ discarded (page ∷ []) m1
  pub part : p2 ≡
      record (with_queue q
      (record (queue_part q p1) { taken = visiting (queue_part q p1).taken }) p1) {
        loose = p2.loose;
      }
  pub loose : SameFrames p2.loose (frames_behind m1 (page ∷ []))

-- One more step of the device's own work.
pub record WorksBy (m1 m2 : Pages) (p1 p2 : Part)
    (result : Result (Option Worked) Refusal) : Type 0 where
  pub refused : (why : Refusal) → work_refusal p1 ≡ Some why →
      (result ≡ Err why) × (p2 ≡ p1) × (m2 ≡ m1)
  pub idle : work_refusal p1 ≡ None → next_visit INFLATE_QUEUE p1 ≡ None →
      next_visit REPORT_QUEUE p1 ≡ None → (result ≡ Ok None) × (p2 ≡ p1) × (m2 ≡ m1)
  pub inflate : (page : ℕ) → work_refusal p1 ≡ None → next_visit INFLATE_QUEUE p1 ≡ Some page →
      Visits INFLATE_QUEUE page m1 m2 p1 p2 result
  pub report : (page : ℕ) → work_refusal p1 ≡ None → next_visit INFLATE_QUEUE p1 ≡ None →
      next_visit REPORT_QUEUE p1 ≡ Some page → Visits REPORT_QUEUE page m1 m2 p1 p2 result

-- A page loses its frame, if it has one.
pub record SweepsBy (page : ℕ) (m1 m2 : Pages) (p1 p2 : Part)
    (result : Result Bool Refusal) : Type 0 where
  pub refused : (why : Refusal) → sweep_refusal page p1 ≡ Some why →
      (result ≡ Err why) × (p2 ≡ p1) × (m2 ≡ m1)
  pub answer : sweep_refusal page p1 ≡ None → result ≡ Ok (is_some (frame_at m1 page))
  pub memory : sweep_refusal page p1 ≡ None → m2 ≡ discarded (page ∷ []) m1
  pub part : sweep_refusal page p1 ≡ None → p2 ≡ record p1 { loose = p2.loose }
  pub loose : sweep_refusal page p1 ≡ None → SameFrames p2.loose (frames_behind m1 (page ∷ []))
