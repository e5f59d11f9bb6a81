-- A device uses a taken chain (VIRTIO 1.1, 2.6.8): a request, a report, or the statistics buffer
-- (5.5.6.3).
use Rattle.std.specs.Prelude.{◌≡◌, ℕ, ◌+◌, ◌%◌, ◌==◌, true, false, List, [], remove, if◌then◌else◌}
use Rattle.std.specs.Prelude.{Some, None, Result, Ok, Err, IsOk}
use Rattle.vb_virtio.specs.declared.layout.TheConstants.{INFLATE_QUEUE, DEFLATE_QUEUE}
use Rattle.vb_virtio.specs.declared.layout.TheConstants.{STATISTICS_QUEUE}
use Rattle.vb_virtio.specs.declared.refusals.Refusal.{Refusal}
use Rattle.vb_virtio.specs.Queues.{Request}
use Rattle.vb_ram.specs.Pages.{Pages}
use Rattle.vb_ram.specs.Part.{Part}
use Rattle.vb_ring.specs.Calls.{AddsUsedBy}
use Rattle.vb_device.specs.Queues.{queue_part, with_queue, queue_end}
use Rattle.vb_device.specs.Conditions.{finish_refusal, ask_refusal, taken_at}
use Rattle.vb_device.specs.Discards.{discarded, frames_behind, flagged}
use Rattle.vb_request.specs.Request.{each_once}
use Rattle.vb_device.specs.Loose.{SameFrames}

-- An inflate's pages and a report's lose their frames, a deflate's keep them.
abbrev pub without_frames : ℕ → List ℕ → Pages → Pages
without_frames q pages mem = if q == DEFLATE_QUEUE then mem else discarded pages mem

-- The frames that they lose; a page that a report names again has lost its frame already.
abbrev pub lost_frames : ℕ → List ℕ → Pages → List ℕ
lost_frames q pages mem =
    if q == DEFLATE_QUEUE then [] else frames_behind mem (each_once pages)

-- An inflate's pages are ballooned, a deflate's are ballooned no more.
abbrev pub settled : ℕ → List ℕ → Part → Part
settled q pages part =
    if q == INFLATE_QUEUE then record part { ballooned = flagged pages true part.ballooned }
    else (if q == DEFLATE_QUEUE then record part { ballooned = flagged pages false part.ballooned }
    else part)

-- The taken request of this number is used, and those after it close up.
abbrev pub using : ℕ → ℕ → Part → Part
using q index part =
    with_queue q
    (record (queue_part q part) {
      next_used = ((queue_part q part).next_used + 1) % 65536;
      taken = remove (queue_part q part).taken index;
    })
    part

-- A taken request is used: its head is answered, its pages are settled, what they lost is loose,
-- and the used ring has the head, with length 0. No frame was loose before.
pub record Uses (q index : ℕ) (r : Request) (m1 m2 : Pages) (p1 p2 : Part)
    (result : Result ℕ Refusal) : Type 0 where
  pub answer : result ≡ Ok r.head
  pub part : p2 ≡ record (settled q r.pages (using q index p1)) { loose = p2.loose }
  pub loose : SameFrames p2.loose (lost_frames q r.pages m1)
  pub memory : AddsUsedBy (without_frames q r.pages m1) m2
      (queue_end q p1) (queue_end q p2) r.head 0

-- A finish of the taken request of this number.
pub record FinishesBy (q index : ℕ) (m1 m2 : Pages) (p1 p2 : Part)
    (result : Result ℕ Refusal) : Type 0 where
  pub refused : (why : Refusal) → finish_refusal q index p1 ≡ Some why →
      (result ≡ Err why) × (p2 ≡ p1) × (m2 ≡ m1)
  pub finished : (r : Request) → finish_refusal q index p1 ≡ None → taken_at q index p1 ≡ Some r →
      Uses q index r m1 m2 p1 p2 result

-- The taken statistics buffer is used, with length 0, so that the driver may fill it anew.
pub record AsksBy {T : Type 0} (m1 m2 : Pages) (p1 p2 : Part) (result : Result T Refusal) :
    Type 0 where
  pub refused : (why : Refusal) → ask_refusal p1 ≡ Some why →
      (result ≡ Err why) × (p2 ≡ p1) × (m2 ≡ m1)
  pub answers : ask_refusal p1 ≡ None → IsOk result
  pub part : ask_refusal p1 ≡ None → p2 ≡ using STATISTICS_QUEUE 0 p1
  pub memory : (r : Request) → ask_refusal p1 ≡ None → taken_at STATISTICS_QUEUE 0 p1 ≡ Some r →
      AddsUsedBy m1 m2 (queue_end STATISTICS_QUEUE p1) (queue_end STATISTICS_QUEUE p2) r.head 0
