-- What a driver does when it takes a used request or report back (VIRTIO 1.1, 2.6.14 and 5.5.6).
use Rattle.std.specs.Prelude.{◌≡◌, ℕ, ◌<◌, ◌==◌, List, [], length, if◌then◌else◌, Option, Some}
use Rattle.std.specs.Prelude.{None, Result, Ok, IfOk, IfErr, OnErr, OnOk, MatchOption, slice_set}
use Rattle.std.specs.Prelude.{bit_or}
use Rattle.vb_model.specs.declared.places.Place.{Place}
use Rattle.vb_virtio.specs.declared.layout.TheConstants.{INFLATE_QUEUE, DEFLATE_QUEUE}
use Rattle.vb_virtio.specs.declared.refusals.Refusal.{Refusal}
use Rattle.vb_virtio.specs.declared.refusals.Refusal.TheVariants.{RingBroken}
use Rattle.vb_virtio.specs.Queues.{Inflating, Deflating, Reporting_free}
use Rattle.vb_virtio.specs.Limits.{max_outstanding}
use Rattle.vb_virtio.specs.Status.{failed}
use Rattle.vb_virtio.specs.FirstRefusal.{first_refusal}
use Rattle.vb_model.specs.Pages.{pages_of_all}
use Rattle.vb_model.specs.Requests.{places_reaped}
use Rattle.vb_ram.specs.Pages.{Pages}
use Rattle.vb_ram.specs.Part.{Part}
use Rattle.vb_pages.specs.FreePages.{FreePages}
use Rattle.vb_ring.specs.Ends.{DriverEnd, after_take, used_answer}
use Rattle.vb_ring.specs.Calls.{TakesUsedBy}
use Rattle.vb_driver.specs.declared.answers.Reaped.{Reaped}
use Rattle.vb_driver.specs.State.{RequestSide, DriverState, IsDriver, sent_by, page_state}
use Rattle.vb_driver.specs.State.{tells_host, given_away}
use Rattle.vb_driver.specs.Areas.{all_given, areas_with}
use Rattle.vb_driver.specs.Answers.{refusal_in, reap_causes}

-- The driver's end of the ring of queue 0, 1 or 4.
abbrev pub ring_of : ℕ → DriverState → DriverEnd
ring_of queue d =
    if queue == INFLATE_QUEUE then d.inflate.ring
    else (if queue == DEFLATE_QUEUE then d.deflate.ring else d.report.ring)

-- The pages that the request with this head names on queue 0, 1 or 4.
abbrev pub pages_sent : ℕ → ℕ → DriverState → List ℕ
pages_sent queue head d =
    if queue == INFLATE_QUEUE then sent_by d.inflate head
    else (if queue == DEFLATE_QUEUE then sent_by d.deflate head
    else pages_of_all d.report.blocks)

-- The request is gone.
abbrev pub after_reap : RequestSide → ℕ → RequestSide
after_reap side head =
    record side { ring = after_take side.ring (Ok (Some head)); sent = slice_set side.sent head [] }

abbrev pub without_request : ℕ → ℕ → DriverState → DriverState
without_request queue head d =
    if queue == INFLATE_QUEUE then record d { inflate = after_reap d.inflate head }
    else (if queue == DEFLATE_QUEUE then record d { deflate = after_reap d.deflate head }
    else record d {
      report = record { ring = after_take d.report.ring (Ok (Some head)); blocks = [] };
    })

-- Where pages are, once those of a used request have moved on.
abbrev pub places_after : ℕ → List ℕ → DriverState → List Place
places_after queue pages d =
    if queue == INFLATE_QUEUE then places_reaped (tells_host d) Inflating pages d.places
    else (if queue == DEFLATE_QUEUE then places_reaped (tells_host d) Deflating pages d.places
    else places_reaped (tells_host d) Reporting_free pages d.places)

-- And the page areas: where the host is told first, those of a deflate come back one by one; those
-- of a report come back in their blocks.
abbrev pub areas_reaped : ℕ → List ℕ → DriverState → FreePages
areas_reaped queue pages d =
    if queue == INFLATE_QUEUE then d.areas
    else (if queue == DEFLATE_QUEUE
    then (if tells_host d then (all_given pages (page_state d)).free else d.areas)
    else areas_with pages d.areas)

-- These pages of a used request are where they go.
abbrev pub moved_on : ℕ → List ℕ → DriverState → DriverState
moved_on queue pages d =
    record d {
      places = places_after queue pages d;
      areas = areas_reaped queue pages d;
    }

-- The driver has told how many pages are given away now.
abbrev pub with_actual : DriverState → DriverState
with_actual d = record d { actual = given_away d }

-- The used request's pages move on, and then `actual` is told.
pub record Reaps (p1 p2 : Part) (d1 d2 : DriverState) (queue : ℕ) (reaped : Reaped) : Type 0 where
  pub small : reaped.head < max_outstanding
  pub pages : reaped.pages ≡ length (pages_sent queue reaped.head d1)
  pub state : d2 ≡ with_actual
      (without_request queue reaped.head (moved_on queue (pages_sent queue reaped.head d1) d1))
  pub part : p2 ≡ record p1 { actual = d2.actual }

-- What the answer says of the used request that is next.
abbrev pub next_of : Option Reaped → Option ℕ
next_of None = None
next_of (Some reaped) = Some reaped.head

-- The driver gives up on a broken ring.
abbrev pub after_refusal : Refusal → Part → Part
after_refusal RingBroken part = record part { status = bit_or part.status failed }
after_refusal _ part = part

pub record ReapsBy (m1 m2 : Pages) (p1 p2 : Part) (d1 d2 : DriverState) (queue : ℕ)
    (result : Result (Option Reaped) Refusal) : Type 0 where
  pub driver : IsDriver d1
  pub mem : m2 ≡ m1
  pub refusal : refusal_in result ≡ first_refusal (reap_causes m1 p1 d1 (ring_of queue d1) queue)
  pub refused : OnErr result (d2 ≡ d1)
  pub failed : IfErr result (λ refusal. p2 ≡ after_refusal refusal p1)
  pub next : IfOk result (λ got. used_answer m1 (ring_of queue d1) ≡ Ok (next_of got))
  pub ring : OnOk result (TakesUsedBy m1 (ring_of queue d1) (ring_of queue d2)
      (used_answer m1 (ring_of queue d1)))
  pub reaps : IfOk result (λ got. MatchOption got ((p2 ≡ p1) × (d2 ≡ d1)) (Reaps p1 p2 d1 d2 queue))
