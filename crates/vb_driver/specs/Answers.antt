-- How many pages a driver's calls move, and why one is refused: the formulas and tables of the
-- definitions, with the driver's own values.
use Rattle.std.specs.Prelude.{◌≡◌, ℕ, ◌≤◌, Bool, true, not, ◌==◌, List, [], ◌∷◌, ◌++◌, length}
use Rattle.std.specs.Prelude.{nat_le, false, is_some, is_err, IsSome}
use Rattle.std.specs.List.{list_all}
use Rattle.vb_virtio.specs.declared.refusals.Refusal.TheVariants.{RingBroken, AlreadyUp, NoFrame}
use Rattle.vb_virtio.specs.declared.refusals.Refusal.TheVariants.{NoPages, NotHeld}
use Rattle.vb_virtio.specs.declared.limits.TheConstants.{MIN_GUEST_PAGES}
use Rattle.vb_virtio.specs.Layout.{is_start_page, start_pages}
use Rattle.vb_virtio.specs.Features.{stats_vq, deflate_on_oom, reporting}
use Rattle.vb_virtio.specs.FirstRefusal.{Cause, ◌⇒◌}
use Rattle.vb_virtio.specs.Status.{feature_causes}
pub use Rattle.vb_model.specs.Pages.{block_at}
use Rattle.vb_model.specs.Pages.{Block, reported, maximal_free_blocks}
pub use Rattle.vb_virtio.specs.FirstRefusal.{refusal_in}
pub use Rattle.vb_virtio.specs.Status.{is_up}
use Rattle.vb_model.specs.Tables.{pages_to_inflate, pages_to_deflate, pages_when_short}
use Rattle.vb_model.specs.Tables.{Negotiated, inflate_causes as causes_of_inflate}
use Rattle.vb_model.specs.Tables.{driver_causes, request_causes, reap_causes as causes_of_reap}
use Rattle.vb_model.specs.Tables.{block_causes, no_block_free, is_not_held}
use Rattle.vb_ram.specs.Pages.{Pages, frame_at}
use Rattle.vb_ram.specs.Part.{Part}
use Rattle.vb_ring.specs.Ends.{DriverEnd, outstanding, used_answer}
use Rattle.vb_driver.specs.State.{DriverState, room}

-- ---- the numbers of pages that a call moves

abbrev pub inflate_count : DriverState → ℕ → ℕ → ℕ
inflate_count d target n = pages_to_inflate d.places target n

abbrev pub deflate_count : DriverState → ℕ → ℕ → ℕ
deflate_count d target n = pages_to_deflate d.places target n

abbrev pub oom_count : DriverState → ℕ → ℕ
oom_count d n = pages_when_short d.places n

-- ---- the causes

abbrev pub negotiated : DriverState → Part → Negotiated
negotiated d part = record { status = part.status; features = d.features }

abbrev pub alloc_causes : DriverState → ℕ → ℕ → List Cause
alloc_causes d cpu order =
    block_causes order (nat_le d.processors cpu) (no_block_free d.places d.pages order ⇒ NoPages)

abbrev pub free_causes : DriverState → ℕ → ℕ → ℕ → List Cause
free_causes d cpu start order =
    block_causes order (nat_le d.processors cpu)
    (is_not_held d.held (block_at start order) ⇒ NotHeld)

abbrev pub inflate_causes : DriverState → Part → ℕ → List Cause
inflate_causes d part n =
    causes_of_inflate (negotiated d part) (outstanding d.deflate.ring) (record {
      outstanding = outstanding d.inflate.ring;
      most = room d;
      count = inflate_count d part.target n;
    })

abbrev pub deflate_causes : DriverState → Part → ℕ → List Cause
deflate_causes d part n =
    request_causes part.status false (record {
      outstanding = outstanding d.deflate.ring;
      most = room d;
      count = deflate_count d part.target n;
    })

abbrev pub oom_causes : DriverState → Part → ℕ → List Cause
oom_causes d part n =
    request_causes part.status (not (deflate_on_oom d.features)) (record
    { outstanding = outstanding d.deflate.ring; most = room d; count = oom_count d n })

-- the first blocks of order 4 or more from this page on that are wholly free
abbrev pub blocks_to_report : DriverState → ℕ → List Block
blocks_to_report d from = reported (room d) from (maximal_free_blocks d.places)

abbrev pub report_causes : DriverState → Part → ℕ → List Cause
report_causes d part from =
    request_causes part.status (not (reporting d.features)) (record {
      outstanding = outstanding d.report.ring;
      most = 1;
      count = length (blocks_to_report d from);
    })

-- the used ring says what no device may say
abbrev pub is_ring_broken : Pages → DriverEnd → Bool
is_ring_broken mem ring = is_err (used_answer mem ring)

-- a reap from the queue whose ring this is
abbrev pub reap_causes : Pages → Part → DriverState → DriverEnd → ℕ → List Cause
reap_causes mem part d ring queue =
    causes_of_reap queue (negotiated d part) ++ ((is_ring_broken mem ring ⇒ RingBroken) ∷ [])

abbrev pub stats_causes : Pages → Part → DriverState → List Cause
stats_causes mem part d =
    driver_causes part.status (not (stats_vq d.features))
    ++ ((is_ring_broken mem d.statistics ⇒ RingBroken) ∷ [])

-- memory has as many pages as the smallest guest's
abbrev pub IsLargeEnough : Pages → Type 0
IsLargeEnough mem = MIN_GUEST_PAGES ≤ length mem

-- each page of the rings and buffers has a frame, where the queues have this size
abbrev pub HaveRingFrames : ℕ → Pages → Type 0
HaveRingFrames size mem =
    (page : ℕ) → is_start_page size page ≡ true → IsSome (frame_at mem page)

-- the test for it
abbrev pub has_frames : ℕ → Pages → Bool
has_frames size mem = list_all (λ page. is_some (frame_at mem page)) (start_pages size)

abbrev pub init_causes : ℕ → Pages → Part → ℕ → List Cause
init_causes size mem part wanted =
    (not (part.status == 0) ⇒ AlreadyUp)
    ∷ (not (has_frames size mem) ⇒ NoFrame)
    ∷ feature_causes wanted
