-- The guest once its driver started the device, or gave up.
use Rattle.std.specs.Prelude.{◌≡◌, ℕ, ◌≤◌, Bool, true, false, if◌then◌else◌, List, length, Option}
use Rattle.std.{specs.Prelude.{IsSome, replicate, refl}, proofs.lemmas.Bool.false_from_ne_true}
use Rattle.std.proofs.{lemmas.List.length-replicate, Common.{sym, ap, subst, arith, inr}}
use Rattle.vb_model.specs.Requests.{no_requests, StatisticsBuffer, NoBuffer, BufferPosted, Figures}
use Rattle.vb_virtio.specs.Layout.{reserved_pages, ring_page, is_ring_page, is_start_page}
use Rattle.vb_virtio.specs.Features.{stats_vq}
use Rattle.vb_virtio.proofs.Shapes.{ring_reserved}
use Rattle.vb_model.specs.Guest.{Guest}
use Rattle.vb_model.specs.Driver.{figures}
use Rattle.vb_ram.specs.{Pages.{Pages, page_at, frame_at}, Part.{Part, no_queue}}
use Rattle.{vb_ring.specs.{Ends.DriverEnd, Layout.IsSize}, vb_status.specs.After.part_after_reset}
use Rattle.vb_driver.specs.State.{DriverState, IsDriver, fresh_side, fresh_statistics, fresh_report}
use Rattle.vb_driver.specs.{State.figures_of, Calls.Starts}
use Rattle.vb_driver.specs.{Calls.{GivesUp, IsNewRing, FirstBuffer}, Coding.{AreZeroed, AreFigures}}
use Rattle.vb_guest.specs.Stands.{Ties, HasParts, HasPages, IsIdle, beside_queues, beside_sides}
use Rattle.vb_guest.specs.{Stands.beside_requests, Buffer.BufferLine, Reported.ReportLine}
use Rattle.vb_guest.{specs.Line.Line, proofs.RingPosted.ring_posted}
use Rattle.vb_guest.proofs.{PagesKept.pages_same, Closing.ties_same, RingApart.ring_new}

no_flags : (p : Part) {g : Guest}
    → p.ballooned ≡ g.ballooned → IsIdle g → replicate (length p.ballooned) false ≡ g.ballooned
no_flags p same idle = grind (arith, length-replicate)

-- nothing was published, and nothing used
fresh_line : {m : Pages} (queue count : ℕ) {q : ℕ} → IsSize q → IsNewRing m
    (fresh_side queue q).ring → Line m queue count (fresh_side queue q) no_queue no_requests
fresh_line queue count sized new = grind (arith, ring_new)

fresh_report_line : {m : Pages} (count : ℕ) {q : ℕ} → IsSize q
    → IsNewRing m (fresh_report q).ring → ReportLine m count (fresh_report q) no_queue no_requests
fresh_report_line count sized new = grind (arith, ring_new)

-- the first statistics buffer, where there is one
abbrev pub first_buffer : Bool → Figures → StatisticsBuffer
first_buffer b f = if b then BufferPosted f else NoBuffer

first_line : (b : Bool) {zeroed m : Pages} (d1 d2 : DriverState) {f : Figures}
    → IsSize d1.queue_size → figures_of d1 ≡ f → IsNewRing zeroed (fresh_statistics d1.queue_size)
    → FirstBuffer b zeroed m d1 d2 → BufferLine m d2.statistics no_queue (first_buffer b f)
first_line true {m} d1 d2 sized is new did =
    subst (λ (x : Figures). BufferLine m d2.statistics no_queue (BufferPosted x)) is (record {
      stands = ring_posted 1 (ring_new sized refl new) did.state did.announces;
      figures = subst (λ (s : ℕ). AreFigures m (ring_page s 2) (figures_of d1))
          (sym (ap (λ (r : DriverEnd). r.size) did.state)) did.coded;
      remembers = refl;
    })
first_line false {zeroed} d1 d2 sized is new did =
    let L : Pages → DriverEnd → Type 0 = λ x r. BufferLine x r no_queue NoBuffer in
    subst (λ (x : Pages). L x d2.statistics) (sym did.0) (subst (L zeroed) (sym did.1) (record {
      stands = ring_new sized refl new;
      figures = tt;
      remembers = refl;
    }))

first_size : (b : Bool) (zeroed m : Pages) (d1 d2 : DriverState) → FirstBuffer b zeroed m d1 d2
    → d2.statistics.size ≡ d1.queue_size
first_size x zeroed m d1 d2 did = grind arith

-- what the start leaves of memory
record KeepsPages (size : ℕ) (old new : Pages) : Type 0 where
  count : length new ≡ length old
  backing : (p : ℕ) → frame_at new p ≡ frame_at old p
  high : (p : ℕ) → reserved_pages size ≤ p → page_at new p ≡ page_at old p

-- a page past the reserved ones is no ring's
no_ring : (size p : ℕ) → reserved_pages size ≤ p → is_ring_page size p ≡ false
no_ring size p high = false_from_ne_true (is_ring_page size p)
    (λ ring. omega (arith, high, ring_reserved size p ring))

start_keeps : (b : Bool) {m1 zeroed m : Pages} (d1 d2 : DriverState)
    → IsSize d1.queue_size → AreZeroed m1 zeroed (is_ring_page d1.queue_size)
    → FirstBuffer b zeroed m d1 d2 → KeepsPages d1.queue_size m1 m
start_keeps b d1 d2 sized zeroes did = grind (arith, no_ring)

figures_are : (d : DriverState) (g : Guest) → d.places ≡ g.places → d.pages ≡ g.config.pages
    → figures_of d ≡ figures g
figures_are d g places pages = grind arith

-- the guest whose pages have these frames, and whose device is initialised
pub started : {m2 m3 : Pages} {p1 p3 : Part} {d1 d2 : DriverState} {g : Guest} {frames : List
    (Option ℕ)} {wanted : ℕ} → HasPages m2 g.config.queue_size g.config.pages frames g.contents
    → ((p : ℕ) → is_start_page g.config.queue_size p ≡ true → IsSome (frame_at m2 p))
    → IsIdle g → IsDriver d1 → HasParts (beside_queues p1) (beside_sides d1) (beside_requests g)
    → Starts m2 m3 p1 p3 d1 d2 wanted
    → Ties m3 p3 d2 (record g {
      frames = frames;
      status = 15;
      features = wanted;
      buffer = first_buffer (stats_vq wanted) (figures g);
    })
started {m3} {p1} {d1} {d2} {g} {frames} {wanted} has backed idle driver parts did =
    let new : Guest = record g {
      frames = frames;
      status = 15;
      features = wanted;
      buffer = first_buffer (stats_vq wanted) (figures g);
    } in
    let part : Part = record (part_after_reset p1) { status = 15; features = wanted } in
    let state : DriverState = record d1 {
      inflate = fresh_side 0 d1.queue_size;
      deflate = fresh_side 1 d1.queue_size;
      statistics = d2.statistics;
      report = fresh_report d1.queue_size;
      features = wanted;
      actual = 0;
    } in
    let n = g.config.pages in
    let inflate = fresh_line 0 n driver.size
    (subst (λ (d : DriverState). IsNewRing m3 d.inflate.ring) did.driver did.inflate) in
    let deflate = fresh_line 1 n driver.size
    (subst (λ (d : DriverState). IsNewRing m3 d.deflate.ring) did.driver did.deflate) in
    let report = fresh_report_line n driver.size
    (subst (λ (d : DriverState). IsNewRing m3 d.report.ring) did.driver did.report) in
    let keeps = start_keeps (stats_vq wanted) d1 d2 driver.size did.rings did.buffer in
    let there : Ties m3 part state new = record {
      parts =
          assumption (
            sym idle.actual,
            sym idle.actual,
            no_flags p1 parts.device.ballooned idle,
            sym idle.last,
          );
      pages = pages_same (search arith) has;
      queues = inr (search (arith, first_size, first_line, figures_are));
    } in ties_same refl did.part did.driver there

-- the guest whose pages have these frames, and whose driver gave up
pub stopped : {m2 m3 : Pages}
    {p1 p3 : Part} {d1 d2 : DriverState} {g : Guest} {frames : List (Option ℕ)} {accepted : ℕ}
    → HasPages m2 g.config.queue_size g.config.pages frames g.contents → IsIdle g → HasParts
    (beside_queues p1) (beside_sides d1) (beside_requests g) → GivesUp m2 m3 p1 p3 d1 d2 accepted
    → Ties m3 p3 d2 (record g { frames = frames; status = 131; features = accepted })
stopped has idle parts did = grind (arith, no_flags)
