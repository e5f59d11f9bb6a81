-- A guest's report is a step of the definitions.
use Rattle.{std.specs.Prelude.{◌≡◌, ℕ, ◌<◌, ◌==◌, Bool, not}, vb_guest.proofs.RunApart.sizes_of}
use Rattle.std.specs.Prelude.{nat_le, List, [], ◌∷◌, length, Result, Ok, Err, Some, None, refl, All}
use Rattle.std.proofs.{lemmas.List.length-map, Common.{sym, ◌∙◌, ap, subst, arith, inr}}
use Rattle.vb_virtio.specs.FirstRefusal.{◌⇒◌, first_refusal}
use Rattle.vb_virtio.specs.Features.{reporting}
use Rattle.vb_virtio.specs.Queues.{Request, Reporting_free}
use Rattle.vb_virtio.specs.Status.{is_up}
use Rattle.vb_virtio.specs.declared.refusals.Refusal.{Refusal}
use Rattle.vb_virtio.specs.declared.refusals.Refusal.TheVariants.{NotReady, NoFeature, QueueFull}
use Rattle.vb_virtio.specs.declared.refusals.Refusal.TheVariants.{Nothing}
use Rattle.vb_model.specs.Driver.{after_posting}
use Rattle.vb_model.specs.Guest.{Guest}
use Rattle.vb_model.specs.Pages.{Block, placed, pages_of_all, reported}
use Rattle.vb_model.specs.{Pages.maximal_free_blocks, Refusals.{refusal_of, reported_blocks}}
use Rattle.vb_model.specs.Requests.{Requests, no_requests, outstanding, posting}
use Rattle.vb_model.specs.Requests.{IsLeastHead}
use Rattle.vb_model.specs.Tables.{most_requests}
use Rattle.vb_model.specs.declared.{calls.Call.TheVariants.Report, places.Place.Place}
use Rattle.vb_model.specs.declared.places.Place.TheVariants.{Reporting}
use Rattle.vb_model.specs.declared.replies.Reply.TheVariants.{Posted}
use Rattle.{vb_ram.specs.{Pages.Pages, Part.Part}, vb_ring.specs.Ends.outstanding as outstanding_in}
use Rattle.vb_driver.specs.{Answers.{report_causes, blocks_to_report}, Areas.areas_without}
use Rattle.vb_driver.specs.{Calls.{Reports, ReportsBy, unreported}, State.DriverState}
use Rattle.vb_driver.specs.{State.ReportSide, declared.answers.Posted.Posted as PostedRequest}
use Rattle.vb_guest.proofs.RunApart.{ring_of, ring_low, table_clear, post_leaves, post_same}
use Rattle.vb_guest.proofs.Closing.{honest_performed, honest_refused, steps_alone, ties_same}
use Rattle.vb_guest.proofs.SameRefusals.{refused_alike, runs_where, IsIdleStatus}
use Rattle.vb_guest.proofs.{RingHeads.ring_count, OwnBlocks.{reported_own, reported_few}}
use Rattle.vb_guest.proofs.{Running.others_posted, ReportLines.report_posted, PagesKept.pages_same}
use Rattle.vb_guest.{proofs.Apart.no_buffer, specs.Reported.{IsReport, ReportLine, IsOwnBlock}}
use Rattle.vb_guest.specs.{Stands.{Honest, Ties, IsRunning}, Replies.posted_reply, Steps.StepsAlone}

-- ---- refusals

blocks_same : (d : DriverState) (g : Guest) (from : ℕ) → d.queue_size ≡ g.config.queue_size
    → d.places ≡ g.places → blocks_to_report d from ≡ reported_blocks g from
blocks_same d g from size places =
    let B : ℕ → List Place → List Block =
    λ queue_size ps. reported (most_requests queue_size) from (maximal_free_blocks ps) in
    ap (λ (n : ℕ). B n d.places) size ∙ ap (λ (ps : List Place). B g.config.queue_size ps) places

report_same : (p : Part) (d : DriverState) (g : Guest) (from : ℕ) → p.status ≡ g.status → d.features
    ≡ g.features → outstanding_in d.report.ring ≡ outstanding g.report → blocks_to_report d from
    ≡ reported_blocks g from → first_refusal (report_causes d p from) ≡ refusal_of g (Report from)
report_same p d g from status features out blocks = grind arith

report_idle : (p : Part) (d : DriverState) (g : Guest) (from : ℕ) → p.status ≡ g.status
    → IsIdleStatus g.status → (first_refusal (report_causes d p from) ≡ Some NotReady)
    × (refusal_of g (Report from) ≡ Some NotReady)
report_idle p d g from same down = grind arith

-- the driver's areas are none of the guest's
unreported_ties : (why : Refusal) {m1 m2 : Pages} {p1 p2 : Part} {d1 d2 : DriverState} {g : Guest}
    → m2 ≡ m1 → p2 ≡ p1 → d2 ≡ unreported why d1 → Ties m1 p1 d1 g → Ties m2 p2 d2 g
unreported_ties why m p d ties = search arith

report_refused : {m1 m2 : Pages} {p1 p2 : Part} {d1 d2 : DriverState}
    {g : Guest} {from : ℕ} (why : Refusal) → ReportsBy m1 m2 p1 p2 d1 d2 from (Err why)
    → Honest m1 p1 d1 g → first_refusal (report_causes d1 p1 from) ≡ refusal_of g (Report from)
    → StepsAlone (Honest m2 p2 d2) g (Report from) (posted_reply (Err why))
report_refused {g} {from} why did stands same =
    steps_alone stands (honest_refused g (Report from) why (sym (did.refusal ∙ same)))
    (unreported_ties why did.refused.mem did.refused.part did.refused.driver stands.ties) refl

-- ---- a new report

-- none is out, and there is a block
none_out : (a b : Bool) (out count : ℕ) → first_refusal ((a ⇒ NotReady) ∷ (b ⇒ NoFeature)
    ∷ (nat_le 1 out ⇒ QueueFull) ∷ ((count == 0) ⇒ Nothing) ∷ []) ≡ None → (out ≡ 0) × (0 < count)
none_out a b out count e = grind arith

all_gone : {rs : Requests} → outstanding rs ≡ 0 → rs ≡ no_requests
all_gone {rs} e = by rs.posted rs.taken rs.done refl refl refl e where
  by : (posted taken done : List Request) → rs.posted ≡ posted → rs.taken ≡ taken → rs.done ≡ done
      → outstanding rs ≡ 0 → rs ≡ no_requests
  by [] [] [] a b c e = ap (λ (l : List Request). record rs { posted = l }) a
      ∙ ap (λ (l : List Request). record rs { posted = []; taken = l }) b
      ∙ ap (λ (l : List Request). record rs { posted = []; taken = []; done = l }) c
  by (x ∷ xs) taken done a b c e = absurd (omega (arith, ap (λ (l : List Request). length l) a, e))
  by [] (x ∷ xs) done a b c e = absurd (omega (arith, ap (λ (l : List Request). length l) b, e))
  by [] [] (x ∷ xs) a b c e = absurd (omega (arith, ap (λ (l : List Request). length l) c, e))

first_head : {rs : Requests} → rs ≡ no_requests → IsLeastHead rs 0
first_head e = grind arith

report_out : {m1 m2 : Pages} {p1 p2 : Part} {d1 d2 : DriverState} {g : Guest}
    {from : ℕ} {posted : PostedRequest} → Reports m1 m2 p1 p2 d1 d2 (reported_blocks g from) posted
    → Honest m1 p1 d1 g → IsRunning m1 p1 d1 g → refusal_of g (Report from) ≡ None
    → outstanding g.report ≡ 0 → 0 < length (reported_blocks g from)
    → StepsAlone (Honest m2 p2 d2) g (Report from) (Posted posted.head posted.pages)
report_out {m1} {m2} {p1} {d1} {d2} {g} {from} {posted} did stands run free none some =
    let ties = stands.ties in
    let n = g.config.pages in let blocks = reported_blocks g from in
    let pages = pages_of_all blocks in let gone : g.report ≡ no_requests = all_gone none in
    let new : Guest = after_posting Reporting_free 0 pages g in
    let reply : Posted posted.head posted.pages ≡ Posted 0 (length pages) =
    ap (λ (h : ℕ). Posted h posted.pages) did.head ∙ ap (Posted 0) did.pages in
    let step = honest_performed g (Report from) [] (Posted posted.head posted.pages) new free
    (refl, (0, first_head gone, reply, refl)) in
    let size = g.config.queue_size in let rest = did.posts.rest in let l = d1.report.ring.layout in
    let ring = ring_of 4 d1.report.ring run.report.ring.sized run.report.ring.layout
    run.report_size in
    let same = post_same l.table ring (ring_low 4 l.table refl ring.table)
    rest.count rest.backing rest.others in
    let leaves = post_leaves (sizes_of run) ring
    (table_clear size 4 l.table ring.table) rest.others in
    let few = reported_few g from in
    let is : IsReport d1.report.ring.size n blocks
    (record { head = 0; pages = pages; visited = 0 }) = record {
      head = refl;
      names = refl;
      some = some;
      few = few.0;
      inside = omega (arith, few.1, run.report_size);
      blocks_are = subst (λ (k : ℕ). All (IsOwnBlock k n) blocks) (sym run.report_size)
          (reported_own g from stands.orderly);
    } in
    let L : Requests → Type 0 = λ rs. ReportLine m1 n d1.report p1.report rs in
    let M : Requests → Type 0 = λ rs. ReportLine m2 n d2.report p1.report (posting 0 pages rs) in
    let line : M g.report =
    subst M (sym gone) (report_posted p1.report pages (subst L gone run.report) did.posts is) in
    let still = others_posted run leaves rest.backing (λ ne. no_buffer size 4 l.table 12 ring.table
    (omega arith) (omega arith)) (λ ne p from to. no_buffer size 4 l.table p ring.table from
    (omega (arith, to))) (λ ne p from to. no_buffer size 4 l.table p ring.table
    (omega (arith, from)) (omega (arith, to)))
    in
    let after : DriverState = record d1 {
      places = placed pages Reporting d1.places;
      areas = areas_without pages d1.areas;
      report = d2.report;
    } in
    let sized = ap (λ (s : ReportSide). s.ring.size) did.posts.state ∙ run.report_size in
    let there : Ties m2 p1 after new = record {
      parts = assumption (ap (placed pages Reporting) ties.parts.driver.places);
      pages = pages_same same ties.pages;
      queues = inr (assumption (still.inflate refl, still.deflate refl, still.statistics refl));
    } in
    steps_alone stands step (ties_same refl did.part did.state there) refl

pub report_step : {m1 m2 : Pages} {p1 p2 : Part} {d1 d2 : DriverState} {g : Guest}
    {from : ℕ} {result : Result PostedRequest Refusal} → ReportsBy m1 m2 p1 p2 d1 d2 from result
    → Honest m1 p1 d1 g → StepsAlone (Honest m2 p2 d2) g (Report from) (posted_reply result)
report_step {m1} {m2} {p1} {p2} {d1} {d2} {g} {from} {result} did stands =
    let device = stands.ties.parts.device in
    let driver = stands.ties.parts.driver in
    by result did (refused_alike (Report from) stands.ties.queues
    (report_idle p1 d1 g from device.status) (λ run. report_same p1 d1 g from device.status
    driver.accepted (out_same run) (blocks_same d1 g from driver.queue_size driver.places))) where
      out_same : IsRunning m1 p1 d1 g → outstanding_in d1.report.ring ≡ outstanding g.report
      out_same run = let rs = g.report in omega (
        arith,
        ring_count run.report.ring,
        length-map rs.posted (λ (r : Request). r.head),
        length-map rs.taken (λ (r : Request). r.head),
        length-map rs.done (λ (r : Request). r.head),
      )

      by : (result : Result PostedRequest Refusal) → ReportsBy m1 m2 p1 p2 d1 d2 from result
          → first_refusal (report_causes d1 p1 from) ≡ refusal_of g (Report from)
          → StepsAlone (Honest m2 p2 d2) g (Report from) (posted_reply result)
      by (Err why) did same = report_refused why did stands same
      by (Ok posted) did same =
          let free : refusal_of g (Report from) ≡ None = sym (did.refusal ∙ same) in
          let fits = none_out (not (is_up g.status)) (not (reporting g.features))
          (outstanding g.report) (length (reported_blocks g from)) free in
          let R : List Block → Type 0 = λ l. Reports m1 m2 p1 p2 d1 d2 l posted in
          report_out (subst R
          (blocks_same d1 g from stands.ties.parts.driver.queue_size stands.ties.parts.driver.places)
          did.reports) stands (runs_where (Report from) _ stands.ties.queues
          (report_idle p1 d1 g from stands.ties.parts.device.status) free) free fits.0 fits.1
