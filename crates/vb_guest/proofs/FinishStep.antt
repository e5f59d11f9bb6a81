-- A guest's finish is a step of the definitions.
use Rattle.std.specs.Prelude.{◌≡◌, ℕ, zero, suc, ◌+◌, ◌%◌, ◌<◌, ◌≤◌, true, false, not, remove, ◌++◌}
use Rattle.std.specs.Prelude.{◌&&◌, ◌==◌, List, [], ◌∷◌, All, Result, Some, None, slice_get, refl}
use Rattle.{std.proofs.Common.{sym, ◌∙◌, ap, subst, arith, inr}, vb_ram.specs.Pages.Pages}
use Rattle.vb_virtio.specs.Queues.{Request, Kind, Inflating, Deflating, Reporting_free, queue_of}
use Rattle.vb_virtio.specs.Queues.{is_queue_of_requests}
use Rattle.vb_virtio.specs.Status.{is_not_ready, has_fault}
use Rattle.vb_virtio.specs.Tests.{times, AllDistinct}
use Rattle.vb_virtio.specs.declared.refusals.Refusal.TheVariants.{NoQueue}
use Rattle.vb_virtio.specs.declared.layout.TheConstants.{DEFLATE_QUEUE}
use Rattle.vb_virtio.specs.Layout.{reserved_pages, ring_page}
use Rattle.vb_virtio.specs.declared.refusals.Refusal.{Refusal}
use Rattle.vb_virtio.proofs.Distinct.{distinct_once}
use Rattle.vb_virtio.proofs.Queues.{no_requests_at}
use Rattle.vb_model.specs.Tables.{has_unvisited}
use Rattle.vb_model.specs.Orderly.{IsRequestSound, AllRequestsSound}
use Rattle.vb_model.specs.declared.replies.Reply.TheVariants.{Finished}
use Rattle.vb_model.specs.declared.replies.Reply.{Reply}
use Rattle.vb_model.specs.{declared.calls.Call.TheVariants.Finish, Device.{used, settled, Finishes}}
use Rattle.vb_model.specs.Refusals.{taken_of, refusal_of}
use Rattle.vb_model.specs.Guest.{Guest, requests}
use Rattle.vb_model.specs.Step.{Performs}
use Rattle.{vb_ram.specs.Part.{Part, QueuePart}, vb_driver.specs.{State.DriverState, Calls.ring_of}}
use Rattle.vb_ring.specs.{Layout.{IsSize, layout_of}, Calls.AddsUsedBy, Ends.DeviceEnd}
use Rattle.vb_device.specs.Calls.{using, without_frames, lost_frames, FinishesBy, Uses, SameFrames}
use Rattle.vb_device.specs.{Conditions.{taken_at, finish_refusal}, Queues.queue_part}
use Rattle.vb_device.specs.Discards.{frames_behind, flagged}
use Rattle.{vb_device.specs.Calls.settled as settles, vb_guest.proofs.Losing.frames_lost}
use Rattle.vb_guest.specs.Stands.{Honest, Ties, IsRunning, HasPages, HasParts, IsOwnRequest}
use Rattle.vb_guest.specs.Stands.{beside_queues, beside_sides, beside_requests}
use Rattle.vb_guest.proofs.KindLines.{Knows, Codes, LineWith, line_of, size_of, own_pages_of}
use Rattle.vb_guest.proofs.{KindLines.sound_of, RunApart.{sizes_of, others_same, ring_low, ring_as}}
use Rattle.vb_guest.proofs.PagesKept.{SamePages, pages_same, pages_discarded, page_undiscarded}
use Rattle.vb_guest.proofs.Closing.{honest_performed, still_stands, guest_step, ties_same}
use Rattle.vb_guest.proofs.{Finishing.{end_of, line_used, coded_stays, report_stays}, Kept.there_is}
use Rattle.vb_guest.proofs.Handing.{handed_back, not_among, used_same, same_end}
use Rattle.vb_guest.proofs.{SameRefusals.{by_state, finish_same, finish_idle}, RingApart.ring_parts}
use Rattle.vb_guest.{proofs.Running.{OthersRun, runs_on, others_run}, specs.Replies.finished_reply}
use Rattle.vb_guest.proofs.{Refusing.{by_queue, finish_no_queue}, Apart.SameReserved, Heads.one_of}
use Rattle.vb_guest.{specs.Steps.{StepsFreeing, backing_count}, proofs.EachOnce.distinct_each_once}

-- ---- a finish that is refused, or isn't

finish_refused : {m1 m2 : Pages} {p1 p2 : Part} {d : DriverState} {g : Guest}
    {q i : ℕ} (why : Refusal) {result : Result ℕ Refusal} → FinishesBy q i m1 m2 p1 p2 result
    → Honest m1 p1 d g → finish_refusal q i p1 ≡ Some why → refusal_of g (Finish q i) ≡ Some why
    → StepsFreeing (Honest m2 (handed_back p2) d) p2.loose g (Finish q i) (finished_reply result)
finish_refused why did stands by_part by_model = grind arith

-- on a queue that there is, by what it does where it isn't refused
finish_by : {m1 m2 : Pages} {p1 p2 : Part} {d : DriverState} {g : Guest} {q i : ℕ}
    {result : Result ℕ Refusal} → is_queue_of_requests q ≡ true → FinishesBy q i m1 m2 p1 p2 result
    → Honest m1 p1 d g → (IsRunning m1 p1 d g → taken_at q i p1 ≡ slice_get (taken_of g q) i)
    → ((r : Request) → slice_get (taken_of g q) i ≡ Some r
    → Uses q i r m1 m2 p1 p2 result → IsRunning m1 p1 d g → refusal_of g (Finish q i) ≡ None
    → StepsFreeing (Honest m2 (handed_back p2) d) p2.loose g (Finish q i) (finished_reply result))
    → StepsFreeing (Honest m2 (handed_back p2) d) p2.loose g (Finish q i) (finished_reply result)
finish_by {p1} {g} {q} {i} has did stands remembers goes = let device = stands.ties.parts.device in
    by_state (Finish q i) (finish_refusal q i p1) stands.ties.queues
    (finish_idle q i p1 g has device.status) (λ run. finish_same q i p1 g device.status device.paced
    (remembers run)) (λ why. finish_refused why did stands) (λ run free_part free.
    let (r, at) = there_is (not (is_queue_of_requests q)) (is_not_ready p1.status)
    (has_fault p1.status) (p1.paced && not (q == DEFLATE_QUEUE) && has_unvisited (taken_at q i p1))
    (taken_at q i p1) free_part in
    goes r (sym (remembers run) ∙ at) (did.finished r free_part at) run free)

-- ---- what is left of memory, of the queues and of the guest's frames

-- a request among sound ones
sound_at : (rs : List Request) (i : ℕ) {r : Request}
    → AllRequestsSound rs → slice_get rs i ≡ Some r → IsRequestSound r
sound_at [] i all is = absurd cc
sound_at (x ∷ rs) zero {r} all is = (let same : x ≡ r = cc in subst IsRequestSound same all.0)
sound_at (x ∷ rs) (suc i) all is = sound_at rs i all.1 is

without_low : (kind : Kind) (m : Pages) (size : ℕ) (pages : List ℕ)
    → All (λ page. reserved_pages size ≤ page) pages
    → SameReserved m (without_frames (queue_of kind) pages m) size
without_low x m size pages above p lt = grind (arith, page_undiscarded, not_among)

codes_stay : (kind : Kind)
    {m1 m2 : Pages} (d : DriverState) (n : ℕ) (part : QueuePart) {head : ℕ} {after : DeviceEnd}
    → IsSize (ring_of (queue_of kind) d).size → (ring_of (queue_of kind) d).layout ≡ layout_of
    (ring_page (ring_of (queue_of kind) d).size (queue_of kind)) (ring_of (queue_of kind) d).size
    → AddsUsedBy m1 m2 (end_of (ring_of (queue_of kind) d) part) after head 0
    → (r : Request) → Knows kind d n r → Codes kind m1 d r → Codes kind m2 d r
codes_stay Inflating d n part sized layout adds r = coded_stays 0 d.inflate part sized layout adds
codes_stay Deflating d n part sized layout adds r = coded_stays 1 d.deflate part sized layout adds
codes_stay Reporting_free d n part sized layout adds r = report_stays d.report part layout adds

pages_settled : (kind : Kind) {m : Pages} {size n : ℕ} (g : Guest) (pages : List ℕ)
    → HasPages m size n g.frames g.contents → HasPages (without_frames
    (queue_of kind) pages m) size n (settled kind pages g).frames (settled kind pages g).contents
pages_settled Inflating g pages has = pages_discarded pages has
pages_settled Deflating g pages has = has
pages_settled Reporting_free g pages has = pages_discarded pages has

frames_settled : (kind : Kind) {m : Pages} (loose : List ℕ) (g : Guest) (i : ℕ) (r : Request)
    → HasPages m g.config.queue_size g.config.pages g.frames g.contents
    → SameFrames loose (lost_frames (queue_of kind) r.pages m)
    → AllDistinct r.pages → All (λ page. page < g.config.pages) r.pages → (k : ℕ)
    → times k loose + backing_count k (settled kind r.pages (used kind i r g)) ≡ backing_count k g
frames_settled Inflating {m} loose g i r has lost distinct below k =
    frames_lost loose g (settled Inflating r.pages (used Inflating i r g)) r.pages has refl
    (subst (λ l. SameFrames loose (frames_behind m l)) (distinct_each_once r.pages distinct) lost)
    distinct below k
frames_settled Deflating loose g i r has lost distinct below k = omega (arith, lost k)
frames_settled Reporting_free {m} loose g i r has lost distinct below k = frames_lost loose g
    (settled Reporting_free r.pages (used Reporting_free i r g)) r.pages has refl
    (subst (λ l. SameFrames loose (frames_behind m l)) (distinct_each_once r.pages distinct) lost)
    distinct below k

ties_settled : (kind : Kind) {m1 m2 : Pages} {p : Part} {d : DriverState} {g : Guest}
    (i : ℕ) (r : Request) → HasParts (beside_queues p) (beside_sides d) (beside_requests g)
    → HasPages m2 g.config.queue_size g.config.pages (settled kind r.pages g).frames
    (settled kind r.pages g).contents
    → IsRunning m1 p d g → OthersRun m2 p d g (queue_of kind)
    → LineWith kind m2 d g.config.pages (record (queue_part (queue_of kind) p) {
      next_used = ((queue_part (queue_of kind) p).next_used + 1) % 65536;
      taken = remove (queue_part (queue_of kind) p).taken i;
    }) (record (requests kind g)
    { taken = remove (requests kind g).taken i; done = (requests kind g).done ++ (r ∷ []) })
    → Ties m2 (handed_back (settles (queue_of kind) r.pages (using (queue_of kind) i p))) d
    (settled kind r.pages (used kind i r g))
ties_settled Inflating i r parts pages run still line = record {
  parts = assumption (ap (flagged r.pages true) parts.device.ballooned);
  pages = pages;
  queues = inr (assumption (still.deflate refl, still.statistics refl, still.report refl));
}
ties_settled Deflating i r parts pages run still line = record {
  parts = assumption (ap (flagged r.pages false) parts.device.ballooned);
  pages = pages;
  queues = inr (assumption (still.inflate refl, still.statistics refl, still.report refl));
}
ties_settled Reporting_free i r parts pages run still line = search arith

-- ---- a finish that isn't refused

finishes : (kind : Kind) (g : Guest) (i : ℕ) (reply : Reply) (new : Guest)
    → Finishes kind i g reply new → Performs (Finish (queue_of kind) i) g [] reply new
finishes x g i reply new does = grind arith

-- what the use of a taken request leaves, whatever was visited of it
pub record Finished_so (kind : Kind) (i : ℕ) (r : Request) (m2 : Pages) (p2 : Part)
    (d : DriverState) (g : Guest) : Type 0 where
  pub ties : Ties m2 (handed_back p2) d (settled kind r.pages (used kind i r g))
  pub freed : (k : ℕ) → times k p2.loose
      + backing_count k (settled kind r.pages (used kind i r g)) ≡ backing_count k g

pub request_used : (kind : Kind) {m1 m2 : Pages} {p1 p2 : Part} {d : DriverState} {g : Guest}
    {i : ℕ} {r : Request} {result : Result ℕ Refusal} → slice_get (requests kind g).taken i ≡ Some r
    → Uses (queue_of kind) i r m1 m2 p1 p2 result → Honest m1 p1 d g
    → IsRunning m1 p1 d g → Finished_so kind i r m2 p2 d g
request_used kind {m1} {m2} {p1} {p2} {d} {g} {i} {r} is did stands run =
    let q = queue_of kind in
    let ties = stands.ties in let n = g.config.pages in let size = g.config.queue_size in
    let ring = ring_of q d in let part = queue_part q p1 in let line = line_of kind run in
    let sized = size_of kind run in let bare = without_frames q r.pages m1 in
    let own = subst (λ s. IsOwnRequest s n r) sized
    (own_pages_of kind d (one_of (Knows kind d n) (requests kind g).taken i r line.taken is)) in
    let distinct = distinct_once r.pages
    (sound_at (requests kind g).taken i (sound_of kind g stands.orderly) is).distinct in
    let adds = same_end q part.next_avail part.next_used ring
    line.ring.layout (ties.parts.device.size ∙ sym sized) did.memory in
    let used_page = ring.layout.used.page in
    let at = (ring_parts q ring line.ring.sized line.ring.layout).used in
    let same : SamePages (reserved_pages size) bare m2 = search (arith, used_same, ring_low) in
    let rests = runs_on run (without_low kind m1 size r.pages own.above) in
    let still = others_run q rests (others_same used_page (sizes_of run)
    (ring_as q used_page sized at) (λ p ne. adds.puts.rest.others p (ne, (ne, tt)))) same.behind in
    let used_line = line_used i r (line_of kind rests) is adds
    (codes_stay kind d n part line.ring.sized line.ring.layout adds) in
    let there = ties_settled kind i r ties.parts (pages_same same
    (pages_settled kind g r.pages ties.pages)) rests still used_line in
    record {
      ties = ties_same refl (ap handed_back did.part) refl there;
      freed = frames_settled kind p2.loose g i r ties.pages did.loose distinct own.below;
    }

request_finished : (kind : Kind) {m1 m2 : Pages} {p1 p2 : Part} {d : DriverState} {g : Guest}
    {i : ℕ} {r : Request} {result : Result ℕ Refusal} → slice_get (requests kind g).taken i ≡ Some r
    → Uses (queue_of kind) i r m1 m2 p1 p2 result → Honest m1 p1 d g
    → IsRunning m1 p1 d g → refusal_of g (Finish (queue_of kind) i) ≡ None → StepsFreeing
    (Honest m2 (handed_back p2) d) p2.loose g (Finish (queue_of kind) i) (finished_reply result)
request_finished kind {m1} {m2} {p1} {p2} {d} {g} {i} {r} is did stands run free =
    let q = queue_of kind in
    let new : Guest = settled kind r.pages (used kind i r g) in
    let left = request_used kind is did stands run in
    let step = honest_performed g (Finish q i) [] (Finished r.head) new free
    (finishes kind g i (Finished r.head) new (r, is, refl, refl)) in
    subst (λ x. StepsFreeing (Honest m2 (handed_back p2) d) p2.loose g (Finish q i)
    (finished_reply x)) (sym did.answer) (record {
      new = new;
      stands = still_stands (Finish q i) [] (Finished r.head) stands step left.ties;
      step = guest_step g (Finish q i) [] (Finished r.head) new stands.ties.parts.guest.honest step;
      freed = left.freed;
    })

pub finish_step : {m1 m2 : Pages} {p1 p2 : Part} {d : DriverState} {g : Guest}
    {q i : ℕ} {result : Result ℕ Refusal} → FinishesBy q i m1 m2 p1 p2 result → Honest m1 p1 d g
    → StepsFreeing (Honest m2 (handed_back p2) d) p2.loose g (Finish q i) (finished_reply result)
finish_step {m1} {m2} {p1} {p2} {d} {g} {q} {i} {result} did stands = by_queue
    (λ k. FinishesBy k i m1 m2 p1 p2 result → StepsFreeing (Honest m2 (handed_back p2) d) p2.loose g
    (Finish k i) (finished_reply result)) q (λ at. finish_by refl at stands
    (λ run. ap (λ (l : List Request). slice_get l i) run.inflate.remembers) (λ r is did
    run. request_finished Inflating is did stands run)) (λ at. finish_by refl at stands (λ run. ap
    (λ (l : List Request). slice_get l i) run.deflate.remembers) (λ r is did run. request_finished
    Deflating is did stands run)) (λ at. none refl at) (λ at. finish_by refl at stands (λ run. ap
    (λ (l : List Request). slice_get l i) run.report.remembers) (λ r is did run. request_finished
    Reporting_free is did stands run)) (λ out at. none (no_requests_at q out) at) did where
      none : {k : ℕ}
          → is_queue_of_requests k ≡ false → FinishesBy k i m1 m2 p1 p2 result → StepsFreeing
          (Honest m2 (handed_back p2) d) p2.loose g (Finish k i) (finished_reply result)
      none {k} out at = let no = finish_no_queue k i g p1 out in
          finish_refused NoQueue at stands no.0 no.1
