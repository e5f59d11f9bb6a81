-- A guest's take is a step of the definitions.
use Rattle.std.specs.Prelude.{◌≡◌, ℕ, ◌*◌, ◌≤◌, List, [], ◌∷◌, ◌++◌, length, slice_get, Result, Ok}
use Rattle.std.{specs.Prelude.{Option, None, All, refl}, proofs.Common.{sym, ◌∙◌, ap, subst, arith}}
use Rattle.vb_virtio.specs.Queues.{Request, Kind, Inflating, Deflating, Reporting_free, queue_of}
use Rattle.vb_virtio.specs.declared.refusals.Refusal.TheVariants.{NoQueue}
use Rattle.vb_virtio.specs.declared.refusals.Refusal.{Refusal}
use Rattle.vb_virtio.specs.Layout.{ring_page}
use Rattle.vb_model.specs.Requests.{Requests}
use Rattle.vb_model.specs.declared.replies.Reply.TheVariants.{Taken, Empty}
use Rattle.vb_model.specs.declared.replies.Reply.{Reply}
use Rattle.vb_model.specs.Guest.{Guest, requests, with_requests}
use Rattle.vb_model.specs.{declared.calls.Call.TheVariants.Take, Device.TakesRequest, Step.Performs}
use Rattle.vb_model.specs.Refusals.{refusal_of}
use Rattle.vb_driver.specs.Calls.{ring_of}
use Rattle.vb_ram.{proofs.Limits.config_limits, specs.{Pages.Pages, Part.Part}}
use Rattle.vb_chain.specs.{declared.pieces.Piece.Piece, Table.descriptor_at, Chain.ChainGives}
use Rattle.vb_device.specs.{Calls.{TakesBy, taking, request_of, noting}, Conditions.take_refusal}
use Rattle.{vb_device.specs.Queues.{queue_part, next_available}, vb_driver.specs.State.DriverState}
use Rattle.vb_guest.proofs.KindLines.{Knows, Codes, LineOf, line_of, size_of, ignores, ties_with}
use Rattle.vb_guest.proofs.{KindLines.same_frames, Refusing.{by_queue, take_no_queue}}
use Rattle.vb_guest.proofs.{ReportChain.{pieces_of, report_chain, report_pages}, Handing.same_entry}
use Rattle.vb_guest.proofs.TakeBufferStep.{take_refused, take_by, take_buffer}
use Rattle.vb_guest.{proofs.Closing.{steps_alone, honest_performed, ties_same}, specs.Line.heads_of}
use Rattle.vb_guest.proofs.{Chains.{coded_chain, coded_pages}, Taking.{next_shown, line_taken}}
use Rattle.vb_guest.specs.{Stands.{Honest, IsRunning}, Replies.taken_reply, Steps.StepsAlone}

-- what the device finds of a posted request, in memory whose queues have this size
record IsFound (q size : ℕ) (m : Pages) (r : Request) : Type 0 where
  pieces : List Piece
  chain : ChainGives (descriptor_at m (ring_page size q)) size (4096 * length m) r.head pieces
  request : request_of q size m pieces ≡ Ok r.pages
  quiet : (p : Part) → noting q m pieces p ≡ p

found : (kind : Kind) {m : Pages} (d : DriverState) {n : ℕ} {r : Request}
    → 64 ≤ n → length m ≡ n → Knows kind d n r
    → Codes kind m d r → IsFound (queue_of kind) (ring_of (queue_of kind) d).size m r
found Inflating d large len is code = record {
  pieces = _;
  chain = coded_chain 0 (omega arith) large len is code;
  request = coded_pages 0 len is code;
  quiet = λ p. refl;
}
found Deflating d large len is code = record {
  pieces = _;
  chain = coded_chain 1 (omega arith) large len is code;
  request = coded_pages 1 len is code;
  quiet = λ p. refl;
}
found Reporting_free {m} d {n} large len is code = let size = d.report.ring.size in
    let blocks = d.report.blocks in
    let C : ℕ → Type 0 = λ h. ChainGives (descriptor_at m (ring_page size 4)) size
    (4096 * length m) h (pieces_of blocks) in
    record {
      pieces = pieces_of blocks;
      chain = subst C (sym is.head) (report_chain len is.some is.inside is.blocks_are code);
      request = report_pages size n blocks is.few is.blocks_are
          ∙ ap (λ (l : List ℕ). Ok l) (sym is.names);
      quiet = λ p. refl;
    }

-- what the queue's ring says next
next_is : (kind : Kind) (m : Pages) (p : Part) (d : DriverState) (g : Guest)
    → p.queue_size ≡ (ring_of (queue_of kind) d).size → LineOf kind m p d g
    → next_available (queue_of kind) m p ≡ Ok (slice_get (heads_of (requests kind g).posted) 0)
next_is kind m p d g size line = let q = queue_of kind in
    same_entry m q (queue_part q p).next_avail (ring_of q d) line.ring.layout size
    ∙ next_shown m q (ring_of q d) (queue_part q p) (requests kind g) line.ring

takes : (kind : Kind) (g : Guest) (reply : Reply) (new : Guest) → TakesRequest kind
    (requests kind g).posted g reply new → Performs (Take (queue_of kind)) g [] reply new
takes x g reply new does = grind arith

request_taken : (kind : Kind) {m1 m2 : Pages} {p1 p2 : Part} {d : DriverState} {g : Guest}
    (posted : List Request) {result : Result (Option ℕ) Refusal} → (requests kind g).posted ≡ posted
    → TakesBy (queue_of kind) m1 m2 p1 p2 result → Honest m1 p1 d g → IsRunning m1 p1 d g
    → take_refusal (queue_of kind) p1 ≡ None → refusal_of g (Take (queue_of kind)) ≡ None
    → StepsAlone (Honest m2 p2 d) g (Take (queue_of kind)) (taken_reply result)
request_taken kind {m1} {m2} {p1} {p2} {d} {g} [] is did stands run free_part free =
    let q = queue_of kind in let size = stands.ties.parts.device.size ∙ sym (size_of kind run) in
    let next = next_is kind m1 p1 d g size (line_of kind run)
    ∙ ap (λ (l : List Request). Ok (slice_get (heads_of l) 0)) is in
    let (answer, part) = did.empty free_part next in
    let T : List Request → Type 0 = λ l. TakesRequest kind l g Empty g in
    let step = honest_performed g (Take q) [] Empty g free
    (takes kind g Empty g (subst T (sym is) (refl, refl))) in
    subst (λ r. StepsAlone (Honest m2 p2 d) g (Take q) (taken_reply r))
    (sym answer) (steps_alone stands step (ties_same did.memory part refl stands.ties) refl)
request_taken kind {m1} {m2} {p1} {p2} {d} {g} (r ∷ rest) is did stands run free_part free =
    let q = queue_of kind in let n = g.config.pages in let ties = stands.ties in
    let line = line_of kind run in let size = ties.parts.device.size ∙ sym (size_of kind run) in
    let next = next_is kind m1 p1 d g size line
    ∙ ap (λ (l : List Request). Ok (slice_get (heads_of l) 0)) is in
    let limits = config_limits n g.config.queue_size g.config.processors ties.parts.guest.config in
    let known = subst (All (Knows kind d n)) is line.posted in
    let coded = subst (All (Codes kind m1 d)) is line.coded in
    let here = subst (λ s. IsFound q s m1 r) (sym size) (found kind d
    limits.pages_least ties.pages.length_is (known 0 r (omega arith)) (coded 0 r (omega arith))) in
    let (answer, part) = did.takes r.head here.pieces r.pages free_part next here.chain here.request
    in
    let rs : Requests = record (requests kind g)
    { posted = rest; taken = (requests kind g).taken ++ (record r { visited = 0 } ∷ []) } in
    let new : Guest = with_requests kind rs g in
    let T : List Request → Type 0 = λ l. TakesRequest kind l g (Taken r.head) new in
    let step = honest_performed g (Take q) [] (Taken r.head) new free
    (takes kind g (Taken r.head) new (subst T (sym is) (refl, refl))) in
    let there = ties_with kind _ rs ties run (line_taken r rest (ignores kind d n) is line) in
    subst (λ x. StepsAlone (Honest m2 p2 d) g (Take q) (taken_reply x))
    (sym answer) (steps_alone stands step (ties_same did.memory
    (part ∙ ap (taking q r.head r.pages) (here.quiet p1)) refl there) (same_frames kind rs g))

pub take_step : {m1 m2 : Pages} {p1 p2 : Part} {d : DriverState}
    {g : Guest} {q : ℕ} {result : Result (Option ℕ) Refusal} → TakesBy q m1 m2 p1 p2 result
    → Honest m1 p1 d g → StepsAlone (Honest m2 p2 d) g (Take q) (taken_reply result)
take_step {m1} {m2} {p1} {p2} {d} {g} {q} {result} did stands = by_queue (λ
    k. TakesBy k m1 m2 p1 p2 result → StepsAlone (Honest m2 p2 d) g (Take k) (taken_reply result)) q
    (λ at. take_by refl at stands (λ run. ap (λ (l : List Request). length l) run.inflate.remembers)
    (λ run. request_taken Inflating g.inflate.posted refl at stands run))
    (λ at. take_by refl at stands (λ run. ap (λ (l : List Request). length l) run.deflate.remembers)
    (λ run. request_taken Deflating g.deflate.posted refl at stands run))
    (λ at. take_buffer at stands) (λ at. take_by refl at stands (λ run. ap
    (λ (l : List Request). length l) run.report.remembers) (λ run. request_taken Reporting_free
    g.report.posted refl at stands run)) (λ none at. let no = take_no_queue g p1 none in
    take_refused NoQueue at stands no.0 no.1) did
