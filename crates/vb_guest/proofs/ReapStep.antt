-- A guest's reap is a step of the definitions.
use Rattle.{std.specs.Prelude.{◌≡◌, ℕ, ◌+◌, ◌≤◌, List}, vb_model.specs.Refusals.refusal_of}
use Rattle.std.specs.Prelude.{[], ◌∷◌, length, Result, Ok, Option, Some, None, count_by, All, refl}
use Rattle.{std.proofs.Common.{sym, ◌∙◌, ap, subst, arith, inr}, vb_model.specs.Pages.is_lent}
use Rattle.vb_virtio.specs.Queues.{Request, Kind, Inflating, Deflating, Reporting_free, queue_of}
use Rattle.vb_virtio.specs.declared.refusals.Refusal.{Refusal}
use Rattle.vb_virtio.proofs.Queues.{no_requests_at}
use Rattle.vb_model.specs.{Requests.outstanding, declared.calls.Call.TheVariants.Reap}
use Rattle.vb_model.specs.declared.replies.Reply.{Reply, TheVariants.{NotUsed, Reaped}}
use Rattle.vb_model.specs.Guest.{Guest, requests}
use Rattle.vb_model.specs.Step.{Performs}
use Rattle.{vb_model.specs.Driver.{reaped, Reaps}, vb_driver.proofs.RequestTables.requests_taken}
use Rattle.vb_ram.specs.Pages.{Pages}
use Rattle.vb_ram.specs.Part.{Part}
use Rattle.{vb_ring.specs.{Calls.TakesUsedBy, Ends.used_answer}, vb_device.specs.Queues.queue_part}
use Rattle.vb_driver.specs.Reaps.{pages_sent, without_request, moved_on, with_actual}
use Rattle.vb_driver.specs.{State.{FreePages, DriverState, IsDriver}, Calls.{ReapsBy, ring_of}}
use Rattle.vb_driver.specs.{Calls.next_of, declared.answers.Reaped.Reaped as ReapedRequest}
use Rattle.vb_guest.proofs.KindLines.{Knows, LineOf, LineWith, line_of, has_queue, same_frames}
use Rattle.vb_guest.proofs.DriverWords.{Sides, driver_of, in_words}
use Rattle.vb_guest.proofs.{Refusing.by_queue, Closing.{honest_performed, steps_alone, ties_same}}
use Rattle.vb_guest.proofs.{Named.line_named, Reaping.{used_next, used_line, line_reaped}}
use Rattle.vb_guest.proofs.{ReportLines.report_reaped, ReapRefusing.{reap_by, reap_no_queue}}
use Rattle.vb_guest.specs.{Replies.reaped_reply, Stands.{Honest, Ties, IsRunning}, Steps.StepsAlone}

-- the driver once it has reaped the request
abbrev left : Kind → Request → DriverState → DriverState
left kind r d =
    with_actual (without_request (queue_of kind) r.head (moved_on (queue_of kind) r.pages d))

sent_is : (kind : Kind) (d : DriverState) (n : ℕ) (r : Request) → Knows kind d n r
    → pages_sent (queue_of kind) r.head d ≡ r.pages
sent_is Inflating d n r is = is.remembered
sent_is Deflating d n r is = is.remembered
sent_is Reporting_free d n r is = sym is.names

line_left : (kind : Kind) {m : Pages} (p : Part) (d : DriverState) (g : Guest) (r : Request)
    (rest : List Request) → (requests kind g).done ≡ r ∷ rest → outstanding g.report ≤ 1
    → LineOf kind m p d g → TakesUsedBy m (ring_of (queue_of kind) d) (ring_of (queue_of kind)
    (left kind r d)) (Ok (Some r.head)) → LineWith kind m (left kind r d) g.config.pages
    (queue_part (queue_of kind) p) (record (requests kind g) { done = rest })
line_left Inflating p d g r rest is few line =
    line_reaped 0 g.config.pages d.inflate p.inflate g.inflate r rest is line
line_left Deflating p d g r rest is few line =
    line_reaped 1 g.config.pages d.deflate p.deflate g.deflate r rest is line
line_left Reporting_free p d g r rest is few line =
    report_reaped g.config.pages d.report p.report g.report r rest is few line

-- what the driver tells as given away is what the definitions count
told : (kind : Kind) {m : Pages}
    {p : Part} {g : Guest} (areas : FreePages) (sides : Sides) (r : Request) (rest : List Request)
    → IsDriver (driver_of g areas sides) → IsRunning m p (driver_of g areas sides) g
    → LineWith kind m (left kind r (driver_of g areas sides)) g.config.pages
    (queue_part (queue_of kind) p) (record (requests kind g) { done = rest })
    → (left kind r (driver_of g areas sides)).actual ≡ (reaped kind r rest g).actual
told Inflating {m} {p} {g} areas sides r rest driver run line =
    ap (λ (k : ℕ). count_by is_lent (reaped Inflating r rest g).places + k)
    (line_named m 1 g.config.pages p.deflate g.deflate run.deflate driver.deflate.requests)
told Deflating {m} {p} {g} areas sides r rest driver run line =
    ap (λ (k : ℕ). count_by is_lent (reaped Deflating r rest g).places + k)
    (line_named m 1 g.config.pages p.deflate (record g.deflate { done = rest }) line
    (requests_taken sides.deflate r.head driver.deflate.requests))
told Reporting_free {m} {p} {g} areas sides r rest driver run line =
    ap (λ (k : ℕ). count_by is_lent (reaped Reporting_free r rest g).places + k)
    (line_named m 1 g.config.pages p.deflate g.deflate run.deflate driver.deflate.requests)

ties_left : (kind : Kind) {m : Pages} {p : Part} {g : Guest} (areas : FreePages)
    (sides : Sides) (r : Request) (rest : List Request) → Ties m p (driver_of g areas sides) g
    → IsRunning m p (driver_of g areas sides) g → LineWith kind m
    (left kind r (driver_of g areas sides)) g.config.pages (queue_part (queue_of kind) p)
    (record (requests kind g) { done = rest }) → (left kind r (driver_of g areas sides)).actual
    ≡ (reaped kind r rest g).actual → Ties m (record p { actual = (reaped kind r rest g).actual })
    (left kind r (driver_of g areas sides)) (reaped kind r rest g)
ties_left Inflating areas sides r rest ties run line said =
    record { parts = assumption; pages = ties.pages; queues = inr assumption }
ties_left kind areas sides r rest ties run line said =
    record { parts = assumption; pages = ties.pages; queues = inr assumption }

reaps : (kind : Kind) (g : Guest) (reply : Reply) (new : Guest)
    → Reaps kind (requests kind g).done g reply new → Performs (Reap (queue_of kind)) g [] reply new
reaps x g reply new does = grind arith

request_reaped : (kind : Kind) {m1 m2 : Pages} {p1 p2 : Part} {g : Guest} (areas : FreePages)
    (sides : Sides) {d2 : DriverState} (done : List Request) (got : Option ReapedRequest)
    → (requests kind g).done ≡ done → next_of got ≡ used_next done → ReapsBy m1 m2 p1 p2
    (driver_of g areas sides) d2 (queue_of kind) (Ok got) → used_answer m1 (ring_of (queue_of kind)
    (driver_of g areas sides)) ≡ Ok (used_next done) → Honest m1 p1 (driver_of g areas sides) g
    → IsRunning m1 p1 (driver_of g areas sides) g → refusal_of g (Reap (queue_of kind)) ≡ None
    → StepsAlone (Honest m2 p2 d2) g (Reap (queue_of kind)) (reaped_reply (Ok got))
request_reaped kind areas sides [] (Some x) is next did answer stands run free = absurd cc
request_reaped kind areas sides (r ∷ rest) None is next did answer stands run free = absurd cc
request_reaped kind {g} areas sides [] None is next did answer stands run free =
    let q = queue_of kind in let T : List Request → Type 0 = λ l. Reaps kind l g NotUsed g in
    steps_alone stands (honest_performed g (Reap q) [] NotUsed g free (reaps kind g NotUsed g
    (subst T (sym is) (refl, refl)))) (ties_same did.mem did.reaps.0 did.reaps.1 stands.ties) refl
request_reaped kind {m1} {p1} {p2} {g} areas sides {d2}
    (r ∷ rest) (Some x) is next did answer stands run free = let q = queue_of kind in
    let d1 = driver_of g areas sides in let n = g.config.pages in let same : x.head ≡ r.head = cc in
    let line = line_of kind run in
    let known = subst (All (Knows kind d1 n)) is line.done 0 r (omega arith) in
    let sent = ap (λ (h : ℕ). pages_sent q h d1) same ∙ sent_is kind d1 n r known in
    let new : Guest = reaped kind r rest g in
    let reply : Reaped x.head x.pages ≡ Reaped r.head (length r.pages) = search arith in
    let T : List Request → Type 0 = λ l. Reaps kind l g (Reaped x.head x.pages) new in
    let step = honest_performed g (Reap q) [] (Reaped x.head x.pages) new free
    (reaps kind g (Reaped x.head x.pages) new (subst T (sym is) (reply, refl))) in
    let after : DriverState = left kind r d1 in let state : d2 ≡ after = grind arith in
    let K : DriverState → Type 0 =
    λ d. TakesUsedBy m1 (ring_of q d1) (ring_of q d) (used_answer m1 (ring_of q d1)) in
    let taken = subst (λ a. TakesUsedBy m1 (ring_of q d1) (ring_of q after) a) answer
    (subst K state did.ring) in
    let reap = line_left kind p1 d1 g r rest is stands.orderly.reporting.few line taken in
    let said = told kind areas sides r rest did.driver run reap in
    let part : p2 ≡ record p1 { actual = new.actual } = did.reaps.part
    ∙ ap (λ (d : DriverState). record p1 { actual = d.actual }) state
    ∙ ap (λ (k : ℕ). record p1 { actual = k }) said in
    steps_alone stands step (ties_same did.mem part state
    (ties_left kind areas sides r rest stands.ties run reap said)) (same_frames kind _ g)

pub reap_step : {m1 m2 : Pages} {p1 p2 : Part} {d1 d2 : DriverState} {g : Guest}
    {q : ℕ} {result : Result (Option ReapedRequest) Refusal} → ReapsBy m1 m2 p1 p2 d1 d2 q result
    → Honest m1 p1 d1 g → StepsAlone (Honest m2 p2 d2) g (Reap q) (reaped_reply result)
reap_step {m1} {m2} {p1} {p2} {d1} {d2} {g} {q} {result} did stands =
    by_queue (λ k. ReapsBy m1 m2 p1 p2 d1 d2 k result → StepsAlone (Honest m2 p2 d2) g (Reap k)
    (reaped_reply result)) q (of Inflating) (of Deflating) (λ at. reap_no_queue refl at stands)
    (of Reporting_free) (λ none at. reap_no_queue (no_requests_at q none) at stands) did where
      of : (kind : Kind) → ReapsBy m1 m2 p1 p2 d1 d2 (queue_of kind) result
          → StepsAlone (Honest m2 p2 d2) g (Reap (queue_of kind)) (reaped_reply result)
      of kind did = in_words (λ d. ReapsBy m1 m2 p1 p2 d d2 (queue_of kind) result) stands
          did (λ areas sides here at.
          let q = queue_of kind in let d = driver_of g areas sides in
          reap_by (requests kind g).done (has_queue kind) at here
          (λ run. used_line m1 q (ring_of q d) (queue_part q p1) (requests kind g)
          (line_of kind run).ring) (λ got next done answer run free. request_reaped kind areas sides
          (requests kind g).done got refl next done answer here run free))
