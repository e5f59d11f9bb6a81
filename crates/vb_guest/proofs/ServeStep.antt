-- What is served of an honest guest, chain by chain.
use Rattle.std.proofs.Common.{◌≡◌, ℕ, ◌+◌, true, false, List, [], ◌∷◌, ◌++◌, length}
use Rattle.std.proofs.Common.{Option, Some, None, Result, Ok, Err, refl, sym, ◌∙◌, ap, subst, arith}
use Rattle.std.proofs.Common.{inl, inr, ◌⊎◌}
use Rattle.std.specs.Prelude.{slice_get}
use Rattle.std.proofs.lemmas.Bool.{MatchBool-at_false}
use Rattle.vb_model.specs.{Guest.with_requests, Requests.Requests, Rogue.RogueStep}
use Rattle.std.specs.Prelude.{count_by, if◌then◌else◌}
use Rattle.vb_model.proofs.{Cases.match_cases, GuestSteps.kept_by_finish, OrderlySteps.kept_finish}
use Rattle.vb_model.proofs.Performed.{performed}
use Rattle.vb_model.specs.{Device.{TakesBuffer, TakesRequest}}
use Rattle.vb_model.specs.{Device.{settled, used}}
use Rattle.vb_model.specs.{Guest.{Guest, requests}, Refusals.{refusal_of, taken_count}}
use Rattle.vb_model.specs.Refusals.{is_taken}
use Rattle.vb_virtio.specs.Queues.{Deflating, Inflating, Kind, Reporting_free, Request, queue_of}
use Rattle.vb_virtio.specs.Queues.{has_chains}
use Rattle.vb_virtio.specs.Tests.{times}
use Rattle.vb_virtio.specs.declared.negotiation.TheConstants.{READY_STATUS}
use Rattle.vb_virtio.specs.declared.refusals.Refusal.{Refusal}
use Rattle.vb_virtio.specs.declared.refusals.Refusal.TheVariants.{NoQueue}
use Rattle.vb_model.specs.{Requests.{StatisticsBuffer, BufferPosted}, Rogue.GuestStep}
use Rattle.vb_model.specs.Step.{Does, HonestStep}
use Rattle.vb_model.specs.declared.calls.Call.{TheVariants.{Serve, Take}}
use Rattle.vb_model.specs.declared.replies.Reply.{Reply, TheVariants.{Empty, Finished, Refused, Taken}}
use Rattle.vb_ram.specs.{Pages.Pages, Part.Part}
use Rattle.vb_device.specs.Calls.{FollowsTake, UsesFirst}
use Rattle.vb_device.specs.{Calls.{ServesBy, TakesBy, Uses}, Conditions.{serve_refusal, taken_at}}
use Rattle.vb_device.specs.{Queues.queue_part}
use Rattle.vb_driver.specs.State.{DriverState}
use Rattle.vb_guest.proofs.{Closing.{ties_same}, FinishStep.request_used, Handing.handed_back}
use Rattle.vb_guest.proofs.{Handing.loose_none, KindLines.line_of, Refusing.{by_queue}}
use Rattle.vb_guest.proofs.{SameRefusals.{by_state}, TakeStep.take_step}
use Rattle.vb_guest.proofs.ServeRefusing.{at_none, kind_is, none_taken, serve_idle, serve_no_queue}
use Rattle.vb_guest.proofs.ServeRefusing.{serve_same, take_free}
use Rattle.vb_guest.specs.Buffer.{taken_requests}
use Rattle.vb_guest.specs.{Replies.taken_reply, Serving.{HonestNext, UsesNext}, Stands.{Honest}}
use Rattle.vb_guest.specs.{Stands.IsRunning, Steps.{Frees, StepsAlone, backing_count, is_frame}}

-- ---- one chain

-- what a take did that isn't refused
take_does : (q : ℕ) (g : Guest) (reply : Reply) (new : Guest) → refusal_of g (Take q) ≡ None
    → g.rogue ≡ false → GuestStep g (Take q) [] reply new → Does (Take q) g reply new
take_does q g reply new free honest step =
    let s = MatchBool-at_false (RogueStep g (Take q) [] reply new) (HonestStep g (Take q) [] reply new)
    honest step in
    elim (match_cases (refusal_of g (Take q)) _ _ s) [
      | inl p ↦ (performed (Take q) g [] reply new p.1).1
      | inr r ↦ absurd (let bad = sym free ∙ r.1 in cc)
    ]

-- a guest whose chain was taken is still up
still_up : {m : Pages} {p : Part} {d : DriverState} {g : Guest}
    → Honest m p d g → g.status ≡ READY_STATUS → IsRunning m p d g
still_up {m} {p} {d} {g} stands up = elim stands.ties.queues [
  | inl idle ↦ absurd (down idle.state)
  | inr run ↦ run
] where
  down : (g.status ≡ 0) ⊎ (g.status ≡ 131) → ⊥
  down state = grind arith

same_status : (kind : Kind) (rs : Requests) (g : Guest) → (with_requests kind rs g).status ≡ g.status
same_status Inflating rs g = refl
same_status Deflating rs g = refl
same_status Reporting_free rs g = refl

now_there : (kind : Kind) (rs : Requests) (g : Guest) → requests kind (with_requests kind rs g) ≡ rs
now_there Inflating rs g = refl
now_there Deflating rs g = refl
now_there Reporting_free rs g = refl

took_status : (kind : Kind) (posted : List Request) (g : Guest) (reply : Reply) (new : Guest)
    → TakesRequest kind posted g reply new → new.status ≡ g.status
took_status kind [] g reply new s = ap (λ (x : Guest). x.status) s.1
took_status kind (r ∷ rest) g reply new s =
    ap (λ (x : Guest). x.status) s.1 ∙ same_status kind _ g

-- nothing was there to take
nothing_taken : (kind : Kind) (posted : List Request) (g new : Guest)
    → TakesRequest kind posted g Empty new → UsesNext kind posted g None new
nothing_taken kind [] g new s = (refl, s.1)
nothing_taken kind (r ∷ rest) g new s = absurd (let bad = s.0 in cc)

not_refused : (kind : Kind) (posted : List Request) (g : Guest) (why : Refusal) (new : Guest)
    → TakesRequest kind posted g (Refused why) new → ⊥
not_refused kind [] g why new s = let bad = s.0 in cc
not_refused kind (r ∷ rest) g why new s = let bad = s.0 in cc

-- the first taken request of a guest that took the first one
took_first : (kind : Kind) (r x : Request) (rest : List Request) (g : Guest) (h : ℕ)
    (taken : Guest) → (requests kind g).taken ≡ []
    → TakesRequest kind (r ∷ rest) g (Taken h) taken
    → slice_get (requests kind taken).taken 0 ≡ Some x → x.head ≡ r.head
took_first kind r x rest g h taken none s at =
    let is : (requests kind taken).taken ≡ record r { visited = 0 } ∷ [] =
    ap (λ (y : Guest). (requests kind y).taken) s.1
    ∙ (ap (λ (rs : Requests). rs.taken) (now_there kind _ g)
    ∙ ap (λ (l : List Request). l ++ (record r { visited = 0 } ∷ [])) none) in
    let first = sym (ap (λ (l : List Request). slice_get l 0) is) ∙ at in
    sym (head_of first)
  where
    head_of : {a b : Request} → Some a ≡ Some b → a.head ≡ b.head
    head_of e = grind arith

abbrev no_taken : Kind → Guest → Type 0
no_taken kind g = (requests kind g).taken ≡ []

kind_taken : (kind : Kind) (g : Guest) → taken_count g (queue_of kind) ≡ 0 → no_taken kind g
kind_taken kind g e = at_none (queue_of kind) kind g (kind_is kind) e

uses_next : (kind : Kind) (posted : List Request) (h : ℕ) (r : Request) (g taken : Guest)
    → no_taken kind g → TakesRequest kind posted g (Taken h) taken
    → slice_get (requests kind taken).taken 0 ≡ Some r
    → UsesNext kind posted g (Some h) (settled kind r.pages (used kind 0 r taken))
uses_next kind [] h r g taken none s at = absurd (let bad = s.0 in cc)
uses_next kind (x ∷ rest) h r g taken none s at =
    let same : h ≡ x.head = (let e = s.0 in cc) in
    let head : r.head ≡ x.head = took_first kind x r rest g h taken none s at in (
      ap (λ (n : ℕ). Some n) same,
      taken,
      subst (λ (n : ℕ). TakesRequest kind (x ∷ rest) g (Taken n) taken) same s,
      (r, at, ap (λ (n : ℕ). Finished n) (sym head), refl),
    )

-- a request that was taken is used
then_used : (kind : Kind) {m1 m2 : Pages} {p1 p2 : Part} {d : DriverState} {g : Guest} (h : ℕ)
    (r : Request) → refusal_of g (Serve (queue_of kind)) ≡ None → g.status ≡ READY_STATUS
    → g.rogue ≡ false → StepsAlone (Honest m1 p1 d) g (Take (queue_of kind)) (Taken h)
    → ((taken : Guest) → Does (Take (queue_of kind)) g (Taken h) taken
    → TakesRequest kind (requests kind g).posted g (Taken h) taken)
    → taken_at (queue_of kind) 0 p1 ≡ Some r
    → Uses (queue_of kind) 0 r m1 m2 p1 p2 (Ok r.head)
    → Frees (Honest m2 (handed_back p2) d)
    (UsesNext kind (requests kind g).posted g (Some h)) p2.loose g
then_used kind {m1} {m2} {p1} {p2} {d} {g} h r free up honest took of_kind at uses =
    let q = queue_of kind in
    let does = of_kind took.new (take_does q g (Taken h) took.new (take_free q g free) honest
    took.step) in
    let run = still_up took.stands (took_status kind _ g (Taken h) took.new does ∙ up) in
    let there : slice_get (requests kind took.new).taken 0 ≡ Some r =
    ap (λ (l : List Request). slice_get l 0) (sym (line_of kind run).remembers) ∙ at in
    let left = request_used kind there uses took.stands run in
    record {
      new = settled kind r.pages (used kind 0 r took.new);
      stands = record {
        ties = left.ties;
        consistent = kept_by_finish kind 0 r took.new took.stands.consistent there;
        orderly = kept_finish kind 0 r took.new took.stands.orderly there;
      };
      step = uses_next kind (requests kind g).posted h r g took.new
          (kind_taken kind g (none_taken q g free)) does there;
      freed = λ k. left.freed k ∙ ap (count_by (is_frame k)) took.frames;
    }

-- ---- of a queue of requests

abbrev FirstUse : Kind → Pages → Pages → Part → Part → Type 0
FirstUse kind m1 m2 p1 p2 = (r : Request) × (taken_at (queue_of kind) 0 p1 ≡ Some r)
    × Uses (queue_of kind) 0 r m1 m2 p1 p2 (Ok r.head)

use_of : (kind : Kind) {m1 m2 : Pages} {p1 p2 : Part} → UsesFirst (queue_of kind) m1 m2 p1 p2
    → FirstUse kind m1 m2 p1 p2
use_of Inflating uses = uses
use_of Deflating uses = uses
use_of Reporting_free uses = uses

take_of : (kind : Kind) (g : Guest) (reply : Reply) (new : Guest)
    → Does (Take (queue_of kind)) g reply new
    → TakesRequest kind (requests kind g).posted g reply new
take_of Inflating g reply new does = does
take_of Deflating g reply new does = does
take_of Reporting_free g reply new does = does

next_is : (kind : Kind) (g : Guest) (head : Option ℕ) (new : Guest)
    → refusal_of g (Serve (queue_of kind)) ≡ None
    → UsesNext kind (requests kind g).posted g head new
    → HonestNext (queue_of kind) g (Ok head) new
next_is Inflating g head new free next = (free, next)
next_is Deflating g head new free next = (free, next)
next_is Reporting_free g head new free next = (free, next)

-- a device with no loose frame that has handed all of them back
stands_back : {m1 m2 : Pages} {p1 p2 : Part} {d : DriverState} {g : Guest}
    → m2 ≡ m1 → p2 ≡ p1 → Honest m1 p1 d g → Honest m2 (handed_back p2) d g
stands_back m p stands = record {
  ties = ties_same m (ap handed_back p ∙ loose_none stands.ties.parts.device.loose) refl stands.ties;
  consistent = stands.consistent;
  orderly = stands.orderly;
}

-- no page lost its frame
none_lost : {m1 : Pages} {p1 p2 : Part} {d : DriverState} (g new : Guest)
    → p2 ≡ p1 → Honest m1 p1 d new → new.frames ≡ g.frames → (k : ℕ)
    → times k p2.loose + backing_count k new ≡ backing_count k g
none_lost g new p stands frames k = omega (
  arith,
  ap (λ (x : Part). times k x.loose) p,
  ap (times k) stands.ties.parts.device.loose,
  ap (count_by (is_frame k)) frames,
)

next_of_kind : (kind : Kind) {m1 m2 : Pages} {p1 part p2 : Part} {d : DriverState} {g : Guest}
    (result : Result (Option ℕ) Refusal) → TakesBy (queue_of kind) m1 m1 p1 part result
    → FollowsTake (queue_of kind) m1 m2 part p2 result → Honest m1 p1 d g → IsRunning m1 p1 d g
    → refusal_of g (Serve (queue_of kind)) ≡ None
    → Frees (Honest m2 (handed_back p2) d) (HonestNext (queue_of kind) g result) p2.loose g
next_of_kind kind {g = g} (Ok (Some h)) takes follows stands run free =
    let took = take_step takes stands in
    let (r, at, uses) = use_of kind follows in
    let left = then_used kind h r free run.state stands.ties.parts.guest.honest took
    (λ taken does. take_of kind g (Taken h) taken does) at uses in
    record {
      new = left.new;
      stands = left.stands;
      step = next_is kind g (Some h) left.new free left.step;
      freed = left.freed;
    }
next_of_kind kind {g = g} (Ok None) takes follows stands run free =
    let took = take_step takes stands in
    let does = take_of kind g Empty took.new (take_does (queue_of kind) g Empty took.new
    (take_free (queue_of kind) g free) stands.ties.parts.guest.honest took.step) in
    record {
      new = took.new;
      stands = stands_back follows.0 follows.1 took.stands;
      step = next_is kind g None took.new free
          (nothing_taken kind (requests kind g).posted g took.new does);
      freed = none_lost g took.new follows.1 took.stands took.frames;
    }
next_of_kind kind {g = g} (Err why) takes follows stands run free =
    let took = take_step takes stands in
    let does = take_of kind g (Refused why) took.new (take_does (queue_of kind) g (Refused why)
    took.new (take_free (queue_of kind) g free) stands.ties.parts.guest.honest took.step) in
    absurd (not_refused kind (requests kind g).posted g why took.new does)

-- ---- of the queue of statistics

buffer_not_refused : (buffer : StatisticsBuffer) (g : Guest) (why : Refusal) (new : Guest)
    → TakesBuffer buffer g (Refused why) new → ⊥
buffer_not_refused (BufferPosted figures) g why new s = let bad = s.0 in cc
buffer_not_refused b g why new s = let bad = s.0 in cc

next_buffer : {m1 m2 : Pages} {p1 part p2 : Part} {d : DriverState} {g : Guest}
    (head : Option ℕ) → TakesBy 2 m1 m1 p1 part (Ok head) → m2 ≡ m1 → p2 ≡ part → Honest m1 p1 d g
    → refusal_of g (Serve 2) ≡ None
    → Frees (Honest m2 (handed_back p2) d) (HonestNext 2 g (Ok head)) p2.loose g
next_buffer {g = g} head takes memory same stands free =
    let took = take_step takes stands in
    let does = take_does 2 g (taken_reply (Ok head)) took.new (take_free 2 g free)
    stands.ties.parts.guest.honest took.step in
    record {
      new = took.new;
      stands = stands_back memory same took.stands;
      step = (free, does);
      freed = none_lost g took.new same took.stands took.frames;
    }

next_of_buffer : {m1 m2 : Pages} {p1 part p2 : Part} {d : DriverState} {g : Guest}
    (result : Result (Option ℕ) Refusal) → TakesBy 2 m1 m1 p1 part result
    → FollowsTake 2 m1 m2 part p2 result → Honest m1 p1 d g → refusal_of g (Serve 2) ≡ None
    → Frees (Honest m2 (handed_back p2) d) (HonestNext 2 g result) p2.loose g
next_of_buffer (Ok (Some h)) takes follows stands free =
    next_buffer (Some h) takes follows.0 follows.1 stands free
next_of_buffer (Ok None) takes follows stands free =
    next_buffer None takes follows.0 follows.1 stands free
next_of_buffer {g = g} (Err why) takes follows stands free =
    let took = take_step takes stands in
    let does = take_does 2 g (Refused why) took.new (take_free 2 g free)
    stands.ties.parts.guest.honest took.step in
    absurd (buffer_not_refused g.buffer g why took.new does)

-- ---- of any queue

next_refused : {m1 m2 : Pages} {p1 p2 : Part} {d : DriverState} {g : Guest} {q : ℕ} (why : Refusal)
    {result : Result (Option ℕ) Refusal} → ServesBy q m1 m2 p1 p2 result → Honest m1 p1 d g
    → serve_refusal q p1 ≡ Some why → refusal_of g (Serve q) ≡ Some why
    → Frees (Honest m2 (handed_back p2) d) (HonestNext q g result) p2.loose g
next_refused {m2 = m2} {p2 = p2} {d} {g} {q} why did stands by_part by_model =
    let (answer, part, memory) = did.refused why by_part in
    subst (λ r. Frees (Honest m2 (handed_back p2) d) (HonestNext q g r) p2.loose g) (sym answer)
    (record {
      new = g;
      stands = stands_back memory part stands;
      step = (by_model, refl);
      freed = none_lost g g part stands refl;
    })

serve_by : {m1 m2 : Pages} {p1 p2 : Part} {d : DriverState} {g : Guest} {q : ℕ}
    {result : Result (Option ℕ) Refusal} → has_chains q ≡ true → ServesBy q m1 m2 p1 p2 result
    → Honest m1 p1 d g → (IsRunning m1 p1 d g → length (queue_part q p1).taken ≡ taken_count g q)
    → (IsRunning m1 p1 d g → serve_refusal q p1 ≡ None → refusal_of g (Serve q) ≡ None
    → Frees (Honest m2 (handed_back p2) d) (HonestNext q g result) p2.loose g)
    → Frees (Honest m2 (handed_back p2) d) (HonestNext q g result) p2.loose g
serve_by {p1 = p1} {g = g} {q} has did stands counts goes =
    let device = stands.ties.parts.device in
    by_state (Serve q) (serve_refusal q p1) stands.ties.queues
    (serve_idle q p1 g has device.status) (λ run. serve_same q p1 g device.status device.features
    (counts run)) (λ why. next_refused why did stands) goes

one_taken : (b : StatisticsBuffer) → length (taken_requests b) ≡ (if is_taken b then 1 else 0)
one_taken b = grind arith

pub next_step : {m1 m2 : Pages} {p1 p2 : Part} {d : DriverState} {g : Guest} {q : ℕ}
    {result : Result (Option ℕ) Refusal} → ServesBy q m1 m2 p1 p2 result → Honest m1 p1 d g
    → Frees (Honest m2 (handed_back p2) d) (HonestNext q g result) p2.loose g
next_step {m1} {m2} {p1} {p2} {d} {g} {q} {result} did stands = by_queue (λ k.
    ServesBy k m1 m2 p1 p2 result
    → Frees (Honest m2 (handed_back p2) d) (HonestNext k g result) p2.loose g) q
    (λ at. serve_by refl at stands (λ run. ap (λ (l : List Request). length l) run.inflate.remembers)
    (λ run by_part free. let next = at.serves by_part in
    next_of_kind Inflating result next.1 next.2 stands run free))
    (λ at. serve_by refl at stands (λ run. ap (λ (l : List Request). length l) run.deflate.remembers)
    (λ run by_part free. let next = at.serves by_part in
    next_of_kind Deflating result next.1 next.2 stands run free))
    (λ at. serve_by refl at stands (λ run. ap (λ (l : List Request). length l)
    run.statistics.remembers ∙ one_taken g.buffer)
    (λ run by_part free. let next = at.serves by_part in
    next_of_buffer result next.1 next.2 stands free))
    (λ at. serve_by refl at stands (λ run. ap (λ (l : List Request). length l) run.report.remembers)
    (λ run by_part free. let next = at.serves by_part in
    next_of_kind Reporting_free result next.1 next.2 stands run free))
    (λ none at. let no = serve_no_queue g p1 none in next_refused NoQueue at stands no.0 no.1) did
