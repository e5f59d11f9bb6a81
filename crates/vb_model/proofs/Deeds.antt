-- What a call of an honest guest does, with each of its choices made.
use Rattle.std.proofs.Common.{Bool, List, [], ap, arith, cond, false, inl, inr, length-append, refl}
use Rattle.std.proofs.Common.{◌+◌}
use Rattle.std.proofs.Common.{suc, sym, true, zero, ℕ, ◌++◌, ◌<◌, ◌∙◌, ◌∷◌, ◌≡◌, ◌≢◌, ◌≤◌}
use Rattle.std.proofs.lemmas.{Bool.{leb-false, ltb-false, not-false}, List.length-take-le}
use Rattle.std.specs.{List.list_any, Prelude.{MatchOption, None, Some, count_by, length, nat_le}}
use Rattle.std.specs.Prelude.{nat_lt, not, slice_get, ◌&&◌}
use Rattle.vb_model.proofs.{Blocks.reported_distinct, Cases.{Idles, Visits, inflated_pages}}
use Rattle.vb_model.proofs.Cases.{lent_pages, match_cases, not_refused, reported_pages, supplied}
use Rattle.vb_virtio.proofs.Distinct.{distinct_where}
use Rattle.vb_virtio.specs.Queues.{is_unvisited, Deflating, Inflating, Kind, Reporting_free}
use Rattle.vb_virtio.specs.Queues.{Request, kind_of_queue, queue_of}
use Rattle.vb_virtio.specs.Status.{feature_refusal, is_up}
use Rattle.vb_virtio.specs.Limits.{max_order, min_reported_order}
use Rattle.vb_virtio.specs.Tests.{times, is_in, one_if, pages_where}
use Rattle.vb_virtio.specs.declared.refusals.Refusal.{Refusal}
use Rattle.vb_virtio.specs.declared.statistics.LastStatistics.{LastStatistics}
use Rattle.vb_virtio.specs.declared.refusals.Refusal.TheVariants.{NoMemory}
use Rattle.vb_model.proofs.Counts.{length-pages_where}
use Rattle.vb_model.proofs.Distinct.{inflated_distinct}
use Rattle.vb_model.proofs.{PageSteps.{after_take, can_be_given, naming-cons}, Performed.Performed}
use Rattle.vb_model.{proofs.Performed.honest_case, specs.{Courses.posts_deflate, Device.Works}}
use Rattle.vb_model.specs.declared.replies.Reply.TheVariants.{Served}
use Rattle.vb_model.specs.Device.{ServesBuffer, ServesRequests}
use Rattle.vb_model.specs.Device.{ReturnsBuffer, TakesBuffer, TakesRequest, has_frame}
use Rattle.vb_model.specs.{Device.{next_page, settled, used, visited}, Driver.{AreClaimsFor, Fills}}
use Rattle.vb_model.specs.Driver.{Deflates, Reaps, Written, after_free, after_posting, figures}
use Rattle.vb_model.specs.Driver.{claim_refusal, lowest_lent, pages_needed, reaped, stranded_first}
use Rattle.vb_model.specs.{Driver.with_block, Guest.{Guest, is_ballooned, requests, tells_host}}
use Rattle.vb_model.specs.{Guest.{unbacked, with_requests}, HonestRuns.has_buffer, Life.Negotiates}
use Rattle.vb_model.specs.Life.{after_reset, lacking}
use Rattle.vb_model.specs.Pages.{Block, is_free}
use Rattle.vb_model.specs.Pages.{is_lent, is_same_block, is_wholly_free, pages_of, pages_of_all}
use Rattle.vb_model.specs.{Pages.{place_of, placed}, Refusals.{causes, deflate_count, oom_count}}
use Rattle.vb_model.specs.{Refusals.{refusal_of, reported_blocks, room}, Requests.BufferDone}
use Rattle.vb_model.specs.Requests.{BufferPosted, BufferTaken, IsLeastHead}
use Rattle.vb_model.specs.Requests.{StatisticsBuffer}
use Rattle.vb_model.specs.Requests.{names, naming, outstanding}
use Rattle.vb_model.specs.Rogue.{Scribbled}
use Rattle.vb_model.specs.Step.{HonestStep}
use Rattle.vb_model.specs.declared.calls.Call.{Call, TheVariants.{Alloc, Ask, Deflate, Finish, Oom}}
use Rattle.vb_model.specs.declared.calls.Call.TheVariants.{Free, Inflate, Init, Read, Reap, Report}
use Rattle.vb_model.specs.declared.calls.Call.TheVariants.{Reset, Scribble, Serve, SetTarget, Stats}
use Rattle.vb_model.specs.declared.calls.Call.TheVariants.{Sweep}
use Rattle.vb_model.specs.declared.calls.{Call.TheVariants.{Take, Work, Write}, Claim.Claim}
use Rattle.vb_model.specs.declared.places.Place.{Place}
use Rattle.vb_model.specs.declared.places.Place.TheVariants.{Used}
use Rattle.vb_model.specs.declared.replies.Reply.{Reply}
use Rattle.vb_model.specs.declared.replies.Reply.TheVariants.{Done}
use Rattle.vb_model.specs.declared.replies.Reply.TheVariants.{Finished, Page, Posted, Reaped, Swept}
use Rattle.vb_model.specs.declared.replies.Reply.TheVariants.{Refused, Taken, Worked}

-- a reply that is a refusal, or tells of a broken rule
abbrev pub is_refused : Reply → Bool
is_refused (Refused refusal) = true
is_refused (Served chains (Some rule)) = true
is_refused _ = false

-- why nothing changes: the call was refused, or a claim of it, or there was nothing to do
pub data Why (call : Call) (g : Guest) (claims : List Claim) (reply : Reply) : Type 0 where
  Denied : (refusal : Refusal) → refusal_of g call ≡ Some refusal → reply ≡ Refused refusal
      → Why call g claims reply
  Unsupplied : (refusal : Refusal) → claim_refusal claims ≡ Some refusal → reply ≡ Refused refusal
      → Why call g claims reply
  Without_memory : reply ≡ Refused NoMemory → Why call g claims reply
  Needless : is_refused reply ≡ false → Why call g claims reply

-- the places that pages leave for a request of the kind
abbrev pub leaves : Kind → Place → Bool
leaves Inflating place = can_be_given place
leaves Deflating place = is_lent place
leaves Reporting_free place = is_free place

abbrev pub most : Kind → Guest → ℕ
most Inflating g = room g
most Deflating g = room g
most Reporting_free g = 1

-- a request of the kind may be posted with this head and these pages
pub record IsPosting (call : Call) (kind : Kind) (head : ℕ) (pages : List ℕ) (g : Guest) :
    Type 0 where
  pub up : is_up g.status ≡ true
  pub least : IsLeastHead (requests kind g) head
  pub room : outstanding (requests kind g) < most kind g
  pub there : (page : ℕ) → is_in page pages ≡ true → leaves kind (place_of g.places page) ≡ true
  pub distinct : (page : ℕ) → times page pages ≤ 1
  pub pending : kind ≡ Inflating → (not (tells_host g) && nat_lt 0 (outstanding g.deflate)) ≡ false
  pub back : kind ≡ Deflating → posts_deflate call ≡ true

-- what the call did, with each of its choices made
pub data Deed (call : Call) (g : Guest) (claims : List Claim) (reply : Reply) (new : Guest) :
    Type 0 where
  Stayed : Why call g claims reply → new ≡ g → Deed call g claims reply new
  Aimed : (n : ℕ) → call ≡ SetTarget n → reply ≡ Done → new ≡ record g { target = n }
      → Deed call g claims reply new
  Was_reset : reply ≡ Done → new ≡ after_reset g → Deed call g claims reply new
  Allocated : (b : Block) → b.order ≤ max_order → is_wholly_free g.places b ≡ true
      → reply ≡ Page b.start
      → new ≡ record g { places = placed (pages_of b) Used g.places; held = with_block b g.held }
      → Deed call g claims reply new
  Freed : (b : Block) → list_any (λ h. is_same_block h b) g.held ≡ true → reply ≡ Done
      → new ≡ after_free b g → Deed call g claims reply new
  Has_posted : (kind : Kind) (head : ℕ) (pages : List ℕ) → IsPosting call kind head pages g
      → reply ≡ Posted head (length pages) → new ≡ after_posting kind head pages g
      → Deed call g claims reply new
  Has_reaped : (kind : Kind) (r : Request) (rest : List Request) → call ≡ Reap (queue_of kind)
      → (requests kind g).done ≡ r ∷ rest → reply ≡ Reaped r.head (length r.pages)
      → new ≡ reaped kind r rest g → Deed call g claims reply new
  Has_taken : (kind : Kind) (r : Request) (rest : List Request)
      → (requests kind g).posted ≡ r ∷ rest
      → reply ≡ Taken r.head → new ≡ with_requests kind (after_take r rest (requests kind g)) g
      → Deed call g claims reply new
  Buffered : (buffer : StatisticsBuffer) (last : LastStatistics)
      → has_buffer buffer ≡ has_buffer g.buffer
      → is_refused reply ≡ false → new ≡ record g { buffer = buffer; last = last }
      → Deed call g claims reply new
  Visited : (kind : Kind) (page : ℕ) → 1 ≤ naming page (requests kind g).taken → kind ≢ Deflating
      → reply ≡ Worked page (has_frame g page) → new ≡ visited kind page g
      → Deed call g claims reply new
  Has_finished : (kind : Kind) (i : ℕ) (r : Request) → slice_get (requests kind g).taken i ≡ Some r
      → reply ≡ Finished r.head → new ≡ settled kind r.pages (used kind i r g)
      → Deed call g claims reply new
  Has_served : (kind : Kind) (chains : ℕ)
      → ServesRequests kind (requests kind g).posted 0 g reply new → reply ≡ Served chains None
      → Deed call g claims reply new
  Has_swept : (page : ℕ) → is_ballooned g.ballooned page ≡ true → tells_host g ≡ true
      → reply ≡ Swept (has_frame g page) → new ≡ unbacked (page ∷ []) g
      → Deed call g claims reply new
  Initialised : (wanted : ℕ) → call ≡ Init wanted → refusal_of g call ≡ None
      → Negotiates (feature_refusal wanted) wanted (supplied (lacking g) claims g) reply new
      → Deed call g claims reply new
  Has_written : (page offset : ℕ) (bytes : List ℕ) → call ≡ Write page offset bytes
      → refusal_of g call ≡ None → AreClaimsFor (pages_needed page bytes g) claims
      → claim_refusal claims ≡ None
      → Written page offset bytes (supplied (pages_needed page bytes g) claims g) reply new
      → Deed call g claims reply new
  Has_scribbled : (page offset : ℕ) (bytes : List ℕ) → call ≡ Scribble page offset bytes
      → refusal_of g call ≡ None
      → Scribbled (supplied (pages_needed page bytes g) claims g) reply new
      → Deed call g claims reply new

-- ---- parts of calls

fills : (buffer : StatisticsBuffer) (call : Call) (g : Guest) (claims : List Claim) (reply : Reply)
    (new : Guest) → g.buffer ≡ buffer → Fills buffer g reply new → Deed call g claims reply new
fills (BufferDone old) call g claims reply new e s =
    Buffered _ g.last (sym (ap has_buffer e)) (ap is_refused s.0) s.1
fills _ call g claims reply new e s = Stayed (Needless (ap is_refused s.0)) s.1

takes_buffer : (buffer : StatisticsBuffer) (call : Call) (g : Guest) (claims : List Claim)
    (reply : Reply) (new : Guest) → g.buffer ≡ buffer → TakesBuffer buffer g reply new
    → Deed call g claims reply new
takes_buffer (BufferPosted figures) call g claims reply new e s =
    Buffered _ _ (sym (ap has_buffer e)) (ap is_refused s.0) s.1
takes_buffer _ call g claims reply new e s = Stayed (Needless (ap is_refused s.0)) s.1

returns_buffer : (buffer : StatisticsBuffer) (call : Call) (g : Guest) (claims : List Claim)
    (reply : Reply) (new : Guest) → g.buffer ≡ buffer → ReturnsBuffer buffer g reply new
    → Deed call g claims reply new
returns_buffer (BufferTaken figures) call g claims reply new e s =
    Buffered _ g.last (sym (ap has_buffer e)) (ap is_refused s.0) s.1
returns_buffer _ call g claims reply new e s = absurd s

serves_buffer : (buffer : StatisticsBuffer) (call : Call) (g : Guest) (claims : List Claim)
    (reply : Reply) (new : Guest) → g.buffer ≡ buffer → ServesBuffer buffer g reply new
    → Deed call g claims reply new
serves_buffer (BufferPosted figures) call g claims reply new e s =
    Buffered _ _ (sym (ap has_buffer e)) (ap is_refused s.2) s.1.1
serves_buffer _ call g claims reply new e s = Stayed (Needless (ap is_refused s.2)) s.1.1

the_queue : (q : ℕ) (kind : Kind) → kind_of_queue q ≡ Some kind → Reap q ≡ Reap (queue_of kind)
the_queue q kind h = grind arith

reaps : (kind : Kind) (done : List Request) (call : Call) (g : Guest) (claims : List Claim)
    (reply : Reply) (new : Guest) → call ≡ Reap (queue_of kind) → (requests kind g).done ≡ done
    → Reaps kind done g reply new → Deed call g claims reply new
reaps kind [] call g claims reply new is e s = Stayed (Needless (ap is_refused s.0)) s.1
reaps kind (r ∷ rest) call g claims reply new is e s = Has_reaped kind r rest is e s.0 s.1

takes : (kind : Kind) (posted : List Request) (call : Call) (g : Guest) (claims : List Claim)
    (reply : Reply) (new : Guest) → (requests kind g).posted ≡ posted
    → TakesRequest kind posted g reply new → Deed call g claims reply new
takes kind [] call g claims reply new e s = Stayed (Needless (ap is_refused s.0)) s.1
takes kind (r ∷ rest) call g claims reply new e s = Has_taken kind r rest e s.0 s.1

pub served_reply : (kind : Kind) (posted : List Request) (chains : ℕ) (g : Guest) (reply : Reply)
    (new : Guest) → ServesRequests kind posted chains g reply new
    → (n : ℕ) × (reply ≡ Served n None)
served_reply kind [] chains g reply new s = (chains, s.0)
served_reply kind (r ∷ rest) chains g reply new s =
    served_reply kind rest (chains + 1) s.1 reply new s.4

slice_get-in : (xs : List ℕ) (i x : ℕ) → slice_get xs i ≡ Some x → is_in x xs ≡ true
slice_get-in [] i x h = absurd cc
slice_get-in (y ∷ ys) zero x h = grind arith
slice_get-in (y ∷ ys) (suc i) x h = grind (arith, slice_get-in ys i x h)

-- the page that a device visits is named by a taken request
next_page-named : (rs : List Request) (page : ℕ) → next_page rs ≡ Some page → 1 ≤ naming page rs
next_page-named [] page h = absurd cc
next_page-named (r ∷ rs) page h = step (is_unvisited r) h (next_page-named rs page) where
  step : (v : Bool) → cond v (slice_get r.pages r.visited) (next_page rs) ≡ Some page
      → (next_page rs ≡ Some page → 1 ≤ naming page rs) → 1 ≤ naming page (r ∷ rs)
  step true k ih =
      let n : one_if (names page r) ≡ 1 = ap one_if (slice_get-in r.pages r.visited page k) in
      omega (arith, naming-cons page r rs)
  step false k ih = omega (arith, naming-cons page r rs, ih k)

works : (call : Call) (g : Guest) (claims : List Claim) (reply : Reply) (new : Guest)
    → Works g reply new → Deed call g claims reply new
works call g claims reply new s = by g.config.paced s where
  by : (paced : Bool)
      → MatchOption (cond paced (next_page g.inflate.taken) None)
      (MatchOption (cond paced (next_page g.report.taken) None) (Idles g reply new)
      (Visits Reporting_free g reply new)) (Visits Inflating g reply new)
      → Deed call g claims reply new
  by false s = Stayed (Needless (ap is_refused s.0)) s.1
  by true s = elim (match_cases (next_page g.inflate.taken) (MatchOption (next_page g.report.taken)
      (Idles g reply new) (Visits Reporting_free g reply new)) (Visits Inflating g reply new) s) [
        | inr v ↦ Visited Inflating v.0 (next_page-named g.inflate.taken v.0 v.1) (λ e. cc)
            v.2.0 v.2.1
        | inl m ↦ elim (match_cases (next_page g.report.taken) (Idles g reply new)
            (Visits Reporting_free g reply new) m.1) [
              | inr v ↦ Visited Reporting_free v.0 (next_page-named g.report.taken v.0 v.1)
                  (λ e. cc) v.2.0 v.2.1
              | inl i ↦ Stayed (Needless (ap is_refused i.1.0)) i.1.1
            ]
      ]

-- the claims were given and the rest was done, or nothing is changed
supplies : (P : Type 0) (call : Call) (g : Guest) (claims : List Claim) (reply : Reply)
    (new : Guest)
    → MatchOption (claim_refusal claims) P (λ refusal. (reply ≡ Refused refusal) × (new ≡ g))
    → (claim_refusal claims ≡ None → P → Deed call g claims reply new)
    → Deed call g claims reply new
supplies P call g claims reply new s rest = elim (match_cases (claim_refusal claims) P
    (λ refusal. (reply ≡ Refused refusal) × (new ≡ g)) s) [
      | inl m ↦ rest m.0 m.1
      | inr r ↦ Stayed (Unsupplied r.0 r.1 r.2.0) r.2.1
    ]

lent_length : (g : Guest) (count : ℕ) → count ≤ count_by is_lent g.places
    → count ≡ length (lowest_lent count g)
lent_length g count few = sym (length-take-le count (pages_where is_lent g.places)
    (omega (arith, few, length-pages_where is_lent g.places)))

asks_back : (count : ℕ) (call : Call) (g : Guest) (claims : List Claim) (reply : Reply)
    (new : Guest)
    → posts_deflate call ≡ true → count ≤ count_by is_lent g.places → not (is_up g.status) ≡ false
    → nat_le (room g) (outstanding g.deflate) ≡ false → Deflates count g reply new
    → Deed call g claims reply new
asks_back count call g claims reply new asks few up now s =
    Has_posted Deflating s.0 (lowest_lent count g) (record {
      up = not-false _ up;
      least = s.1;
      room = leb-false _ _ now;
      there = λ page k. lent_pages g count page k;
      distinct = λ page. distinct_where is_lent g.places count page;
      pending = λ e. cc;
      back = λ e. asks;
    }) (s.2 ∙ ap (Posted s.0) (lent_length g count few)) s.3

pub served : (q : ℕ) (g : Guest) (claims : List Claim) (reply : Reply) (new : Guest)
    → Performed (Serve q) g claims reply new → Deed (Serve q) g claims reply new
served q g claims reply new s = elim (match_cases (kind_of_queue q) _ _ s.1) [
  | inl n ↦ serves_buffer g.buffer (Serve q) g claims reply new refl n.1
  | inr k ↦ let told = served_reply k.0 (requests k.0 g).posted 0 g reply new k.2 in
      Has_served k.0 told.0 k.2 told.1
]

-- ---- a call

performed : (call : Call) (g : Guest) (claims : List Claim) (reply : Reply) (new : Guest)
    → refusal_of g call ≡ None → Performed call g claims reply new → Deed call g claims reply new
performed (SetTarget n) g claims reply new e s = Aimed n refl s.1.0 s.1.1
performed Reset g claims reply new e s = Was_reset s.1.0 s.1.1
performed (Alloc cpu order) g claims reply new e s =
    Allocated (record { start = s.1.0; order = order })
    (ltb-false _ _ (not_refused (causes g (Alloc cpu order)) e).0) s.1.1 s.1.2 s.1.3
performed (Free cpu start order) g claims reply new e s =
    Freed (record { start = start; order = order })
    (not-false _ (not_refused (causes g (Free cpu start order)) e).1.1.0) s.1.0 s.1.1
performed (Read page offset len) g claims reply new e s = elim s.1.0 [
  | inl told ↦ Stayed (Needless (ap is_refused told)) s.1.1
  | inr told ↦ Stayed (Without_memory told) s.1.1
]
performed (Inflate n) g claims reply new e s = let t = not_refused (causes g (Inflate n)) e in
    Has_posted Inflating s.1.4.0 (stranded_first g n ++ s.1.0) (record {
      up = not-false _ t.0;
      least = s.1.4.1;
      room = leb-false _ _ t.1.0;
      there = λ page k. inflated_pages g n s.1.0 page s.1.1 k;
      distinct = λ page. inflated_distinct g n s.1.0 page s.1.1 s.1.2;
      pending = λ e. t.1.1.0;
      back = λ e. cc;
    }) (s.1.4.2 ∙ ap (Posted s.1.4.0)
    (omega (arith, s.1.3, length-append (stranded_first g n) s.1.0))) s.1.4.3
performed (Deflate n) g claims reply new e s = let t = not_refused (causes g (Deflate n)) e in
    asks_back (deflate_count g n) _ g claims reply new refl (omega arith) t.0 t.1.1.0 s.1
performed (Oom n) g claims reply new e s = let t = not_refused (causes g (Oom n)) e in
    asks_back (oom_count g n) _ g claims reply new refl (omega arith) t.0 t.1.1.0 s.1
performed (Report from) g claims reply new e s = let t = not_refused (causes g (Report from)) e in
    Has_posted Reporting_free s.1.0 (pages_of_all (reported_blocks g from)) (record {
      up = not-false _ t.0;
      least = s.1.1;
      room = leb-false _ _ t.1.1.0;
      there = λ page k. reported_pages g from page k;
      distinct = λ page. reported_distinct (λ p. is_free (place_of g.places p))
          (λ b. nat_le min_reported_order b.order && nat_le from b.start) (length g.places) (room g)
          page;
      pending = λ e. cc;
      back = λ e. cc;
    }) s.1.2 s.1.3
performed Stats g claims reply new e s = fills g.buffer Stats g claims reply new refl s.1
performed Ask g claims reply new e s = returns_buffer g.buffer Ask g claims reply new refl s.1
performed (Reap q) g claims reply new e s = elim (match_cases (kind_of_queue q) _ _ s.1) [
  | inl n ↦ absurd n.1
  | inr k ↦ reaps k.0 _ (Reap q) g claims reply new (the_queue q k.0 k.1) refl k.2
]
performed (Take q) g claims reply new e s = elim (match_cases (kind_of_queue q) _ _ s.1) [
  | inl n ↦ takes_buffer g.buffer (Take q) g claims reply new refl n.1
  | inr k ↦ takes k.0 _ (Take q) g claims reply new refl k.2
]
performed Work g claims reply new e s = works Work g claims reply new s.1
performed (Finish q i) g claims reply new e s = elim (match_cases (kind_of_queue q) _ _ s.1) [
  | inl n ↦ absurd n.1
  | inr k ↦ Has_finished k.0 i k.2.0 k.2.1 k.2.2 k.2.3
]
performed (Serve q) g claims reply new e s = served q g claims reply new s
performed (Sweep page) g claims reply new e s = let t = not_refused (causes g (Sweep page)) e in
    Has_swept page (not-false _ t.1.1.1.0) (not-false _ t.1.1.0) s.1.0 s.1.1
performed (Init wanted) g claims reply new e s = supplies _ (Init wanted) g claims reply new s.1
    (λ given. Initialised wanted refl e)
performed (Write page offset bytes) g claims reply new e s =
    supplies _ (Write page offset bytes) g claims reply new s.1
    (λ given. Has_written page offset bytes refl e s.0 given)
performed (Scribble page offset bytes) g claims reply new e s =
    supplies _ (Scribble page offset bytes) g claims reply new s.1
    (λ given. Has_scribbled page offset bytes refl e)

pub deed : (g : Guest) (call : Call) (claims : List Claim) (reply : Reply) (new : Guest)
    → HonestStep g call claims reply new → Deed call g claims reply new
deed g call claims reply new s =
    elim (match_cases (refusal_of g call) _ _ (honest_case g call claims reply new s)) [
      | inl p ↦ performed call g claims reply new p.0 p.1
      | inr r ↦ Stayed (Denied r.0 r.1 r.2.1) r.2.2
    ]
