-- The device's work is a step of the definitions.
use Rattle.std.specs.Prelude.{◌≡◌, ℕ, ◌<◌, ◌≤◌, Bool, true, false, cond, if◌then◌else◌, List, []}
use Rattle.std.specs.Prelude.{◌∷◌, All, Result, Option, Some, None, MatchOption, is_some, slice_get}
use Rattle.std.{specs.Prelude.refl, proofs.lemmas.List.Elements.{All-nil, All-cons, All-tail}}
use Rattle.std.proofs.Common.{sym, ◌∙◌, ap, subst, arith, inr}
use Rattle.vb_model.proofs.CallSteps.{Idles, Visits as VisitsOf}
use Rattle.vb_virtio.specs.Queues.{is_unvisited, Request, Kind, Inflating, Reporting_free, queue_of}
use Rattle.vb_virtio.specs.Layout.{reserved_pages}
use Rattle.vb_virtio.specs.declared.refusals.Refusal.{Refusal}
use Rattle.vb_model.specs.Device.{visiting, next_page, visited}
use Rattle.vb_model.specs.Guest.{Guest}
use Rattle.vb_model.specs.Guest.{requests, unbacked}
use Rattle.vb_model.specs.Refusals.{refusal_of}
use Rattle.vb_model.specs.Step.{Performs}
use Rattle.vb_model.specs.declared.calls.Call.TheVariants.{Work}
use Rattle.vb_model.specs.declared.replies.Reply.{Reply}
use Rattle.vb_model.specs.declared.replies.Reply.TheVariants.{Worked}
use Rattle.vb_ram.specs.{Pages.{Pages, frame_at}, Part.{Part, QueuePart}}
use Rattle.vb_device.specs.{Calls.{next_visit, Visits, WorksBy}, Queues.{queue_part, with_queue}}
use Rattle.vb_device.specs.{Conditions.work_refusal, declared.worked.Worked.Worked as WorkedPage}
use Rattle.{vb_driver.specs.State.DriverState, vb_guest.specs.Stands.{Honest, Ties, IsRunning}}
use Rattle.vb_guest.specs.Stands.{HasPages, HasParts, IsOwnRequest, beside_queues, beside_sides}
use Rattle.vb_guest.specs.{Stands.beside_requests, Replies.worked_reply, Steps.StepsFreeing}
use Rattle.vb_guest.proofs.KindLines.{LineWith, line_of, size_of, own_pages_of, ignores}
use Rattle.vb_guest.proofs.{KindLines.same_frames, SameRefusals.{by_state, works_same, works_idle}}
use Rattle.vb_guest.proofs.{PagesKept.{pages_discarded, page_undiscarded}, Discarding.with_entry}
use Rattle.vb_guest.proofs.{Closing.{honest_performed, ties_same}, Handing.{handed_back, not_among}}
use Rattle.vb_guest.proofs.{Losing.steps_losing, Taking.line_visited, Running.runs_on, Heads.one_of}

-- the next page of a device of this pace
abbrev visit_of : Bool → List Request → Option ℕ
visit_of paced taken = if paced then next_page taken else None

-- what a device does that would visit this page of an inflate, and this one of a report
abbrev WorksOn : Option ℕ → Option ℕ → Guest → Reply → Guest → Type 0
WorksOn a b g reply new = MatchOption a (MatchOption b
    (Idles g reply new) (VisitsOf Reporting_free g reply new)) (VisitsOf Inflating g reply new)

-- ---- refusals, and nothing to visit

work_refused : {m1 m2 : Pages} {p1 p2 : Part} {d : DriverState} {g : Guest}
    (why : Refusal) {result : Result (Option WorkedPage) Refusal} → WorksBy m1 m2 p1 p2 result
    → Honest m1 p1 d g → work_refusal p1 ≡ Some why → refusal_of g Work ≡ Some why
    → StepsFreeing (Honest m2 (handed_back p2) d) p2.loose g Work (worked_reply result)
work_refused why did stands by_part by_model = grind arith

work_idle : {m1 m2 : Pages} {p1 p2 : Part} {d : DriverState} {g : Guest}
    {result : Result (Option WorkedPage) Refusal} → WorksBy m1 m2 p1 p2 result → Honest m1 p1 d g
    → work_refusal p1 ≡ None → refusal_of g Work ≡ None → next_visit 0 p1 ≡ None → next_visit 4 p1
    ≡ None → visit_of g.config.paced g.inflate.taken ≡ None → visit_of g.config.paced g.report.taken
    ≡ None → StepsFreeing (Honest m2 (handed_back p2) d) p2.loose g Work (worked_reply result)
work_idle did stands by_part by_model here later there after = grind arith

-- ---- a visit

-- what holds of each page of each taken request holds of the next one
next_taken : (P : ℕ → Type 0) (rs : List Request) (page : ℕ) → All (λ r. All P r.pages) rs
    → next_page rs ≡ Some page → P page
next_taken P [] page all e = absurd cc
next_taken P (r ∷ rs) page all e = step (is_unvisited r) e
    (next_taken P rs page (All-tail (λ (x : Request). All P x.pages) r rs all)) where
      step : (v : Bool) → cond v (slice_get r.pages r.visited) (next_page rs) ≡ Some page
          → (next_page rs ≡ Some page → P page) → P page
      step true is later = one_of P r.pages r.visited page (all 0 r (omega arith)) is
      step false is later = later is

-- the next page to visit is one of a taken request
pub next_own : {size : ℕ} {n : ℕ} (paced : Bool) (taken : List Request) (page : ℕ)
    → All (IsOwnRequest size n) taken → visit_of paced taken ≡ Some page
    → IsOwnRequest size n (record { head = 0; pages = page ∷ []; visited = 0 })
next_own {size} {n} true taken page all e = let H : ℕ → Type 0 = λ p. reserved_pages size ≤ p in
    let L : ℕ → Type 0 = λ p. p < n in
    record {
      above = All-cons H page [] (next_taken H taken page (λ k x lt. (all k x lt).above) e)
          (All-nil H);
      below = All-cons L page [] (next_taken L taken page (λ k x lt. (all k x lt).below) e)
          (All-nil L);
    }
next_own false taken page all e = absurd cc

ties_visited : (kind : Kind) {m : Pages} {p : Part} {d : DriverState} {g : Guest}
    (page : ℕ) (part : QueuePart) → HasParts (beside_queues p) (beside_sides d) (beside_requests g)
    → HasPages m g.config.queue_size g.config.pages (unbacked (page ∷ []) g).frames (unbacked (page
    ∷ []) g).contents → IsRunning m p d g → LineWith kind m d g.config.pages part
    (record (requests kind g) { taken = visiting (requests kind g).taken })
    → Ties m (handed_back (with_queue (queue_of kind) part p)) d (visited kind page g)
ties_visited Inflating page part parts pages run line =
    record { parts = assumption; pages = pages; queues = inr assumption }
ties_visited kind page part parts pages run line =
    record { parts = assumption; pages = pages; queues = inr assumption }

request_visited : (kind : Kind) {m1 m2 : Pages} {p1 p2 : Part}
    {d : DriverState} {g : Guest} {page : ℕ} {result : Result (Option WorkedPage) Refusal}
    → Visits (queue_of kind) page m1 m2 p1 p2 result
    → Honest m1 p1 d g → IsRunning m1 p1 d g → refusal_of g Work ≡ None
    → visit_of g.config.paced (requests kind g).taken ≡ Some page → ((reply : Reply) (new : Guest)
    → VisitsOf kind g reply new page → Performs Work g [] reply new)
    → StepsFreeing (Honest m2 (handed_back p2) d) p2.loose g Work (worked_reply result)
request_visited kind {m1} {m2} {p1} {p2} {d} {g} {page} did stands run free there performs =
    let q = queue_of kind in let ties = stands.ties in let n = g.config.pages in
    let size = g.config.queue_size in
    let one : Request = record { head = 0; pages = page ∷ []; visited = 0 } in
    let line = line_of kind run in
    let own = subst (λ s. IsOwnRequest s n one) (size_of kind run) (next_own g.config.paced
    (requests kind g).taken page (λ k x lt. own_pages_of kind d (line.taken k x lt)) there) in
    let rests = runs_on run (λ p lt. page_undiscarded one.pages m1 p
    (not_among (reserved_pages size) one.pages p own.above lt)) in
    let new : Guest = visited kind page g in
    let reply : Reply = Worked page (is_some (frame_at m1 page)) in
    let step = honest_performed g Work [] reply new free (performs reply new
    (ap (λ (o : Option ℕ). Worked page (is_some o)) (ties.pages.behind page), refl)) in
    let part : QueuePart = record (queue_part q p1) { taken = visiting (queue_part q p1).taken } in
    let fresh = ties_visited kind page part ties.parts (pages_discarded one.pages ties.pages) rests
    (line_visited (ignores kind d n) (line_of kind rests)) in
    subst (λ x. StepsFreeing (Honest m2 (handed_back p2) d) p2.loose g Work (worked_reply x))
    (sym did.answer) (steps_losing p2 one.pages stands step
    (ties_same did.memory (ap handed_back did.part) refl fresh)
    (ap (with_entry one.pages None) (same_frames kind _ g)) did.loose (refl, tt) own.below)

pub work_step : {m1 m2 : Pages} {p1 p2 : Part} {d : DriverState} {g : Guest}
    {result : Result (Option WorkedPage) Refusal} → WorksBy m1 m2 p1 p2 result → Honest m1 p1 d g
    → StepsFreeing (Honest m2 (handed_back p2) d) p2.loose g Work (worked_reply result)
work_step {m1} {m2} {p1} {p2} {d} {g} {result} did stands = let device = stands.ties.parts.device in
    by_state Work (work_refusal p1) stands.ties.queues (works_idle p1 g device.status)
    (λ run. works_same p1 g device.status)
    (λ why. work_refused why did stands) (λ run by_part by_model.
    let first : next_visit 0 p1 ≡ visit_of g.config.paced g.inflate.taken =
    ap (λ (b : Bool). visit_of b p1.inflate.taken) device.paced
    ∙ ap (λ (rs : List Request). visit_of g.config.paced rs) run.inflate.remembers in
    let second : next_visit 4 p1 ≡ visit_of g.config.paced g.report.taken =
    ap (λ (b : Bool). visit_of b p1.report.taken) device.paced
    ∙ ap (λ (rs : List Request). visit_of g.config.paced rs) run.report.remembers in
    by_next (visit_of g.config.paced g.inflate.taken) (visit_of g.config.paced g.report.taken)
    run by_part by_model refl refl first second) where
      by_next : (o later : Option ℕ) → IsRunning m1 p1 d g → work_refusal p1
          ≡ None → refusal_of g Work ≡ None → visit_of g.config.paced g.inflate.taken
          ≡ o → visit_of g.config.paced g.report.taken ≡ later → next_visit 0 p1 ≡ visit_of
          g.config.paced g.inflate.taken → next_visit 4 p1 ≡ visit_of g.config.paced g.report.taken
          → StepsFreeing (Honest m2 (handed_back p2) d) p2.loose g Work (worked_reply result)
      by_next None None run free model is none first second =
          work_idle did stands free model (first ∙ is) (second ∙ none) is none
      by_next None (Some page) run free model is some first second =
          request_visited Reporting_free
          (did.report page free (first ∙ is) (second ∙ some)) stands run model some (λ reply new does.
          let R : Option ℕ → Type 0 = λ b. WorksOn None b g reply new in
          let W : Option ℕ → Type 0 =
          λ a. WorksOn a (visit_of g.config.paced g.report.taken) g reply new in
          (refl, subst W (sym is) (subst R (sym some) does)))
      by_next (Some page) later run free model is what first second =
          request_visited Inflating
          (did.inflate page free (first ∙ is)) stands run model is (λ reply new does.
          let W : Option ℕ → Type 0 =
          λ a. WorksOn a (visit_of g.config.paced g.report.taken) g reply new in
          (refl, subst W (sym is) does))
