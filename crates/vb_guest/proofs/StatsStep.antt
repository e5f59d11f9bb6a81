-- A guest's new fill of the statistics buffer is a step of the definitions.
use Rattle.std.{proofs.Common.{sym, ◌∙◌, ap, subst, arith, inr}, specs.Prelude.{◌≡◌, ℕ, Bool, true}}
use Rattle.std.specs.Prelude.{false, not, [], Result, Ok, Err, Option, Some, None, slice_get, refl}
use Rattle.vb_virtio.proofs.Shapes.{reserved_least}
use Rattle.vb_virtio.specs.FirstRefusal.{first_refusal}
use Rattle.vb_virtio.specs.Features.{stats_vq}
use Rattle.vb_virtio.specs.Status.{is_up}
use Rattle.vb_virtio.specs.declared.refusals.Refusal.{Refusal}
use Rattle.vb_virtio.specs.declared.refusals.Refusal.TheVariants.{NotReady}
use Rattle.vb_model.specs.Driver.{figures, Fills}
use Rattle.vb_model.specs.Guest.{Guest}
use Rattle.vb_model.specs.Refusals.{refusal_of}
use Rattle.vb_model.specs.Requests.{Figures, StatisticsBuffer, NoBuffer, BufferPosted, BufferTaken}
use Rattle.vb_model.specs.Requests.{BufferDone}
use Rattle.vb_model.specs.declared.calls.Call.TheVariants.{Stats}
use Rattle.vb_model.specs.declared.replies.Reply.TheVariants.{Filled, NotUsed}
use Rattle.{vb_ram.specs.{Pages.Pages, Part.Part}, vb_ring.specs.Ends.{DriverEnd, used_answer}}
use Rattle.vb_driver.specs.{State.{DriverState, figures_of}, Answers.stats_causes, Calls.FillsBy}
use Rattle.{vb_driver.specs.Calls.Refills, vb_guest.proofs.BufferLines.buffer_emptied}
use Rattle.vb_guest.proofs.{BufferLines.buffer_posted, Closing.honest_performed}
use Rattle.vb_guest.proofs.{Closing.{steps_alone, refused_alone, ties_same}, PagesKept.pages_same}
use Rattle.vb_guest.proofs.{ReapRefusing.{unfailed, never_broken}, RingReaped.ring_answer}
use Rattle.vb_guest.proofs.RunApart.{sizes_of, ring_of, buffer_clear, post_leaves, post_same}
use Rattle.vb_guest.proofs.{Running.others_posted, SameRefusals.{refused_alike, runs_where}}
use Rattle.vb_guest.{proofs.SameRefusals.IsIdleStatus, specs.Buffer.{BufferLine, used_heads}}
use Rattle.vb_guest.specs.{Replies.filled_reply, Stands.{Honest, Ties, IsRunning}, Steps.StepsAlone}

-- ---- refusals

-- where the ring isn't broken
stats_same : (m : Pages) (p : Part) (d : DriverState) (g : Guest) (o : Option ℕ)
    → p.status ≡ g.status → d.features ≡ g.features → used_answer m d.statistics ≡ Ok o
    → first_refusal (stats_causes m p d) ≡ refusal_of g Stats
stats_same m p d g o status features answer = grind arith

stats_idle : (m : Pages) (p : Part) (d : DriverState) (g : Guest) → p.status ≡ g.status
    → IsIdleStatus g.status
    → (first_refusal (stats_causes m p d) ≡ Some NotReady) × (refusal_of g Stats ≡ Some NotReady)
stats_idle m p d g same down = grind arith

stats_refused : {m1 m2 : Pages} {p1 p2 : Part} {d1 d2 : DriverState} {g : Guest} (why : Refusal)
    → FillsBy m1 m2 p1 p2 d1 d2 (Err why)
    → Honest m1 p1 d1 g → first_refusal (stats_causes m1 p1 d1) ≡ refusal_of g Stats
    → StepsAlone (Honest m2 p2 d2) g Stats (filled_reply (Err why))
stats_refused {g} why did stands same =
    let by_model : refusal_of g Stats ≡ Some why = sym (did.refusal ∙ same) in
    refused_alone stands by_model did.refused.mem (did.refused.part
    ∙ unfailed why (λ e. never_broken false (not (is_up g.status)) (not (stats_vq g.features))
    (by_model ∙ ap Some e))) did.refused.driver

-- ---- the buffer wasn't used

not_used : {m1 m2 : Pages} {p1 p2 : Part} {d1 d2 : DriverState} {g : Guest}
    {b : StatisticsBuffer} (filled : Bool) → g.buffer ≡ b → used_answer m1 d1.statistics ≡ Ok None
    → Fills b g NotUsed g → FillsBy m1 m2 p1 p2 d1 d2 (Ok filled) → Honest m1 p1 d1 g
    → refusal_of g Stats ≡ None → StepsAlone (Honest m2 p2 d2) g Stats (filled_reply (Ok filled))
not_used filled is answer none did stands free = search arith

-- ---- the used buffer is filled anew

figures_same : (d : DriverState) (g : Guest) → d.places ≡ g.places → d.pages ≡ g.config.pages
    → figures_of d ≡ figures g
figures_same d g places pages = grind arith

refilled : {m1 m2 : Pages} {p1 p2 : Part} {d1 d2 : DriverState} {g : Guest} (old : Figures)
    → g.buffer ≡ BufferDone old → Refills m1 m2 p1 p2 d1 d2 → Honest m1 p1 d1 g
    → IsRunning m1 p1 d1 g → refusal_of g Stats ≡ None → StepsAlone (Honest m2 p2 d2) g Stats Filled
refilled {m1} {m2} {p1} {d1} {d2} {g} old is did stands run free = let ties = stands.ties in
    let now : Figures = figures g in
    let L : StatisticsBuffer → Type 0 = λ b. BufferLine m1 d1.statistics p1.statistics b in
    let line : L (BufferDone old) = subst L is run.statistics in let size = g.config.queue_size in
    let rest = did.posts.rest in
    let ring = ring_of 2 d1.statistics line.stands.sized line.stands.layout run.statistics_size in
    let same = post_same 12 ring
    (omega (arith, reserved_least size)) rest.count rest.backing rest.others in
    let leaves = post_leaves (sizes_of run) ring
    (buffer_clear size 2 12 (omega arith) (omega arith)) rest.others in
    let still = others_posted run leaves rest.backing (λ ne. absurd (ne refl))
    (λ ne p from to. omega (arith, to)) (λ ne p from to. omega (arith, to)) in
    let new : Guest = record g { buffer = BufferPosted now } in
    let F : StatisticsBuffer → Type 0 = λ b. Fills b g Filled new in
    let step = honest_performed g Stats [] Filled new free (refl, subst F (sym is) (refl, refl)) in
    let after : DriverState = record d1 { statistics = d2.statistics } in
    let emptied_line = buffer_emptied old line did.takes in
    let B : Figures → Type 0 = λ f. BufferLine m2 d2.statistics p1.statistics (BufferPosted f) in
    let posted : B now = subst B (figures_same
    d1 g ties.parts.driver.places ties.parts.driver.pages) (buffer_posted emptied_line did.posts) in
    let sized = ap (λ (r : DriverEnd). r.size) did.posts.state ∙ run.statistics_size in
    let there : Ties m2 p1 after new = record {
      parts = ties.parts;
      pages = pages_same same ties.pages;
      queues = inr (assumption (still.inflate refl, still.deflate refl, still.report refl));
    } in
    steps_alone stands step (ties_same refl did.part did.state there) refl

pub stats_step : {m1 m2 : Pages} {p1 p2 : Part} {d1 d2 : DriverState}
    {g : Guest} {result : Result Bool Refusal} → FillsBy m1 m2 p1 p2 d1 d2 result
    → Honest m1 p1 d1 g → StepsAlone (Honest m2 p2 d2) g Stats (filled_reply result)
stats_step {m1} {m2} {p1} {p2} {d1} {d2} {g} {result} did stands =
    let device = stands.ties.parts.device in
    by result did (refused_alike Stats stands.ties.queues
    (stats_idle m1 p1 d1 g device.status) (λ run. stats_same m1 p1 d1 g (slice_get
    (used_heads g.buffer) 0) device.status stands.ties.parts.driver.accepted (answer run))) where
      answer : IsRunning m1 p1 d1 g
          → used_answer m1 d1.statistics ≡ Ok (slice_get (used_heads g.buffer) 0)
      answer run = ring_answer run.statistics.stands

      by_buffer : (b : StatisticsBuffer) (filled : Bool) → g.buffer ≡ b
          → FillsBy m1 m2 p1 p2 d1 d2 (Ok filled) → IsRunning m1 p1 d1 g
          → used_answer m1 d1.statistics ≡ Ok (slice_get (used_heads b) 0) → refusal_of g Stats ≡ None
          → StepsAlone (Honest m2 p2 d2) g Stats (filled_reply (Ok filled))
      by_buffer (BufferDone old) true is did run answer free =
          refilled old is did.fills stands run free
      by_buffer (BufferDone old) false is did run answer free =
          absurd (let wrong = sym answer ∙ did.fills.unused in cc)
      by_buffer NoBuffer filled is did run answer free =
          not_used filled is answer (refl, refl) did stands free
      by_buffer (BufferPosted figures) filled is did run answer free = not_used filled is answer
          (refl, refl) did stands free
      by_buffer (BufferTaken figures) filled is did run answer free = not_used filled is answer
          (refl, refl) did stands free

      by : (result : Result Bool Refusal) → FillsBy m1 m2 p1 p2 d1 d2 result
          → first_refusal (stats_causes m1 p1 d1) ≡ refusal_of g Stats
          → StepsAlone (Honest m2 p2 d2) g Stats (filled_reply result)
      by (Err why) did same = stats_refused why did stands same
      by (Ok filled) did same = let free : refusal_of g Stats ≡ None = sym (did.refusal ∙ same) in
          let run = runs_where Stats _ stands.ties.queues
          (stats_idle m1 p1 d1 g stands.ties.parts.device.status) free in
          by_buffer g.buffer filled refl did run (answer run) free
