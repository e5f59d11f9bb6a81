-- A guest's take of the statistics buffer is a step of the definitions.
use Rattle.{std.proofs.Common.{sym, ◌∙◌, ap, subst, arith, inr}, vb_ram.proofs.Limits.config_limits}
use Rattle.std.specs.Prelude.{true, ◌≡◌, ℕ, ◌*◌, List, [], length, Result, Ok, Option, Some, None}
use Rattle.{std.specs.Prelude.{slice_get, refl, if◌then◌else◌}, vb_chain.specs.Table.descriptor_at}
use Rattle.vb_model.specs.{declared.calls.Call.TheVariants.Take, Requests.{BufferTaken, BufferDone}}
use Rattle.vb_virtio.specs.declared.statistics.LastStatistics.{LastStatistics}
use Rattle.vb_virtio.specs.declared.refusals.Refusal.{Refusal}
use Rattle.vb_virtio.specs.Queues.{Request, has_chains}
use Rattle.vb_virtio.specs.Layout.{ring_page}
use Rattle.vb_model.specs.{declared.replies.Reply.TheVariants.{Taken, Empty}, Device.TakesBuffer}
use Rattle.{vb_model.specs.Guest.Guest, vb_ram.specs.{Part.Part, Pages.Pages}}
use Rattle.vb_model.specs.Requests.{Figures, StatisticsBuffer, NoBuffer, BufferPosted}
use Rattle.vb_driver.specs.Coding.{AreFigures}
use Rattle.vb_driver.specs.State.{DriverState}
use Rattle.vb_model.specs.Refusals.{refusal_of, is_taken, taken_count}
use Rattle.{vb_chain.specs.Chain.ChainGives, vb_guest.specs.Steps.StepsAlone}
use Rattle.vb_device.specs.{Queues.queue_part, Calls.{TakesBy, taking}, Conditions.take_refusal}
use Rattle.vb_guest.proofs.BufferChain.{buffer_pieces, buffer_chain, buffer_names, buffer_says}
use Rattle.vb_guest.{proofs.Handing.same_entry, specs.Stands.{Honest, Ties, IsRunning}}
use Rattle.vb_guest.proofs.{BufferLines.buffer_taken, SameRefusals.{by_state, take_same, take_idle}}
use Rattle.vb_guest.proofs.{RingTaken.ring_next, Closing.{honest_performed, steps_alone, ties_same}}
use Rattle.vb_guest.specs.{Replies.taken_reply, Buffer.{BufferLine, posted_heads, taken_requests}}

-- a refused take of any queue
pub take_refused : {m1 m2 : Pages} {p1 p2 : Part}
    {d : DriverState} {g : Guest} {q : ℕ} (why : Refusal) {result : Result (Option ℕ) Refusal}
    → TakesBy q m1 m2 p1 p2 result → Honest m1 p1 d g → take_refusal q p1 ≡ Some why
    → refusal_of g (Take q) ≡ Some why → StepsAlone (Honest m2 p2 d) g (Take q) (taken_reply result)
take_refused why did stands by_part by_model = search arith

-- no buffer is posted
take_none : {m1 m2 : Pages} {p1 p2 : Part}
    {d : DriverState} {g : Guest} {b : StatisticsBuffer} {result : Result (Option ℕ) Refusal}
    → g.buffer ≡ b → posted_heads b ≡ [] → TakesBuffer b g Empty g → TakesBy 2 m1 m2 p1 p2 result
    → Honest m1 p1 d g → IsRunning m1 p1 d g → take_refusal 2 p1 ≡ None
    → refusal_of g (Take 2) ≡ None → StepsAlone (Honest m2 p2 d) g (Take 2) (taken_reply result)
take_none {m1} {m2} {p1} {p2} {d} {g} is none empty did stands run free_part free =
    let line = run.statistics in
    let next = same_entry m1 2 p1.statistics.next_avail d.statistics line.stands.layout
    (stands.ties.parts.device.size ∙ sym run.statistics_size)
    ∙ ring_next line.stands ∙ ap (λ (l : List ℕ). Ok (slice_get l 0)) (ap posted_heads is ∙ none) in
    let (answer, part) = did.empty free_part next in
    let T : StatisticsBuffer → Type 0 = λ x. TakesBuffer x g Empty g in
    let step = honest_performed g (Take 2) [] Empty g free (refl, subst T (sym is) empty) in
    subst (λ r. StepsAlone (Honest m2 p2 d) g (Take 2) (taken_reply r))
    (sym answer) (steps_alone stands step (ties_same did.memory part refl stands.ties) refl)

-- the posted buffer is taken
take_posted : {m1 m2 : Pages} {p1 p2 : Part}
    {d : DriverState} {g : Guest} (figures : Figures) {result : Result (Option ℕ) Refusal}
    → g.buffer ≡ BufferPosted figures → TakesBy 2 m1 m2 p1 p2 result
    → Honest m1 p1 d g → IsRunning m1 p1 d g → take_refusal 2 p1 ≡ None
    → refusal_of g (Take 2) ≡ None → StepsAlone (Honest m2 p2 d) g (Take 2) (taken_reply result)
take_posted {m1} {m2} {p1} {p2} {d} {g} figures is did stands run free_part free =
    let ties = stands.ties in
    let said : LastStatistics = record { free = Some figures.free; total = Some figures.total } in
    let L : StatisticsBuffer → Type 0 = λ b. BufferLine m1 d.statistics p1.statistics b in
    let line : L (BufferPosted figures) = subst L is run.statistics in
    let size = ties.parts.device.size ∙ sym run.statistics_size in
    let next = same_entry m1 2 p1.statistics.next_avail d.statistics
    line.stands.layout size ∙ ring_next line.stands in
    let limits =
    config_limits g.config.pages g.config.queue_size g.config.processors ties.parts.guest.config in
    let table : ℕ = ring_page p1.queue_size 2 in
    let chain : ChainGives (descriptor_at m1 table) p1.queue_size
    (4096 * length m1) 0 buffer_pieces = buffer_chain (omega (
      arith,
      limits.pages_least,
      ties.pages.length_is,
    )) (omega (arith, limits.queue_least, ties.parts.device.size))
    (subst (λ (s : ℕ). AreFigures m1 (ring_page s 2) figures) (sym size) line.figures) in
    let (answer, part) = did.takes 0 buffer_pieces [] free_part next chain buffer_names in
    let new : Guest = record g { buffer = BufferTaken figures; last = said } in
    let T : StatisticsBuffer → Type 0 = λ b. TakesBuffer b g (Taken 0) new in
    let step = honest_performed g (Take 2) [] (Taken 0) new free
    (refl, subst T (sym is) (refl, refl)) in
    let after : Part = taking 2 0 [] (record p1 { last = said }) in
    let left : p2 ≡ after =
    part ∙ ap (λ (l : LastStatistics). taking 2 0 [] (record p1 { last = l }))
    (buffer_says line.figures) in
    let taken = buffer_taken figures line in
    let there : Ties m1 after d new =
    record { parts = assumption; pages = ties.pages; queues = inr (assumption taken) } in
    subst (λ x. StepsAlone (Honest m2 p2 d) g (Take 2) (taken_reply x))
    (sym answer) (steps_alone stands step (ties_same did.memory left refl there) refl)

one_taken : (b : StatisticsBuffer) → length (taken_requests b) ≡ (if is_taken b then 1 else 0)
one_taken b = grind arith

-- a take from a queue that there is, by what it does where it isn't refused
pub take_by : {m1 m2 : Pages} {p1 p2 : Part} {d : DriverState} {g : Guest} {q : ℕ}
    {result : Result (Option ℕ) Refusal} → has_chains q ≡ true → TakesBy q m1 m2 p1 p2 result
    → Honest m1 p1 d g → (IsRunning m1 p1 d g → length (queue_part q p1).taken ≡ taken_count g q)
    → (IsRunning m1 p1 d g → take_refusal q p1 ≡ None
    → refusal_of g (Take q) ≡ None → StepsAlone (Honest m2 p2 d) g (Take q) (taken_reply result))
    → StepsAlone (Honest m2 p2 d) g (Take q) (taken_reply result)
take_by {p1} {g} {q} has did stands counts goes = let device = stands.ties.parts.device in
    by_state (Take q) (take_refusal q p1) stands.ties.queues
    (take_idle q p1 g has device.status) (λ run. take_same q p1 g device.status device.features
    (counts run)) (λ why. take_refused why did stands) goes

pub take_buffer : {m1 m2 : Pages} {p1 p2 : Part} {d : DriverState}
    {g : Guest} {result : Result (Option ℕ) Refusal} → TakesBy 2 m1 m2 p1 p2 result
    → Honest m1 p1 d g → StepsAlone (Honest m2 p2 d) g (Take 2) (taken_reply result)
take_buffer {m1} {m2} {p1} {p2} {d} {g} {result} did stands = take_by refl did stands
    (λ run. ap (λ (l : List Request). length l) run.statistics.remembers ∙ one_taken g.buffer)
    (λ run. by_buffer g.buffer refl run) where
      by_buffer : (b : StatisticsBuffer)
          → g.buffer ≡ b → IsRunning m1 p1 d g → take_refusal 2 p1 ≡ None
          → refusal_of g (Take 2) ≡ None → StepsAlone (Honest m2 p2 d) g (Take 2) (taken_reply result)
      by_buffer (BufferPosted figures) is run = take_posted figures is did stands run
      by_buffer NoBuffer is run = take_none is refl (refl, refl) did stands run
      by_buffer (BufferTaken figures) is run = take_none is refl (refl, refl) did stands run
      by_buffer (BufferDone figures) is run = take_none is refl (refl, refl) did stands run
