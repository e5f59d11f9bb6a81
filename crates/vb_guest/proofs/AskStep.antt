-- A guest's ask is a step of the definitions.
use Rattle.std.{proofs.Common.{sym, ◌∙◌, ap, subst, arith, inr}, specs.Prelude.{◌≡◌, false}}
use Rattle.std.specs.Prelude.{List, [], Result, IsOk, Some, None, is_some, slice_get, refl}
use Rattle.vb_virtio.specs.Layout.{reserved_pages}
use Rattle.vb_virtio.specs.declared.refusals.Refusal.{Refusal}
use Rattle.vb_virtio.specs.Queues.{Request}
use Rattle.vb_model.specs.Refusals.{refusal_of, is_taken}
use Rattle.vb_model.specs.{Device.ReturnsBuffer, declared.calls.Call.TheVariants.Ask}
use Rattle.vb_model.specs.declared.replies.Reply.TheVariants.{Asked}
use Rattle.vb_model.specs.Requests.{Figures, StatisticsBuffer}
use Rattle.vb_model.specs.{Requests.{NoBuffer, BufferPosted, BufferTaken, BufferDone}, Guest.Guest}
use Rattle.{vb_ram.specs.{Part.Part, Pages.Pages}, vb_device.specs.Calls.{AsksBy, using}}
use Rattle.{vb_device.specs.Conditions.{ask_refusal, taken_at}, vb_driver.specs.State.DriverState}
use Rattle.vb_guest.specs.{Replies.asked_reply, Steps.StepsAlone, Stands.{Honest, Ties, IsRunning}}
use Rattle.vb_guest.{specs.Buffer.{BufferLine, taken_requests}, proofs.Running.others_run}
use Rattle.vb_guest.proofs.{SameRefusals.{by_state, ask_same, ask_idle}, BufferLines.buffer_used}
use Rattle.vb_guest.proofs.{Handing.{used_same, same_end}, RingApart.ring_parts, RunApart.sizes_of}
use Rattle.vb_guest.proofs.{RunApart.{others_same, ring_low, ring_as}, Closing.honest_performed}
use Rattle.vb_guest.proofs.{Closing.{steps_alone, ties_same}, PagesKept.{SamePages, pages_same}}

ask_refused : {T : Type 0} {m1 m2 : Pages}
    {p1 p2 : Part} {d : DriverState} {g : Guest} (why : Refusal) {result : Result T Refusal}
    → AsksBy m1 m2 p1 p2 result → Honest m1 p1 d g → ask_refusal p1 ≡ Some why
    → refusal_of g Ask ≡ Some why → StepsAlone (Honest m2 p2 d) g Ask (asked_reply result)
ask_refused why did stands by_part by_model = grind arith

asked_ok : {T : Type 0} (result : Result T Refusal) → IsOk result → asked_reply result ≡ Asked
asked_ok x ok = grind arith

-- the taken buffer is used
ask_done : {T : Type 0} {m1 m2 : Pages} {p1 p2 : Part} {d : DriverState}
    {g : Guest} (figures : Figures) {result : Result T Refusal} → g.buffer ≡ BufferTaken figures
    → AsksBy m1 m2 p1 p2 result → Honest m1 p1 d g → IsRunning m1 p1 d g → ask_refusal p1 ≡ None
    → refusal_of g Ask ≡ None → StepsAlone (Honest m2 p2 d) g Ask (asked_reply result)
ask_done {m1} {m2} {p1} {p2} {d} {g} figures {result} is did stands run free_part free =
    let ties = stands.ties in
    let r : Request = record { head = 0; pages = []; visited = 0 } in
    let L : StatisticsBuffer → Type 0 = λ b. BufferLine m1 d.statistics p1.statistics b in
    let line : L (BufferTaken figures) = subst L is run.statistics in
    let taken : taken_at 2 0 p1 ≡ Some r =
    ap (λ (l : List Request). slice_get l 0) line.remembers in
    let adds = same_end 2 p1.statistics.next_avail p1.statistics.next_used
    d.statistics line.stands.layout (ties.parts.device.size ∙ sym run.statistics_size)
    (did.memory r free_part taken) in
    let size = g.config.queue_size in let used_page = d.statistics.layout.used.page in
    let at = (ring_parts 2 d.statistics line.stands.sized line.stands.layout).used in
    let same : SamePages
    (reserved_pages size) m1 m2 = used_same (ring_low 2 used_page run.statistics_size at) adds in
    let still = others_run 2 run (others_same used_page (sizes_of run) (ring_as 2 used_page
    run.statistics_size at) (λ p ne. adds.puts.rest.others p (ne, (ne, tt)))) same.behind in
    let used = buffer_used figures line adds in
    let new : Guest = record g { buffer = BufferDone figures } in
    let A : StatisticsBuffer → Type 0 = λ b. ReturnsBuffer b g Asked new in
    let step = honest_performed g Ask [] Asked new free (refl, subst A (sym is) (refl, refl)) in
    let after : Part = using 2 0 p1 in
    let there : Ties m2 after d new = record {
      parts = ties.parts;
      pages = pages_same same ties.pages;
      queues = inr (assumption (still.inflate refl, still.deflate refl, still.report refl));
    } in
    subst (StepsAlone (Honest m2 p2 d) g Ask) (sym (asked_ok result (did.answers free_part)))
    (steps_alone stands step (ties_same refl (did.part free_part) refl there) refl)

-- the buffer that a device remembers
taken_is : (b : StatisticsBuffer) → is_some (slice_get (taken_requests b) 0) ≡ is_taken b
taken_is b = grind arith

not_free : (g : Guest) {b : StatisticsBuffer}
    → g.buffer ≡ b → is_taken b ≡ false → refusal_of g Ask ≡ None → ⊥
not_free g is other free = grind arith

pub ask_step : {T : Type 0} {m1 m2 : Pages} {p1 p2 : Part}
    {d : DriverState} {g : Guest} {result : Result T Refusal} → AsksBy m1 m2 p1 p2 result
    → Honest m1 p1 d g → StepsAlone (Honest m2 p2 d) g Ask (asked_reply result)
ask_step {m1} {m2} {p1} {p2} {d} {g} {result} did stands = let device = stands.ties.parts.device in
    by_state Ask (ask_refusal p1) stands.ties.queues (ask_idle p1 g device.status) (λ run. ask_same
    p1 g device.status (ap (λ (l : List Request). is_some (slice_get l 0)) run.statistics.remembers
    ∙ taken_is g.buffer)) (λ why. ask_refused why did stands) (λ run. by_buffer g.buffer refl run)
  where
    by_buffer : (b : StatisticsBuffer) → g.buffer ≡ b → IsRunning m1 p1 d g → ask_refusal p1 ≡ None
        → refusal_of g Ask ≡ None → StepsAlone (Honest m2 p2 d) g Ask (asked_reply result)
    by_buffer (BufferTaken figures) is run by_part free =
        ask_done figures is did stands run by_part free
    by_buffer NoBuffer is run by_part free = absurd (not_free g is refl free)
    by_buffer (BufferPosted figures) is run by_part free = absurd (not_free g is refl free)
    by_buffer (BufferDone figures) is run by_part free = absurd (not_free g is refl free)
