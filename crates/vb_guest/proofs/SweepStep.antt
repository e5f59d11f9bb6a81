-- A guest's sweep is a step of the definitions.
use Rattle.std.proofs.Common.{◌≡◌, ℕ, ◌<◌, ◌≤◌, Bool, true, false, List, [], ◌∷◌, All}
use Rattle.std.proofs.Common.{Result, Option, Some, None, is_some, sym, ◌∙◌, ap, subst, arith, inr}
use Rattle.{std.specs.Prelude.refl, vb_model.specs.{Consistent.IsConsistent, Refusals.refusal_of}}
use Rattle.vb_model.specs.{Pages.{place_of, is_reserved}, Guest.{Guest, is_ballooned, unbacked}}
use Rattle.vb_virtio.specs.Layout.{reserved_pages}
use Rattle.vb_virtio.specs.declared.refusals.Refusal.{Refusal}
use Rattle.vb_model.specs.declared.replies.Reply.{Reply}
use Rattle.vb_model.specs.declared.replies.Reply.TheVariants.{Swept}
use Rattle.vb_model.specs.declared.calls.Call.TheVariants.{Sweep}
use Rattle.{vb_model.proofs.PageSteps.naming-all, vb_ram.specs.{Pages.{Pages, frame_at}, Part.Part}}
use Rattle.vb_device.specs.{Discards.discarded, Conditions.sweep_refusal, Calls.SweepsBy}
use Rattle.{vb_driver.specs.State.DriverState, vb_guest.proofs.Offered.high_page}
use Rattle.vb_guest.proofs.{Losing.steps_losing, PagesKept.{pages_discarded, page_undiscarded}}
use Rattle.vb_guest.proofs.{Running.runs_on, SameRefusals.{by_state, sweep_same, sweep_idle}}
use Rattle.vb_guest.proofs.{Apart.SameReserved, Handing.{handed_back, loose_none, not_among}}
use Rattle.vb_guest.{proofs.Closing.{honest_performed, ties_same}, specs.Replies.swept_reply}
use Rattle.vb_guest.specs.{Steps.StepsFreeing, Stands.{Honest, Ties, IsRunning}}

all_one : (P : ℕ → Type 0) (x : ℕ) → P x → All P (x ∷ [])
all_one x0 x h u d lt = grind arith

-- ---- refusals

sweep_refused : {m1 m2 : Pages} {p1 p2 : Part} {d : DriverState} {g : Guest}
    {page : ℕ} (why : Refusal) {result : Result Bool Refusal} → SweepsBy page m1 m2 p1 p2 result
    → Honest m1 p1 d g → sweep_refusal page p1 ≡ Some why → refusal_of g (Sweep page) ≡ Some why
    → StepsFreeing (Honest m2 (handed_back p2) d) p2.loose g (Sweep page) (swept_reply result)
sweep_refused why did stands by_part by_model = grind arith

-- ---- a ballooned page

-- no reserved page is ballooned
pub ballooned_free : (g : Guest) (page : ℕ) → IsConsistent g → is_ballooned g.ballooned page ≡ true
    → is_reserved (place_of g.places page) ≡ false
ballooned_free g page sound flag =
    grind (arith, naming-all page g.inflate, naming-all page g.deflate)

sweep_done : {m1 m2 : Pages} {p1 p2 : Part} {d : DriverState}
    {g : Guest} {page : ℕ} {result : Result Bool Refusal} → SweepsBy page m1 m2 p1 p2 result
    → Honest m1 p1 d g → IsRunning m1 p1 d g → sweep_refusal page p1 ≡ None
    → refusal_of g (Sweep page) ≡ None → is_ballooned g.ballooned page ≡ true
    → StepsFreeing (Honest m2 (handed_back p2) d) p2.loose g (Sweep page) (swept_reply result)
sweep_done {m1} {m2} {p1} {p2} {d} {g} {page} did stands run by_part by_model flag =
    let ties = stands.ties in let n = g.config.pages in let one : List ℕ = page ∷ [] in
    let bare = discarded one m1 in
    let high = high_page g page stands.orderly (ballooned_free g page stands.consistent flag) in
    let size = g.config.queue_size in let least = reserved_pages size in
    let above : All (λ p. least ≤ p) one = all_one (λ p. least ≤ p) page high.0 in
    let low : SameReserved m1 bare size =
    λ p lt. page_undiscarded one m1 p (not_among least one p above lt) in
    let new : Guest = unbacked one g in let reply : Reply = Swept (is_some (frame_at m1 page)) in
    let step = honest_performed g (Sweep page) [] reply new by_model
    (refl, (ap (λ (o : Option ℕ). Swept (is_some o)) (ties.pages.behind page), refl)) in
    let there : Ties bare p1 d new = record {
      parts = ties.parts;
      pages = pages_discarded one ties.pages;
      queues = inr (let rests = runs_on run low in assumption);
    } in
    let part = did.part by_part in
    let same : handed_back p2 ≡ p1 = ap handed_back part ∙ loose_none ties.parts.device.loose in
    subst (λ x. StepsFreeing (Honest m2 (handed_back p2) d) p2.loose g (Sweep page) (swept_reply x))
    (sym (did.answer by_part)) (steps_losing p2 one stands step (ties_same (did.memory by_part)
    same refl there) refl (did.loose by_part) (refl, tt) (all_one (λ p. p < n) page high.1))

-- a sweep that isn't refused
flag_of : (g : Guest) (page : ℕ) → refusal_of g (Sweep page) ≡ None
    → is_ballooned g.ballooned page ≡ true
flag_of g page free = grind arith

pub sweep_step : {m1 m2 : Pages} {p1 p2 : Part} {d : DriverState} {g : Guest}
    {page : ℕ} {result : Result Bool Refusal} → SweepsBy page m1 m2 p1 p2 result → Honest m1 p1 d g
    → StepsFreeing (Honest m2 (handed_back p2) d) p2.loose g (Sweep page) (swept_reply result)
sweep_step {p1} {g} {page} did stands = let device = stands.ties.parts.device in
    by_state (Sweep page) (sweep_refusal page p1) stands.ties.queues
    (sweep_idle page p1 g device.status) (λ run. sweep_same
    page p1 g device.status device.features device.ballooned) (λ why. sweep_refused why did stands)
    (λ run by_part by_model. sweep_done did stands run by_part by_model (flag_of g page by_model))
