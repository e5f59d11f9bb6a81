-- Driver and model refuse the same reaps; what is left to prove of a reap that isn't refused.
use Rattle.std.proofs.Common.{◌≡◌, ℕ, Bool, true, false, not, List, [], ◌∷◌, Result, Ok, Err}
use Rattle.std.proofs.Common.{Option, Some, None, is_err, drop, sym, ◌∙◌, ap, subst, inl, inr}
use Rattle.{std.specs.Prelude.refl, vb_driver.specs.declared.answers.Reaped.Reaped as ReapedRequest}
use Rattle.vb_model.specs.{declared.calls.Call.TheVariants.Reap, Refusals.{causes, refusal_of}}
use Rattle.vb_virtio.specs.declared.refusals.Refusal.{Refusal}
use Rattle.vb_virtio.specs.declared.refusals.Refusal.TheVariants.{RingBroken, NoQueue, NotReady}
use Rattle.vb_virtio.specs.declared.refusals.Refusal.TheVariants.{NoFeature}
use Rattle.vb_virtio.specs.Queues.{Request, lacks_feature, is_queue_of_requests}
use Rattle.vb_virtio.specs.Status.{is_up}
use Rattle.vb_virtio.specs.FirstRefusal.{Cause, ◌⇒◌, first_refusal}
use Rattle.vb_model.specs.Guest.{Guest}
use Rattle.{vb_model.specs.Tables.reap_causes as causes_of_reap, vb_guest.specs.Steps.StepsAlone}
use Rattle.vb_ram.specs.Pages.{Pages}
use Rattle.{vb_ram.specs.Part.Part, vb_ring.specs.declared.driver.RingBroken.RingBroken as Broken}
use Rattle.{vb_ring.specs.Ends.{DriverEnd, used_answer}, vb_guest.specs.Stands.{Honest, IsRunning}}
use Rattle.vb_driver.specs.{Calls.{ReapsBy, ring_of, next_of, after_refusal}, State.DriverState}
use Rattle.vb_driver.specs.Answers.{negotiated, reap_causes, is_ring_broken}
use Rattle.vb_guest.{specs.Replies.reaped_reply, proofs.Closing.{first_holds, refused_alone}}
use Rattle.vb_guest.proofs.{Reaping.used_next, SameRefusals.{IsIdleStatus, at_both, last_cause}}

-- where the ring isn't broken
reap_same : (m : Pages) (p : Part) (d : DriverState) (g : Guest)
    (q : ℕ) (ring : DriverEnd) (o : Option ℕ) → p.status ≡ g.status → d.features ≡ g.features
    → used_answer m ring ≡ Ok o → first_refusal (reap_causes m p d ring q) ≡ refusal_of g (Reap q)
reap_same m p d g q ring o status features answer =
    let whole : is_ring_broken m ring ≡ false =
    ap (λ (r : Result (Option ℕ) Broken). is_err r) answer in
    last_cause (causes_of_reap q (negotiated d p)) RingBroken whole ∙ ap (λ (s : ℕ). first_refusal
    (causes_of_reap q (record { status = s; features = d.features }))) status ∙ ap (λ
    (f : ℕ). first_refusal (causes_of_reap q (record { status = g.status; features = f }))) features

-- a queue of requests before an initialisation
not_up : {b : Bool} (s : ℕ) (rest : List Cause) → b ≡ true → IsIdleStatus s
    → first_refusal ((not b ⇒ NoQueue) ∷ (not (is_up s) ⇒ NotReady) ∷ rest) ≡ Some NotReady
not_up s rest there down =
    let P : ℕ → Type 0 = λ k. first_refusal ((not (is_up k) ⇒ NotReady) ∷ rest) ≡ Some NotReady in
    ap (λ (c : Bool). first_refusal ((not c ⇒ NoQueue) ∷ (not (is_up s) ⇒ NotReady) ∷ rest)) there
    ∙ at_both P s down refl refl

reap_idle : (m : Pages) (p : Part) (d : DriverState) (g : Guest) (q : ℕ) (ring : DriverEnd)
    → is_queue_of_requests q ≡ true → p.status ≡ g.status → IsIdleStatus g.status → (first_refusal
    (reap_causes m p d ring q) ≡ Some NotReady) × (refusal_of g (Reap q) ≡ Some NotReady)
reap_idle m p d g q ring there same down = (
  not_up p.status ((lacks_feature d.features q ⇒ NoFeature)
      ∷ (is_ring_broken m ring ⇒ RingBroken) ∷ []) there (subst IsIdleStatus (sym same) down),
  not_up g.status ((lacks_feature g.features q ⇒ NoFeature) ∷ []) there down,
)

-- the model names no broken ring
pub never_broken : (a b c : Bool)
    → first_refusal ((a ⇒ NoQueue) ∷ (b ⇒ NotReady) ∷ (c ⇒ NoFeature) ∷ []) ≡ Some RingBroken → ⊥
never_broken true b c e = absurd cc
never_broken false true c e = absurd cc
never_broken false false true e = absurd cc
never_broken false false false e = absurd cc

pub unfailed : (why : Refusal) {p : Part} → (why ≡ RingBroken → ⊥) → after_refusal why p ≡ p
unfailed RingBroken other = absurd (other refl)
unfailed _ other = refl

reap_refused : {m1 m2 : Pages} {p1 p2 : Part} {d1 d2 : DriverState}
    {g : Guest} {q : ℕ} (why : Refusal) → ReapsBy m1 m2 p1 p2 d1 d2 q (Err why) → Honest m1 p1 d1 g
    → first_refusal (reap_causes m1 p1 d1 (ring_of q d1) q) ≡ refusal_of g (Reap q)
    → StepsAlone (Honest m2 p2 d2) g (Reap q) (reaped_reply (Err why))
reap_refused {g} {q} why did stands same =
    let by_model : refusal_of g (Reap q) ≡ Some why = sym (did.refusal ∙ same) in
    refused_alone stands by_model did.mem
    (did.failed ∙ unfailed why (λ e. never_broken (not (is_queue_of_requests q))
    (not (is_up g.status)) (lacks_feature g.features q) (by_model ∙ ap Some e))) did.refused

-- both refuse for the same reason
refused_by_both : {m1 m2 : Pages} {p1 p2 : Part} {d1 d2 : DriverState}
    {g : Guest} {q : ℕ} (why : Refusal) (result : Result (Option ReapedRequest) Refusal)
    → ReapsBy m1 m2 p1 p2 d1 d2 q result → Honest m1 p1 d1 g
    → first_refusal (reap_causes m1 p1 d1 (ring_of q d1) q) ≡ Some why → refusal_of g (Reap q)
    ≡ Some why → StepsAlone (Honest m2 p2 d2) g (Reap q) (reaped_reply result)
refused_by_both why (Ok got) did stands by_driver by_model =
    absurd (let wrong = did.refusal ∙ by_driver in cc)
refused_by_both why (Err said) did stands by_driver by_model =
    reap_refused said did stands (by_driver ∙ sym by_model)

-- no such queue
pub reap_no_queue : {m1 m2 : Pages} {p1 p2 : Part}
    {d1 d2 : DriverState} {g : Guest} {q : ℕ} {result : Result (Option ReapedRequest) Refusal}
    → is_queue_of_requests q ≡ false → ReapsBy m1 m2 p1 p2 d1 d2 q result
    → Honest m1 p1 d1 g → StepsAlone (Honest m2 p2 d2) g (Reap q) (reaped_reply result)
reap_no_queue {m1} {p1} {d1} {g} {q} {result} none did stands = refused_by_both NoQueue result
    did stands (first_holds NoQueue (drop 1 (reap_causes m1 p1 d1 (ring_of q d1) q)) (ap not none))
    (first_holds NoQueue (drop 1 (causes g (Reap q))) (ap not none))

-- a reap of a queue of requests, of which these are used, is a step where one that isn't refused is
pub reap_by : {m1 m2 : Pages} {p1 p2 : Part} {d1 d2 : DriverState}
    {g : Guest} {q : ℕ} (done : List Request) {result : Result (Option ReapedRequest) Refusal}
    → is_queue_of_requests q ≡ true → ReapsBy m1 m2 p1 p2 d1 d2 q result → Honest m1 p1 d1 g
    → (IsRunning m1 p1 d1 g → used_answer m1 (ring_of q d1) ≡ Ok (used_next done))
    → ((got : Option ReapedRequest) → next_of got ≡ used_next done
    → ReapsBy m1 m2 p1 p2 d1 d2 q (Ok got) → used_answer m1 (ring_of q d1) ≡ Ok (used_next done)
    → IsRunning m1 p1 d1 g → refusal_of g (Reap q) ≡ None → StepsAlone (Honest m2 p2 d2) g (Reap q)
    (reaped_reply (Ok got))) → StepsAlone (Honest m2 p2 d2) g (Reap q) (reaped_reply result)
reap_by {m1} {m2} {p1} {p2} {d1} {d2} {g} {q} done {result} there did stands says performed =
    elim stands.ties.queues [
      | inl idle ↦
          let both = reap_idle m1 p1 d1 g q (ring_of q d1) there stands.ties.parts.device.status
          idle.state in
          refused_by_both NotReady result did stands both.0 both.1
      | inr run ↦
          up result did run (says run) (reap_same m1 p1 d1 g q (ring_of q d1) (used_next done)
          stands.ties.parts.device.status stands.ties.parts.driver.accepted (says run))
    ] where
      up : (result : Result (Option ReapedRequest) Refusal) → ReapsBy m1 m2 p1 p2 d1 d2 q result
          → IsRunning m1 p1 d1 g → used_answer m1 (ring_of q d1) ≡ Ok (used_next done)
          → first_refusal (reap_causes m1 p1 d1 (ring_of q d1) q) ≡ refusal_of g (Reap q)
          → StepsAlone (Honest m2 p2 d2) g (Reap q) (reaped_reply result)
      up (Err why) did run answer same = reap_refused why did stands same
      up (Ok got) did run answer same =
          let next : next_of got ≡ used_next done = (let e = sym did.next ∙ answer in cc) in
          performed got next did answer run (sym (did.refusal ∙ same))
