-- What an accepted write or negotiation says.
use Rattle.std.proofs.Common.{◌≡◌, ℕ, Bool, true, false, not, eqb, ◌&&◌, List, [], ◌∷◌, None, cond}
use Rattle.std.proofs.Common.{refl, subst, IsTrue, ◌⊎◌, inl, inr}
use Rattle.std.proofs.lemmas.Bool.{false≢true, eqb-true}
use Rattle.vb_virtio.specs.declared.refusals.Refusal.TheVariants.{ClearsBit, OutOfOrder}
use Rattle.vb_virtio.specs.declared.refusals.Refusal.TheVariants.{FeatureNotOffered, VersionMissing}
use Rattle.vb_virtio.specs.declared.negotiation.TheConstants.{OFFERED_FEATURES}
use Rattle.vb_virtio.specs.Features.{version_1}
use Rattle.vb_virtio.specs.FirstRefusal.{◌⇒◌, first_refusal}
use Rattle.vb_virtio.specs.Status.{contains, adds, is_out_of_order, status_causes, features_ok}
use Rattle.vb_status.specs.Agreement.{StatusRequest, Write, Negotiate, Agreement}
use Rattle.vb_status.specs.Agreement.{refusal_of_request, after_request, Leads, unplugged}

-- the status has FEATURES_OK only with the feature that it asks for
abbrev pub HasFeatures : Agreement → Type 0
HasFeatures a = contains a.status features_ok ≡ true → IsTrue (version_1 a.features)

-- a write whose tests all fail
accepted : (clears out_of_order adding version : Bool) → first_refusal ((clears ⇒ ClearsBit)
    ∷ (out_of_order ⇒ OutOfOrder) ∷ (cond adding ((not version ⇒ VersionMissing) ∷ []) [])) ≡ None
    → (clears ≡ false) × (out_of_order ≡ false) × (adding ≡ true → version ≡ true)
accepted true o a v h = absurd (cc h)
accepted false true a v h = absurd (cc h)
accepted false false false v h = (refl, refl, λ e. absurd (false≢true e))
accepted false false true false h = absurd (cc h)
accepted false false true true h = (refl, refl, λ e. refl)

pub accepted_write : (status negotiated write : ℕ)
    → first_refusal (status_causes status negotiated write) ≡ None
    → (not (contains write status) ≡ false) × (is_out_of_order status write ≡ false)
    × (adds status write features_ok ≡ true → version_1 negotiated ≡ true)
accepted_write s f w h =
    accepted (not (contains w s)) (is_out_of_order s w) (adds s w features_ok) (version_1 f) h

accepted_negotiation : (at_place offered : Bool) → first_refusal ((not at_place ⇒ OutOfOrder)
    ∷ (not offered ⇒ FeatureNotOffered) ∷ []) ≡ None → at_place ≡ true
accepted_negotiation false o h = absurd (cc h)
accepted_negotiation true o h = refl

added_or_there : (old new : Bool) → new ≡ true → (old ≡ true) ⊎ ((new && not old) ≡ true)
added_or_there true new e = inl refl
added_or_there false new e = inr (rw e refl)

write_keeps : (a : Agreement) (w : ℕ) (reset : Bool)
    → cond reset None (first_refusal (status_causes a.status a.features w)) ≡ None → HasFeatures a
    → HasFeatures (cond reset (record { status = 0; features = 0 }) (record a { status = w }))
write_keeps a w true h s = λ e. absurd (false≢true e)
write_keeps a w false h s = λ e.
    elim (added_or_there (contains a.status features_ok) (contains w features_ok) e) [
      | inl there ↦ s there
      | inr added ↦ (accepted_write a.status a.features w h).2 added
    ]

request_keeps : (a : Agreement) (request : StatusRequest) → refusal_of_request a request ≡ None
    → HasFeatures a → HasFeatures (after_request a request)
request_keeps a (Write w) h s = write_keeps a w (eqb w 0) h s
request_keeps a (Negotiate wanted) h s =
    let at_three : a.status ≡ 3 = eqb-true a.status 3
    (accepted_negotiation (eqb a.status 3) (contains OFFERED_FEATURES wanted) h) in
    λ e. absurd (false≢true (subst (λ (n : ℕ). contains n features_ok ≡ true) at_three e))

pub requests_keep : (requests : List StatusRequest) (a last : Agreement) → Leads a requests last
    → HasFeatures a → HasFeatures last
requests_keep [] a last h s = subst HasFeatures h s
requests_keep (request ∷ requests) a last h s =
    requests_keep requests (after_request a request) last h.1 (request_keeps a request h.0 s)

pub at_first : HasFeatures unplugged
at_first = λ e. absurd (false≢true e)
