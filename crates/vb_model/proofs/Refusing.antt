-- A refusal changes nothing, but for an initialisation whose features are refused.
pub use Rattle.vb_model.proofs.Deeds.{is_refused}
use Rattle.vb_model.proofs.Deeds.{Has_served}
use Rattle.std.proofs.Common.{Bool, List, [], ap, false, inl, inr, refl, subst, sym, ℕ, ◌∙◌, ◌∷◌}
use Rattle.std.{proofs.Common.◌≡◌, specs.Prelude.{None, Option, Some}}
use Rattle.vb_model.proofs.{Cases.{match_cases, supplied}, Deeds.{Aimed, Allocated, Buffered, Deed}}
use Rattle.vb_model.proofs.Deeds.{Freed, Has_finished, Has_posted, Has_reaped, Has_scribbled, deed}
use Rattle.vb_model.proofs.Deeds.{Has_swept, Has_taken, Has_written, Initialised, Stayed, Visited}
use Rattle.vb_model.{proofs.Deeds.{Was_reset, is_refused}, specs.{Guest.Guest, HostEvents.Happens}}
use Rattle.vb_model.specs.{HostEvents.PlugsIn, HostRefusals.world_causes, Life.Negotiates}
use Rattle.vb_virtio.specs.Status.{feature_refusal}
use Rattle.vb_virtio.specs.FirstRefusal.{first_refusal}
use Rattle.vb_virtio.specs.declared.refusals.Refusal.{Refusal}
use Rattle.vb_model.specs.Life.{after_restart, lacking}
use Rattle.vb_model.specs.StepLaws.{IsUnchanged, RefusalsChangeNothing, RefusedEventsChangeNothing}
use Rattle.vb_model.specs.{StepLaws.with_features_refused, World.{World, guest_at, put_guest}}
use Rattle.vb_model.specs.declared.calls.{Call.{Call, TheVariants.Init}, Claim.Claim, Event.Event}
use Rattle.vb_model.specs.declared.calls.Event.TheVariants.{Balance, Frames as CountFrames, Plug}
use Rattle.vb_model.specs.declared.calls.Event.TheVariants.{Guest as OnGuest, Query as OnQuery}
use Rattle.vb_model.specs.declared.{calls.Event.TheVariants.{Restart, Unplug}, replies.Reply.Reply}
use Rattle.vb_model.specs.declared.replies.Reply.TheVariants.{Done, Refused}

pub not_this : {A : Type 0} (refusal : Refusal) (reply : Reply) → Refused refusal ≡ reply
    → is_refused reply ≡ false → A
not_this refusal reply e f = absurd cc

same_refusal : (a b : Refusal) → Refused a ≡ Refused b → b ≡ a
same_refusal a b e = cc

negotiates_refuse : (wanted : ℕ) (o : Option Refusal) (g : Guest) (claims : List Claim)
    (refusal : Refusal) (new : Guest) → feature_refusal wanted ≡ o
    → Negotiates o wanted (supplied (lacking g) claims g) (Refused refusal) new
    → IsUnchanged (Init wanted) refusal claims g new
negotiates_refuse wanted None g claims refusal new e s = not_this refusal _ s.0 refl
negotiates_refuse wanted (Some r) g claims refusal new e s =
    let same : r ≡ refusal = same_refusal refusal r s.0 in inr (
      wanted,
      refl,
      e ∙ ap (λ (x : Refusal). some_refusal x) same,
      s.1 ∙ ap (λ (x : Refusal). with_features_refused wanted x claims g) same,
    )
  where
    some_refusal : Refusal → Option Refusal
    some_refusal x = Some x

-- each answer but those two is none
refuses : (call : Call) (g : Guest) (claims : List Claim) (refusal : Refusal) (new : Guest)
    → Deed call g claims (Refused refusal) new → IsUnchanged call refusal claims g new
refuses call g claims refusal new (Stayed why e) = inl e
refuses call g claims refusal new (Initialised wanted is passed n) =
    subst (λ (c : Call). IsUnchanged c refusal claims g new) (sym is)
    (negotiates_refuse wanted (feature_refusal wanted) g claims refusal new refl n)
refuses call g claims refusal new (Aimed n is told e) = not_this refusal _ told refl
refuses call g claims refusal new (Was_reset told e) = not_this refusal _ told refl
refuses call g claims refusal new (Allocated b small free told e) = not_this refusal _ told refl
refuses call g claims refusal new (Freed b held told e) = not_this refusal _ told refl
refuses call g claims refusal new (Has_posted kind head pages p told e) =
    not_this refusal _ told refl
refuses call g claims refusal new (Has_reaped kind r rest is done told e) =
    not_this refusal _ told refl
refuses call g claims refusal new (Has_taken kind r rest posted told e) =
    not_this refusal _ told refl
refuses call g claims refusal new (Buffered b last has told e) = absurd cc
refuses call g claims refusal new (Visited kind page named other told e) =
    not_this refusal _ told refl
refuses call g claims refusal new (Has_finished kind i r is told e) = not_this refusal _ told refl
refuses call g claims refusal new (Has_served kind chains s told) = not_this refusal _ told refl
refuses call g claims refusal new (Has_swept page flag tells told e) = not_this refusal _ told refl
refuses call g claims refusal new (Has_written page offset bytes is passed are none w) =
    not_this refusal _ w.0 refl
refuses call g claims refusal new (Has_scribbled page offset bytes is passed s) =
    not_this refusal _ s.answered refl

pub refusals_change_nothing : RefusalsChangeNothing
refusals_change_nothing g call claims refusal new s =
    refuses call g claims refusal new (deed g call claims (Refused refusal) new s)

-- ---- events of the world

happens_refuses : (event : Event) (w : World) (refusal : Refusal) (v : World)
    → ((n : ℕ) (call : Call) → event ≡ OnGuest n call → ⊥) → Happens event w (Refused refusal) v
    → v ≡ w
happens_refuses (Plug size) w refusal v other s = plugs w.spares s where
  plugs : (spares : List Bool) → PlugsIn size spares w (Refused refusal) v → v ≡ w
  plugs [] s = absurd s
  plugs (paced ∷ rest) (inl none) = none.1
  plugs (paced ∷ rest) (inr p) = not_this refusal _ p.3 refl
happens_refuses (Unplug n) w refusal v other s = not_this refusal _ s.0 refl
happens_refuses (Restart n) w refusal v other s = elim (match_cases (guest_at w.guests n) ⊥
    (λ g. (Refused refusal ≡ Done) × (v ≡ put_guest n (Some (after_restart g)) w)) s) [
      | inl none ↦ absurd none.1
      | inr g ↦ not_this refusal _ g.2.0 refl
    ]
happens_refuses (OnGuest n call) w refusal v other s = absurd (other n call refl)
happens_refuses (OnQuery n query) w refusal v other s = s.1
happens_refuses (Balance floor) w refusal v other s = s.1
happens_refuses CountFrames w refusal v other s = s.1

pub refused_events_change_nothing : RefusedEventsChangeNothing
refused_events_change_nothing w event refusal v other s =
    elim (match_cases (first_refusal (world_causes w event)) (Happens event w (Refused refusal) v)
    (λ r. (Refused refusal ≡ Refused r)
    × (v ≡ w)) s) [ inl p ↦ happens_refuses event w refusal v other p.1 | inr r ↦ r.2.1 ]
