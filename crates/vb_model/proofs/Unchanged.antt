-- What calls leave alone: the target, but for `target`; the configuration; and whether the guest is
-- rogue, but for a scribble.
use Rattle.std.proofs.Common.{List, ap, arith, inl, inr, refl, true, ℕ, ◌∙◌, ◌≡◌, ◌≢◌, ◌⊎◌}
use Rattle.std.specs.Prelude.{Option}
use Rattle.vb_model.specs.declared.calls.Call.TheVariants.{Serve}
use Rattle.vb_model.proofs.{Cases.by_kind, Outcomes.{Begun, Cleared, Emptied, Outcome, Put}}
use Rattle.vb_model.{proofs.Outcomes.{Retargeted, Shuffled, Turned, outcome}, specs.Guest.Guest}
use Rattle.vb_model.specs.{Rogue.{GuestStep, IsRogueAfter, target_after}, Step.HonestStep}
use Rattle.vb_model.specs.declared.calls.Call.{Call, TheVariants.{Scribble, SetTarget}}
use Rattle.vb_model.specs.declared.{calls.Claim.Claim, replies.Reply.Reply}

-- a guest with another target, with the same configuration, that is as honest as before, or rogue
-- for this reason
pub record Keeps (Reason : Type 0) (target : ℕ) (g new : Guest) : Type 0 where
  pub aimed : new.target ≡ target
  pub config : new.config ≡ g.config
  pub rogue : (new.rogue ≡ g.rogue) ⊎ (Reason × IsRogueAfter g new)

abbrev pub IsScribble : Call → Type 0
IsScribble call = (page offset : ℕ) × (bytes : List ℕ) × (call ≡ Scribble page offset bytes)

-- where these three are those of a guest that is the new one
same_three : {Reason : Type 0} (g new changed : Guest) → new ≡ changed → changed.target ≡ g.target
    → changed.config ≡ g.config → changed.rogue ≡ g.rogue → Keeps Reason g.target g new
same_three g new changed e t c r = record {
  aimed = ap (λ (x : Guest). x.target) e ∙ t;
  config = ap (λ (x : Guest). x.config) e ∙ c;
  rogue = inl (ap (λ (x : Guest). x.rogue) e ∙ r);
}

-- frames that enter change none of the three
keeps_supplied : {Reason : Type 0} (g new : Guest) (frames : List (Option ℕ))
    → Keeps Reason g.target (record g { frames = frames }) new → Keeps Reason g.target g new
keeps_supplied {Reason} g new frames k =
    record { aimed = k.aimed; config = k.config; rogue = same k.rogue }
  where
    same : (new.rogue ≡ g.rogue) ⊎ (Reason × IsRogueAfter (record g { frames = frames }) new)
        → (new.rogue ≡ g.rogue) ⊎ (Reason × IsRogueAfter g new)
    same (inl e) = inl e
    same (inr (why, r)) = inr (
      why,
      record { still = r.still; config = r.config; unreserved = r.unreserved; sizes = r.sizes },
    )

keeps : (call : Call) (g : Guest) (claims : List Claim) (reply : Reply) (new : Guest)
    → ((n : ℕ) → call ≢ SetTarget n) → Outcome call g claims reply new
    → Keeps (IsScribble call) g.target g new
keeps call g claims reply new other (Shuffled e) = same_three g new _ e refl refl refl
keeps call g claims reply new other (Emptied pages why e) = same_three g new _ e refl refl refl
keeps call g claims reply new other (Retargeted n is e) = absurd (other n is)
keeps call g claims reply new other (Cleared e) = same_three g new _ e refl refl refl
keeps call g claims reply new other (Begun wanted is passed e) = same_three g new _ e refl refl refl
keeps call g claims reply new other (Put page offset bytes is passed are none w) =
    same_three g new _ w.1 refl refl refl
keeps call g claims reply new other (Turned page offset bytes is passed s) = keeps_supplied g new _
    (record {
      aimed = ap (λ (x : Guest). x.target) s.memory;
      config = s.state.config;
      rogue = inr ((page, offset, bytes, is), s.state);
    })

aims : (n : ℕ) (g : Guest) (claims : List Claim) (reply : Reply) (new : Guest)
    → HonestStep g (SetTarget n) claims reply new → Keeps (IsScribble (SetTarget n)) n g new
aims n g claims reply new s = grind arith

honest_keep : (call : Call) (g : Guest) (claims : List Claim) (reply : Reply) (new : Guest)
    → HonestStep g call claims reply new
    → Keeps (IsScribble call) (target_after call g.target) g new
honest_keep (SetTarget n) g claims reply new s = aims n g claims reply new s
honest_keep call g claims reply new s =
    keeps _ g claims reply new (λ n e. cc) (outcome g _ claims reply new s)

pub serve_stays_honest : (q : ℕ) (g : Guest) (claims : List Claim) (reply : Reply) (new : Guest)
    → HonestStep g (Serve q) claims reply new → new.rogue ≡ g.rogue
serve_stays_honest q g claims reply new s =
    elim (honest_keep (Serve q) g claims reply new s).rogue [
      | inl e ↦ e
      | inr k ↦ absurd (let bad = k.0.3 in cc)
    ]

-- why a guest may be rogue after a call
abbrev pub MayBeRogue : Guest → Call → Type 0
MayBeRogue g call = (g.rogue ≡ true) ⊎ IsScribble call

-- the target of a call that isn't performed: no call that sets one is refused
pub step_keeps : (g : Guest) (call : Call) (claims : List Claim) (reply : Reply) (new : Guest)
    → GuestStep g call claims reply new
    → Keeps (MayBeRogue g call) (target_after call g.target) g new
step_keeps g call claims reply new s = by_kind g call claims reply new s
    (λ e r. record { aimed = r.target; config = r.stays.config; rogue = inr (inl e, r.stays) })
    (λ honest p. widen (honest_keep call g claims reply new p))
  where
    widen : Keeps (IsScribble call) (target_after call g.target) g new
        → Keeps (MayBeRogue g call) (target_after call g.target) g new
    widen k = record { aimed = k.aimed; config = k.config; rogue = wider k.rogue } where
      wider : (new.rogue ≡ g.rogue) ⊎ (IsScribble call × IsRogueAfter g new)
          → (new.rogue ≡ g.rogue) ⊎ (MayBeRogue g call × IsRogueAfter g new)
      wider (inl e) = inl e
      wider (inr (why, r)) = inr (inr why, r)
