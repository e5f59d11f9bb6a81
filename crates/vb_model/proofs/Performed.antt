-- What a call does that isn't refused, call by call: three claim frames, and the others none.
use Rattle.std.proofs.Common.{◌≡◌, ℕ, refl, List, [], ◌∷◌}
use Rattle.std.specs.Prelude.{Option, None, Some, MatchOption}
use Rattle.vb_model.specs.Driver.{given, claim_refusal, AreClaimsFor, pages_needed, Written}
use Rattle.vb_virtio.specs.FirstRefusal.{first_refusal}
use Rattle.vb_virtio.specs.Status.{feature_causes}
use Rattle.vb_virtio.specs.declared.refusals.Refusal.{Refusal}
use Rattle.vb_model.specs.Driver.{Scribbled}
use Rattle.vb_model.specs.Guest.{Guest, all_backed}
use Rattle.vb_model.specs.Life.{lacking, Negotiates}
use Rattle.vb_model.specs.Refusals.{refusal_of}
use Rattle.vb_model.specs.{Step.{Does, Performs, HonestStep}, declared.calls.Call.Call}
use Rattle.vb_model.specs.declared.calls.{Call.TheVariants.{Init, Write, Scribble}, Claim.Claim}
use Rattle.vb_model.specs.declared.replies.Reply.{Reply}
use Rattle.vb_model.specs.declared.replies.Reply.TheVariants.{Refused}

-- these pages' claims were given and the rest was done, or one is the reply and nothing is changed
abbrev pub Supplying : (pages : List ℕ) (g : Guest) (claims : List Claim) (reply : Reply)
    (new : Guest) (Rest : Guest → Type 0) → Type 0
Supplying pages g claims reply new Rest = AreClaimsFor pages claims × MatchOption
    (claim_refusal claims) (Rest (record g { frames = all_backed pages (given claims) g.frames }))
    (λ refusal. (reply ≡ Refused refusal) × (new ≡ g))

abbrev pub Performed : Call → Guest → List Claim → Reply → Guest → Type 0
Performed (Init wanted) g claims reply new = Supplying (lacking g) g claims reply new
    (λ m. Negotiates (first_refusal (feature_causes wanted)) wanted m reply new)
Performed (Write page offset bytes) g claims reply new = Supplying
    (pages_needed page bytes g) g claims reply new (λ m. Written page offset bytes m reply new)
Performed (Scribble page offset bytes) g claims reply new =
    Supplying (pages_needed page bytes g) g claims reply new (λ m. Scribbled m reply new)
Performed call g claims reply new = (claims ≡ []) × Does call g reply new

unclaimed : (P : Type 0) (Q : Refusal → Type 0) (claims : List Claim)
    → (claims ≡ []) × MatchOption (claim_refusal claims) P Q → (claims ≡ []) × P
unclaimed P Q [] s = (refl, s.1)
unclaimed P Q (claim ∷ claims) s = absurd (let e : claim ∷ claims ≡ [] = s.0 in cc)

pub performed : (call : Call) (g : Guest) (claims : List Claim) (reply : Reply) (new : Guest)
    → Performs call g claims reply new → Performed call g claims reply new
performed (Init wanted) g claims reply new s = s
performed (Write page offset bytes) g claims reply new s = s
performed (Scribble page offset bytes) g claims reply new s = s
performed call g claims reply new s = unclaimed _ _ claims s

claimed_none : (P : Type 0) (Q : Refusal → Type 0) (claims : List Claim)
    → (claims ≡ []) × P → (claims ≡ []) × MatchOption (claim_refusal claims) P Q
claimed_none P Q [] s = (refl, s.1)
claimed_none P Q (claim ∷ claims) s = absurd (let e : claim ∷ claims ≡ [] = s.0 in cc)

pub performs : (call : Call) (g : Guest) (claims : List Claim) (reply : Reply) (new : Guest)
    → Performed call g claims reply new → Performs call g claims reply new
performs (Init wanted) g claims reply new s = s
performs (Write page offset bytes) g claims reply new s = s
performs (Scribble page offset bytes) g claims reply new s = s
performs call g claims reply new s = claimed_none _ _ claims s

-- ---- a step

abbrev pub HonestCase : Guest → Call → List Claim → Reply → Guest → Type 0
HonestCase g call claims reply new =
    MatchOption (refusal_of g call) (Performed call g claims reply new)
    (λ refusal. (claims ≡ []) × (reply ≡ Refused refusal) × (new ≡ g))

either : (o : Option Refusal) (P P' : Type 0) (Q : Refusal → Type 0) → (P → P')
    → MatchOption o P Q → MatchOption o P' Q
either None P P' Q f s = f s
either (Some refusal) P P' Q f s = s

pub honest_case : (g : Guest) (call : Call) (claims : List Claim) (reply : Reply) (new : Guest)
    → HonestStep g call claims reply new → HonestCase g call claims reply new
honest_case g call claims reply new s =
    either (refusal_of g call) _ _ _ (λ p. performed call g claims reply new p) s

pub honest_step : (g : Guest) (call : Call) (claims : List Claim) (reply : Reply) (new : Guest)
    → HonestCase g call claims reply new → HonestStep g call claims reply new
honest_step g call claims reply new s =
    either (refusal_of g call) _ _ _ (λ p. performs call g claims reply new p) s
