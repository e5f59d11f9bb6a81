-- Frames enter by the claims for their pages alone; and where too few are left, the call is refused.
use Rattle.std.proofs.Common.{Bool, List, [], ap, arith, cond, false, inl, inr, length, refl, subst}
use Rattle.std.proofs.Common.{suc, sym, true, ℕ, ◌<◌, ◌∙◌, ◌∷◌, ◌≡◌, ◌≤◌, ◌⊎◌}
use Rattle.std.{proofs.lemmas.Bool.eqb-true, specs.Prelude.{None, Option, Some, slice_get, ◌==◌}}
use Rattle.std.specs.Prelude.{◌||◌}
use Rattle.vb_model.proofs.{Cases.{by_kind, match_cases}, Frames.{backed_cases, frames_of}}
use Rattle.vb_model.proofs.{Frames.unbacked_loses, Outcomes.{Begun, Cleared, Emptied, Outcome, Put}}
use Rattle.vb_model.proofs.{Outcomes.{Retargeted, Shuffled, Turned, outcome}, Wanting.claims_needed}
use Rattle.vb_model.{proofs.Wanting.refused_claims, specs.Driver.{AreClaimsFor, claim_refusal}}
use Rattle.vb_model.specs.{Driver.{given, pages_needed}, Guest.{Guest, all_backed, backed}}
use Rattle.vb_model.specs.{Guest.frame_of, HostFrames.{Gives, IsOut}, Life.lacking}
use Rattle.vb_model.specs.{Refusals.refusal_of, Rogue.{GuestStep, LosesFrames, pages_to_back}}
use Rattle.vb_model.specs.{Rogue.unless_refused, Step.bare_pages, StepLaws.FramesEnterByClaims}
use Rattle.vb_virtio.specs.Tests.{is_in}
use Rattle.vb_virtio.specs.declared.refusals.Refusal.{Refusal}
use Rattle.vb_virtio.specs.declared.refusals.Refusal.TheVariants.{NoFrame, NoMemory}
use Rattle.vb_model.specs.StepLaws.{IsGiven, WantIsAnswered, WantOfFrames}
use Rattle.vb_model.specs.{World.World, declared.calls.{Call.Call, Claim.{Claim, TheVariants.Gave}}}
use Rattle.vb_model.specs.declared.calls.Claim.TheVariants.{GaveNoFrame, GaveNoMemory}
use Rattle.vb_model.specs.declared.replies.Reply.{Reply, TheVariants.Refused}

-- ---- frames enter by claims

-- the page's frame was there, or it was given for the page
abbrev Entered : Guest → List ℕ → List Claim → ℕ → ℕ → Type 0
Entered g pages claims page frame =
    (frame_of g.frames page ≡ Some frame) ⊎ IsGiven pages claims page frame

backed_at : (pages new : List ℕ) (frames : List (Option ℕ)) (page x : ℕ)
    → frame_of (all_backed pages new frames) page ≡ Some x → (frame_of frames page ≡ Some x)
    ⊎ ((i : ℕ) × (slice_get pages i ≡ Some page) × (slice_get new i ≡ Some x))
backed_at [] new frames page x h = inl h
backed_at (p ∷ pages) [] frames page x h = inl h
backed_at (p ∷ pages) (f ∷ new) frames page x h =
    elim (backed_at pages new (backed p f frames) page x h) [
      | inr k ↦ inr (suc k.0, k.1, k.2)
      | inl k ↦ elim (backed_cases p f frames page x k) [
        | inl e ↦ inr (0, ap some (sym e.0), ap some (sym e.1))
        | inr old ↦ inl old
      ]
    ]
  where
    some : ℕ → Option ℕ
    some n = Some n

-- the frames are these, or fewer
enters : (pages : List ℕ) (claims : List Claim) (g new : Guest) (page frame : ℕ)
    → LosesFrames (all_backed pages (given claims) g.frames) new.frames
    → frame_of new.frames page ≡ Some frame → Entered g pages claims page frame
enters pages claims g new page frame moved h =
    backed_at pages (given claims) g.frames page frame (moved page frame h)

-- they are as they were
kept : (pages : List ℕ) (claims : List Claim) (g new : Guest) (page frame : ℕ) → new.frames
    ≡ g.frames → frame_of new.frames page ≡ Some frame → Entered g pages claims page frame
kept pages claims g new page frame same h =
    inl (subst (λ (frames : List (Option ℕ)). frame_of frames page ≡ Some frame) same h)

-- the claims of a call that isn't refused were for these pages
by_claims : (call : Call) (g : Guest) (claims : List Claim) (pages : List ℕ) (new : Guest)
    (page frame : ℕ) → bare_pages call g ≡ pages → refusal_of g call ≡ None
    → new.frames ≡ all_backed pages (given claims) g.frames → frame_of new.frames page ≡ Some frame
    → Entered g (pages_to_back call g) claims page frame
by_claims call g claims pages new page frame are passed e h =
    subst (λ o. Entered g (unless_refused o (bare_pages call g)) claims page frame) (sym passed)
    (subst (λ ps. Entered g ps claims page frame) (sym are)
    (backed_at pages (given claims) g.frames page frame
    (subst (λ (frames : List (Option ℕ)). frame_of frames page ≡ Some frame) e h)))

entered : (call : Call) (g : Guest) (claims : List Claim) (reply : Reply) (new : Guest)
    (page frame : ℕ) → Outcome call g claims reply new → frame_of new.frames page ≡ Some frame
    → Entered g (pages_to_back call g) claims page frame
entered call g claims reply new page frame (Shuffled e) h =
    kept (pages_to_back call g) claims g new page frame (ap frames_of e) h
entered call g claims reply new page frame (Emptied pages why e) h =
    inl (unbacked_loses pages g.frames page frame
    (subst (λ (frames : List (Option ℕ)). frame_of frames page ≡ Some frame) (ap frames_of e) h))
entered call g claims reply new page frame (Retargeted n is e) h =
    kept (pages_to_back call g) claims g new page frame (ap frames_of e) h
entered call g claims reply new page frame (Cleared e) h =
    kept (pages_to_back call g) claims g new page frame (ap frames_of e) h
entered call g claims reply new page frame (Begun wanted is passed e) h =
    by_claims call g claims (lacking g) new page frame (ap (λ (c : Call). bare_pages c g) is) passed
    (ap frames_of e) h
entered call g claims reply new page frame (Put p offset bytes is passed are none w) h =
    by_claims call g claims (pages_needed p bytes g) new page frame
    (ap (λ (c : Call). bare_pages c g) is) passed (ap frames_of w.1) h
entered call g claims reply new page frame (Turned p offset bytes is passed s) h =
    by_claims call g claims (pages_needed p bytes g) new page frame
    (ap (λ (c : Call). bare_pages c g) is) passed (ap frames_of s.memory) h

pub frames_enter : FramesEnterByClaims
frames_enter g call claims reply new s page frame h = by_kind g call claims reply new s
    (λ rogue r. elim (match_cases (claim_refusal claims)
    (LosesFrames (all_backed (pages_to_back call g) (given claims) g.frames) new.frames)
    (λ refusal. (reply ≡ Refused refusal) × (new.frames ≡ g.frames)) r.frames) [
      | inl m ↦ enters (pages_to_back call g) claims g new page frame m.1 h
      | inr m ↦ kept (pages_to_back call g) claims g new page frame m.2.1 h
    ])
    (λ honest p. entered call g claims reply new page frame (outcome g call claims reply new p) h)

-- ---- where too few frames are left, the call is refused

-- the numbers but this one
abbrev without : ℕ → List ℕ → List ℕ
without f [] = []
without f (x ∷ xs) = cond (x == f) (without f xs) (x ∷ without f xs)

at_most : (f : ℕ) (xs : List ℕ) → length (without f xs) ≤ length xs
at_most f [] = omega arith
at_most f (x ∷ xs) = step (x == f) (at_most f xs) where
  step : (b : Bool) → length (without f xs) ≤ length xs
      → length (cond b (without f xs) (x ∷ without f xs)) ≤ suc (length xs)
  step true l = omega (arith, l)
  step false l = omega (arith, l)

fewer : (f : ℕ) (xs : List ℕ) → is_in f xs ≡ true → length (without f xs) < length xs
fewer f [] e = absurd cc
fewer f (x ∷ xs) e = step (x == f) (λ k. fewer f xs k) e where
  step : (b : Bool) → (is_in f xs ≡ true → length (without f xs) < length xs) → (b || is_in f xs)
      ≡ true → length (cond b (without f xs) (x ∷ without f xs)) < suc (length xs)
  step true less k = omega (arith, at_most f xs)
  step false less k = omega (arith, less k)

-- it is the one that is left out, or among the others
left : (f y : ℕ) (xs : List ℕ) → is_in y xs ≡ true → (y ≡ f) ⊎ (is_in y (without f xs) ≡ true)
left f y [] e = absurd cc
left f y (x ∷ xs) e = step (x == f) (x == y) refl refl (λ k. left f y xs k) e where
  step : (a b : Bool) → (x == f) ≡ a → (x == y) ≡ b
      → (is_in y xs ≡ true → (y ≡ f) ⊎ (is_in y (without f xs) ≡ true)) → (b || is_in y xs) ≡ true
      → (y ≡ f) ⊎ (is_in y (cond a (without f xs) (x ∷ without f xs)) ≡ true)
  step true true p q later k = inl (sym (eqb-true x y q) ∙ eqb-true x f p)
  step true false p q later k = later k
  step false true p q later k = inr (ap (λ (b : Bool). b || is_in y (without f xs)) q)
  step false false p q later k = grind arith

-- all claims were given frames, none of which was out: so they are no more than those that weren't
all_given : (frames : ℕ) (Out : ℕ → Type 0) (pages : List ℕ) (claims : List Claim) (got : List ℕ)
    → Gives frames Out claims → AreClaimsFor pages claims → claim_refusal claims ≡ None
    → ((x : ℕ) → x < frames → Out x ⊎ (is_in x got ≡ true)) → length pages ≤ length got
all_given frames Out [] claims got gives a r all = omega arith
all_given frames Out (page ∷ pages) [] got gives a r all = absurd a
all_given frames Out (page ∷ pages) (GaveNoFrame ∷ claims) got gives a r all = absurd cc
all_given frames Out (page ∷ pages) (GaveNoMemory ∷ claims) got gives a r all = absurd cc
all_given frames Out (page ∷ pages) (Gave f ∷ claims) got gives a r all =
    let there : is_in f got ≡ true =
    elim (all f gives.0) [ inl out ↦ absurd (gives.1 out) | inr k ↦ k ] in
    let others : length pages ≤ length (without f got) = all_given frames
    (λ x. Out x ⊎ (x ≡ f)) pages claims (without f got) gives.3 a r (λ x l. later x (all x l)) in
    omega (arith, others, fewer f got there)
  where
    later : (x : ℕ) → Out x ⊎ (is_in x got ≡ true)
        → (Out x ⊎ (x ≡ f)) ⊎ (is_in x (without f got) ≡ true)
    later x (inl out) = inl (inl out)
    later x (inr k) = elim (left f x got k) [ inl e ↦ inl (inr e) | inr m ↦ inr m ]

-- a claim is refused for lack of a frame or memory
claim_refusals : (claims : List Claim) (refusal : Refusal) → claim_refusal claims ≡ Some refusal
    → (refusal ≡ NoFrame) ⊎ (refusal ≡ NoMemory)
claim_refusals [] refusal e = absurd cc
claim_refusals (Gave f ∷ claims) refusal e = claim_refusals claims refusal e
claim_refusals (GaveNoFrame ∷ claims) refusal e = inl cc
claim_refusals (GaveNoMemory ∷ claims) refusal e = inr cc

step_wants : (w : World) (g : Guest) (call : Call) (claims : List Claim) (reply : Reply)
    (new : Guest) → Gives w.frames (IsOut w) claims → GuestStep g call claims reply new
    → WantOfFrames w (pages_to_back call g) → (reply ≡ Refused NoFrame) ⊎ (reply ≡ Refused NoMemory)
step_wants w g call claims reply new gives s want = by (claim_refusal claims) refl where
  by : (o : Option Refusal) → claim_refusal claims ≡ o
      → (reply ≡ Refused NoFrame) ⊎ (reply ≡ Refused NoMemory)
  by None e =
      let least : length (pages_to_back call g) ≤ length want.claimed =
      all_given w.frames (IsOut w) (pages_to_back call g) claims want.claimed gives
      (claims_needed g call claims reply new s) e want.all_out in
      absurd (omega (arith, least, want.fewer))
  by (Some refusal) e = let told = refused_claims g call claims reply new refusal s e in
      elim (claim_refusals claims refusal e) [
        | inl is ↦ inl (told.0 ∙ ap Refused is)
        | inr is ↦ inr (told.0 ∙ ap Refused is)
      ]

pub want_answered : WantIsAnswered
want_answered w v n call reply g here s want = grind (arith, step_wants)
