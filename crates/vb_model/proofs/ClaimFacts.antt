-- Which frames a call of a guest may be given in its world, and what an event of the host is not.
use Rattle.std.proofs.Common.{List, [], ap, arith, refl, replicate, subst, suc, zero, ℕ, ◌++◌, ◌<◌}
use Rattle.std.proofs.Common.{◌∷◌, ◌≡◌}
use Rattle.std.specs.Prelude.{None, Option, Some, drop, slice_index_or}
use Rattle.vb_virtio.proofs.Differ.{differ}
use Rattle.vb_virtio.specs.Memory.{zero_page}
use Rattle.vb_virtio.specs.declared.refusals.Refusal.TheVariants.{NoFrame, NoMemory}
use Rattle.vb_model.proofs.Changes.{same_some}
use Rattle.vb_model.proofs.Samples.{down, ready}
use Rattle.vb_model.specs.Guest.{Guest, frame_of}
use Rattle.vb_model.specs.HostFrames.{Gives, IsOut}
use Rattle.vb_model.specs.{HostEvents.{Happens, PlugsIn, WorldStep}, Step.{Does, HonestStep}}
use Rattle.vb_model.specs.World.{World, guest_at}
use Rattle.vb_model.specs.declared.calls.Call.TheVariants.{Ask, Finish, Reap, Work, Write}
use Rattle.vb_model.specs.declared.calls.Claim.{Claim, TheVariants.{Gave, GaveNoFrame, GaveNoMemory}}
use Rattle.vb_model.specs.declared.calls.Event.{Event, TheVariants.{Guest as OnGuest, Restart}}
use Rattle.vb_model.specs.declared.calls.Event.TheVariants.{Query as OnQuery}
use Rattle.vb_model.specs.declared.calls.Query.TheVariants.{Places}
use Rattle.vb_model.specs.declared.places.Place.TheVariants.{Reserved, Used}
use Rattle.vb_model.specs.declared.replies.Reply.{Reply, TheVariants.{Done, Refused}}

-- ---- frames 0 and 2 are out, backing pages of guest 0; guest 1 writes to its page 16, which has
-- none

abbrev holding : Guest
holding = record down { frames = Some 0 ∷ Some 2 ∷ [] }

abbrev none : Option ℕ
none = None

abbrev writer : Guest
writer = record ready
    { places = replicate 16 Reserved ++ (Used ∷ []); frames = replicate 17 none }

abbrev beside : Guest → ℕ → Guest → World
beside first frames second = record {
  frames = frames;
  guests = Some first ∷ Some second ∷ [];
  spares = [];
  vacated = None;
}

abbrev world : ℕ → Guest → World
world frames second = beside holding frames second

abbrev Out : ℕ → ℕ → Type 0
Out frames frame = IsOut (world frames writer) frame

frames_0_and_2 : (frames : ℕ) → Out frames 0 × Out frames 2
frames_0_and_2 frames = (
  (0, 0, record { guest = holding; is_there = refl; has = refl }),
  (0, 1, record { guest = holding; is_there = refl; has = refl }),
)

none_there : (n page : ℕ) → slice_index_or (replicate n none) page None ≡ None
none_there zero page = refl
none_there (suc n) zero = refl
none_there (suc n) (suc page) = none_there n page

of_0_or_2 : (page frame : ℕ) → frame_of holding.frames page ≡ Some frame → frame ≡ 1 → ⊥
of_0_or_2 zero frame e f = grind arith
of_0_or_2 (suc zero) frame e f = grind arith
of_0_or_2 (suc (suc page)) frame e f = grind arith

not_frame_1 : (frames : ℕ) → Out frames 1 → ⊥
not_frame_1 frames out = grind (arith, of_0_or_2, none_there)

-- the write is done with the least frame that isn't out
abbrev writing : Event
writing = OnGuest 1 (Write 16 0 (7 ∷ []))

abbrev backed_by : ℕ → Guest
backed_by frame = record writer {
  frames = replicate 16 None ++ (Some frame ∷ []);
  contents = replicate 16 zero_page ++ ((7 ∷ drop 1 zero_page) ∷ replicate 47 zero_page);
}

below_1 : (frames x : ℕ) → x < 1 → Out frames x
below_1 frames zero l = (frames_0_and_2 frames).0
below_1 frames (suc x) l = absurd (omega (arith, l))

with_frame_1 : WorldStep (world 4 writer) writing Done (world 4 (backed_by 1))
with_frame_1 = (
  Gave 1 ∷ [],
  backed_by 1,
  (omega arith, not_frame_1 4, below_1 4, tt),
  (refl, (refl, refl)),
  refl,
)

-- the claim of a write that is done was given the frame that the page then has
its_claim : (claims : List Claim) (after : Guest) (frame : ℕ)
    → HonestStep writer (Write 16 0 (7 ∷ [])) claims Done after
    → frame_of after.frames 16 ≡ Some frame → claims ≡ Gave frame ∷ []
its_claim [] after frame s e = absurd s.0
its_claim (Gave f ∷ []) after frame s e = grind arith
its_claim (Gave f ∷ c ∷ claims) after frame s e = absurd (let t : c ∷ claims ≡ [] = s.0 in cc)
its_claim (GaveNoFrame ∷ claims) after frame s e =
    absurd (let t : Done ≡ Refused NoFrame = s.1.0 in cc)
its_claim (GaveNoMemory ∷ claims) after frame s e =
    absurd (let t : Done ≡ Refused NoMemory = s.1.0 in cc)

abbrev IsGivenTo : Guest → ℕ → Guest → ℕ → Type 0
IsGivenTo first frames new frame =
    WorldStep (beside first frames writer) writing Done (beside first frames new)
    × (frame_of new.frames 16 ≡ Some frame)

given : (first : Guest) (frames frame : ℕ) (new : Guest) → IsGivenTo first frames new frame
    → Gives frames (IsOut (beside first frames writer)) (Gave frame ∷ [])
given first frames frame new ((claims, after, gives, step, same), has) =
    let e : new ≡ after =
    same_some new after (ap (λ (w : World). guest_at w.guests 1) same) in
    subst (Gives frames (IsOut (beside first frames writer))) (its_claim claims after frame step
    (subst (λ (g : Guest). frame_of g.frames 16 ≡ Some frame) e has)) gives

-- not with one that is out, one past the last, or one above another that isn't out
not_given : (new : Guest) → (IsGivenTo holding 4 new 0 → ⊥) × (IsGivenTo holding 4 new 2 → ⊥)
    × (IsGivenTo holding 1 new 1 → ⊥) × (IsGivenTo holding 4 new 3 → ⊥)
not_given new = (
  λ is. (given holding 4 0 new is).1 (frames_0_and_2 4).0,
  λ is. (given holding 4 2 new is).1 (frames_0_and_2 4).1,
  λ is. omega (arith, (given holding 1 1 new is).0),
  λ is. not_frame_1 4 ((given holding 4 3 new is).2 1 (omega arith)),
)

-- where the two lowest that aren't out are neighbours, not with the second of them: frames 1 and 2,
-- or 0 and 1
abbrev with_one_frame : ℕ → Guest
with_one_frame frame = record down { frames = Some frame ∷ [] }

its_only_frame : (its page frame : ℕ) → frame_of (with_one_frame its).frames page ≡ Some frame
    → frame ≡ its
its_only_frame its zero frame e = grind arith
its_only_frame its (suc page) frame e = absurd (grind arith)

no_other_is_out : (its other : ℕ) → (other ≡ its → ⊥)
    → IsOut (beside (with_one_frame its) 4 writer) other → ⊥
no_other_is_out its other ne out = grind (arith, its_only_frame, none_there)

not_the_second_of_two : (new : Guest) → (IsGivenTo (with_one_frame 0) 4 new 2 → ⊥)
    × (IsGivenTo (with_one_frame 3) 4 new 1 → ⊥)
not_the_second_of_two new = (
  λ is. no_other_is_out 0 1 (λ e. differ 1 0 refl e) ((given (with_one_frame 0) 4 2 new is).2 1 (omega arith)),
  λ is. no_other_is_out 3 0 (λ e. differ 0 3 refl e) ((given (with_one_frame 3) 4 1 new is).2 0 (omega arith)),
)

-- a lack of a frame is no answer while one isn't out
no_claim_refused : (claims : List Claim) (after : Guest)
    → HonestStep writer (Write 16 0 (7 ∷ [])) claims (Refused NoFrame) after
    → claims ≡ GaveNoFrame ∷ []
no_claim_refused [] after s = absurd s.0
no_claim_refused (Gave f ∷ []) after s = absurd (let t : Refused NoFrame ≡ Done = s.1.0 in cc)
no_claim_refused (Gave f ∷ c ∷ claims) after s = absurd (let t : c ∷ claims ≡ [] = s.0 in cc)
no_claim_refused (GaveNoFrame ∷ []) after s = refl
no_claim_refused (GaveNoFrame ∷ c ∷ claims) after s = absurd (let t : c ∷ claims ≡ [] = s.0 in cc)
no_claim_refused (GaveNoMemory ∷ claims) after s =
    absurd (let t : Refused NoFrame ≡ Refused NoMemory = s.1.0 in cc)

frame_1_is_left : (v : World) → WorldStep (world 4 writer) writing (Refused NoFrame) v → ⊥
frame_1_is_left v (claims, after, gives, step, same) =
    let g : Gives 4 (Out 4) (GaveNoFrame ∷ []) =
    subst (Gives 4 (Out 4)) (no_claim_refused claims after step) gives in
    not_frame_1 4 (g.0 1 (omega arith))

none_is_left : WorldStep (world 1 writer) writing (Refused NoFrame) (world 1 writer)
none_is_left = (GaveNoFrame ∷ [], writer, (below_1 1, refl), (refl, (refl, refl)), refl)

-- ---- what can't happen whatever is answered: a plug without a device, an event of a guest that
-- isn't there, and calls on queues of no requests

never : (reply : Reply) (v : World) (new : Guest)
    → (PlugsIn (record { pages = 64; queue_size = 8; processors = 1 }) [] (world 4 writer) reply v
    → ⊥)
    × (Happens (OnGuest 2 Work) (world 4 writer) reply v → ⊥)
    × (Happens (OnQuery 2 Places) (world 4 writer) reply v → ⊥)
    × (Happens (Restart 2) (world 4 writer) reply v → ⊥)
    × (Does (Reap 2) ready reply new → ⊥) × (Does (Reap 3) ready reply new → ⊥)
    × (Does (Finish 2 0) ready reply new → ⊥) × (Does (Finish 5 0) ready reply new → ⊥)
    × (Does Ask ready reply new → ⊥)
never reply v new = (
  λ p. p,
  λ h. h,
  λ h. h.0,
  λ h. h,
  λ d. d,
  λ d. d,
  λ d. d,
  λ d. d,
  λ d. d,
)
