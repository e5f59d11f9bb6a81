-- Laws at what they must not leave out: any guest, rogue or honest, at any status and of any size,
-- and both ways where they say so.
use Rattle.std.proofs.Common.{List, [], arith, false, inl, inr, refl, true, ℕ, ◌∷◌, ◌≡◌, ◌⊎◌}
use Rattle.std.specs.Prelude.{IsTrue, Option, Some, unwrap_or}
use Rattle.vb_model.specs.{Consistent.IsConsistent, Determined.HonestStepsAgree, Guest.Guest}
use Rattle.vb_model.specs.{Driver.claim_refusal, Guest.{frame_of, tells_host}, HostEvents.WorldStep}
use Rattle.vb_model.specs.{Orderly.IsOrderly, Rogue.{GuestStep, is_read, pages_to_back}}
use Rattle.vb_model.specs.{Step.HonestStep, StepLaws.{ConfigurationsAreKept, Follows, FramesGoBack}}
use Rattle.vb_model.specs.StepLaws.{FramesEnterByClaims, HasNoFrame, IsGiven, NoFrameIsExact}
use Rattle.vb_model.specs.StepLaws.{NoMemoryIsExact, RefusedClaimsAreAnswered, RestartedAreHonest}
use Rattle.vb_model.specs.StepLaws.{RoguesAreMade, RoguesStay, ScribblesMakeRogues, TargetsAreKept}
use Rattle.vb_model.specs.{StepLaws.{TargetsAreSet, WantIsAnswered, WantOfFrames}, Telling.ToldStep}
use Rattle.vb_model.specs.{Telling.ToldStepsAgree, World.{World, guest_at}}
use Rattle.vb_model.specs.declared.calls.Call.{Call, TheVariants.{Deflate, Init, Reap, Scribble}}
use Rattle.vb_model.specs.declared.calls.{Call.TheVariants.{SetTarget, Work, Write}, Claim.Claim}
use Rattle.vb_model.specs.declared.calls.{Claim.TheVariants.Gave, Event.TheVariants.Restart}
use Rattle.vb_model.specs.declared.calls.Event.TheVariants.{Guest as OnGuest, Unplug}
use Rattle.vb_virtio.specs.declared.refusals.Refusal.TheVariants.{NoFrame, NoMemory}
use Rattle.vb_model.specs.declared.replies.Reply.{Reply}
use Rattle.vb_model.specs.declared.replies.Reply.TheVariants.{Done, Refused}

-- ---- targets and configurations, of rogue guests too

any_target : TargetsAreKept → (w v : World) (reply : Reply) (old new : Guest)
    → Follows w (OnGuest 1 Work) reply v 1 old new → new.target ≡ old.target
any_target law w v reply old new f =
    law w (OnGuest 1 Work) reply v 1 old new f (λ t e. cc) (λ fl e. cc)

-- a new life keeps it too
target_of_a_new_life : TargetsAreKept → (w v : World) (reply : Reply) (old new : Guest)
    → Follows w (Restart 1) reply v 1 old new → new.target ≡ old.target
target_of_a_new_life law w v reply old new f =
    law w (Restart 1) reply v 1 old new f (λ t e. cc) (λ fl e. cc)

any_target_is_set : TargetsAreSet → (w v : World) (reply : Reply) (old new : Guest)
    → Follows w (OnGuest 1 (SetTarget 5)) reply v 1 old new → new.target ≡ 5
any_target_is_set law w v reply old new f = law w reply v 1 5 old new f

any_configuration : ConfigurationsAreKept → (w v : World) (reply : Reply) (old new : Guest)
    → Follows w (OnGuest 1 Work) reply v 1 old new → new.config ≡ old.config
any_configuration law w v reply old new f = law w (OnGuest 1 Work) reply v 1 old new f

configuration_of_a_new_life : ConfigurationsAreKept → (w v : World) (reply : Reply)
    (old new : Guest) → Follows w (Restart 1) reply v 1 old new → new.config ≡ old.config
configuration_of_a_new_life law w v reply old new f = law w (Restart 1) reply v 1 old new f

-- ---- rogues

not_by_a_start : RoguesAreMade → (w v : World) (reply : Reply) (old new : Guest)
    → Follows w (OnGuest 1 (Init 1)) reply v 1 old new → old.rogue ≡ false → new.rogue ≡ false
not_by_a_start law w v reply old new f =
    law w (OnGuest 1 (Init 1)) reply v 1 old new f (λ page offset bytes e. cc)

by_a_scribble_of_nothing : ScribblesMakeRogues → (w v : World) (old new : Guest)
    → Follows w (OnGuest 1 (Scribble 0 0 [])) Done v 1 old new → old.rogue ≡ false
    → new.rogue ≡ true
by_a_scribble_of_nothing law w v old new f = law w v 1 0 0 [] old new f

over_a_start : RoguesStay → (w v : World) (reply : Reply) (old new : Guest)
    → Follows w (OnGuest 1 (Init 1)) reply v 1 old new → old.rogue ≡ true → new.rogue ≡ true
over_a_start law w v reply old new f = law w (OnGuest 1 (Init 1)) reply v 1 old new f (λ e. cc)

-- a rogue guest gives its frames back, and is honest in its next life
frames_of_any_guest : FramesGoBack → (w v : World) (reply : Reply)
    → WorldStep w (Unplug 1) reply v ⊎ WorldStep w (Restart 1) reply v → HasNoFrame v 1
frames_of_any_guest law w v reply (inl s) = law w (Unplug 1) reply v 1 s (inr refl)
frames_of_any_guest law w v reply (inr s) = law w (Restart 1) reply v 1 s (inl refl)

next_life : RestartedAreHonest → (w v : World) (reply : Reply) (old new : Guest)
    → Follows w (Restart 1) reply v 1 old new → new.rogue ≡ false
next_life law w v reply old new f = law w reply v 1 old new f

-- ---- frames

abbrev Same : ℕ → ℕ → Type 0
Same a b = a ≡ b

abbrev number : Option ℕ → ℕ
number o = unwrap_or o 0

second_claim : IsGiven (16 ∷ 17 ∷ []) (Gave 3 ∷ Gave 4 ∷ []) 17 4
second_claim = (1, refl, refl)

anothers_claim : IsGiven (16 ∷ 17 ∷ []) (Gave 3 ∷ Gave 4 ∷ []) 17 3 → ⊥
anothers_claim given = grind arith

any_frame : FramesEnterByClaims → (g : Guest) (claims : List Claim) (reply : Reply) (new : Guest)
    (page frame : ℕ) → GuestStep g (Init 1) claims reply new → frame_of new.frames page ≡ Some frame
    → (frame_of g.frames page ≡ Some frame) ⊎ IsGiven (pages_to_back (Init 1) g) claims page frame
any_frame law g claims reply new page frame s h = law g (Init 1) claims reply new s page frame h

any_refused_claim : RefusedClaimsAreAnswered → (g : Guest) (claims : List Claim) (reply : Reply)
    (new : Guest) → GuestStep g (Write 17 0 (1 ∷ [])) claims reply new
    → claim_refusal claims ≡ Some NoFrame → (reply ≡ Refused NoFrame) × (new.frames ≡ g.frames)
any_refused_claim law g claims reply new s e =
    law g (Write 17 0 (1 ∷ [])) claims reply new NoFrame s e

any_want : NoFrameIsExact → (w v : World) (g : Guest) → guest_at w.guests 1 ≡ Some g
    → WorldStep w (OnGuest 1 (Init 1)) (Refused NoFrame) v
    → WantOfFrames w (pages_to_back (Init 1) g)
any_want law w v g here s = law w v 1 (Init 1) g here s

any_answer : WantIsAnswered → (w v : World) (reply : Reply) (g : Guest) → guest_at w.guests 1
    ≡ Some g → WorldStep w (OnGuest 1 (Init 1)) reply v → WantOfFrames w (pages_to_back (Init 1) g)
    → (reply ≡ Refused NoFrame) ⊎ (reply ≡ Refused NoMemory)
any_answer law w v reply g here s want = law w v 1 (Init 1) reply g here s want

any_want_of_memory : NoMemoryIsExact → (g : Guest) (call : Call) (claims : List Claim)
    (new : Guest) → GuestStep g call claims (Refused NoMemory) new
    → ((claim_refusal claims ≡ Some NoMemory) ⊎ IsTrue (is_read call)) × (new ≡ g)
any_want_of_memory law g call claims new s = law g call claims new s

-- ---- steps of honest guests, at any status

any_status : HonestStepsAgree → (g : Guest) (reply : Reply) (new : Guest) (reply' : Reply)
    (new' : Guest) → HonestStep g Work [] reply new → HonestStep g Work [] reply' new'
    → (reply ≡ reply') × (new ≡ new')
any_status law g reply new reply' new' s s' = law g Work [] reply new reply' new' s s'

-- ---- guests that tell the host: each step is one of the rules that don't speak of others, and
-- each of these is a step

told_step : ToldStepsAgree → (g : Guest) (reply : Reply) (new : Guest) → IsConsistent g
    → IsOrderly g → IsTrue (tells_host g) → HonestStep g (Deflate 1) [] reply new
    → ToldStep g (Deflate 1) [] reply new
told_step law g reply new c o t s = (law g (Deflate 1) [] reply new c o t).0 s

step_as_told : ToldStepsAgree → (g : Guest) (reply : Reply) (new : Guest) → IsConsistent g
    → IsOrderly g → IsTrue (tells_host g) → ToldStep g (Reap 1) [] reply new
    → HonestStep g (Reap 1) [] reply new
step_as_told law g reply new c o t s = (law g (Reap 1) [] reply new c o t).1 s
