-- Worked facts of what a rogue guest claims, and of what a refusal leaves of it.
use Rattle.std.proofs.Common.{List, [], false, refl, replicate, true, ℕ, ◌++◌, ◌∷◌, ◌≡◌}
use Rattle.std.specs.Prelude.{None, Option, Some}
use Rattle.vb_virtio.specs.declared.refusals.Refusal.TheVariants.{AlreadyUp, Broken, Busy, NoFrame}
use Rattle.vb_virtio.specs.declared.refusals.Refusal.TheVariants.{FeatureNotOffered, NoMemory}
use Rattle.vb_virtio.specs.declared.refusals.Refusal.TheVariants.{RingBroken, VersionMissing}
use Rattle.vb_virtio.specs.Statistics.{no_statistics}
use Rattle.vb_model.specs.declared.calls.Call.TheVariants.{Init, Reap, Take, Write}
use Rattle.vb_model.specs.declared.calls.Claim.TheVariants.{Gave, GaveNoFrame, GaveNoMemory}
use Rattle.vb_model.specs.{Guest.Guest, declared.places.Place.TheVariants.{Lent, Reserved, Used}}
use Rattle.vb_model.proofs.Samples.{ready, request}
use Rattle.vb_model.specs.Rogue.{RogueStep}
use Rattle.vb_model.specs.declared.{calls.Claim.Claim, replies.Reply.{Reply, TheVariants.Refused}}

-- pages 16 to 62 are used and have no frame, page 63 is lent
abbrev rogue : Guest
rogue = record ready {
  rogue = true;
  places = replicate 16 Reserved ++ (replicate 47 Used ++ (Lent ∷ []));
}

-- a write on a full host is refused, and changes nothing
full_host : (reply : Reply) (new : Guest) → RogueStep rogue (Write 18 0 (1 ∷ [])) (GaveNoFrame
    ∷ []) reply new → (reply ≡ Refused NoFrame) × (new ≡ rogue)
full_host reply new s = (s.frames.0, s.refused NoFrame s.frames.0)

-- it isn't done without a frame, and one that is refused before claims none
claims_its_frame : (reply : Reply) (new : Guest) → RogueStep rogue (Write 18 0 (1 ∷ [])) [] reply new
    → ⊥
claims_its_frame reply new s = s.claimed

lent_page_claims_none : (reply : Reply) (new : Guest)
    → RogueStep rogue (Write 63 0 (1 ∷ [])) (Gave 3 ∷ []) reply new → ⊥
lent_page_claims_none reply new s = let none : Gave 3 ∷ [] ≡ [] = s.claimed in cc

init_claims_none_when_up : (reply : Reply) (new : Guest)
    → RogueStep rogue (Init 0x100000001) (Gave 3 ∷ []) reply new → ⊥
init_claims_none_when_up reply new s = let none : Gave 3 ∷ [] ≡ [] = s.claimed in cc

init_claims : (reply : Reply) (new : Guest)
    → RogueStep (record rogue { status = 0 }) (Init 0x100000001) [] reply new → ⊥
init_claims reply new s = s.claimed

-- a broken rule leaves a device that needs a reset, a broken ring a driver that has failed
needs_reset_alone : (new : Guest) → RogueStep rogue (Take 0) [] (Refused (Broken 9)) new
    → new ≡ record rogue { status = 79 }
needs_reset_alone new s = s.refused (Broken 9) refl

failed_alone : (new : Guest) → RogueStep rogue (Reap 1) [] (Refused RingBroken) new
    → new ≡ record rogue { status = 143 }
failed_alone new s = s.refused RingBroken refl

-- once more, and nothing else is set
needs_reset_still : (new : Guest) → RogueStep (record rogue { status = 79 })
    (Take 0) [] (Refused (Broken 9)) new → new ≡ record rogue { status = 79 }
needs_reset_still new s = s.refused (Broken 9) refl

failed_still : (new : Guest) → RogueStep (record rogue { status = 143 })
    (Reap 1) [] (Refused RingBroken) new → new ≡ record rogue { status = 143 }
failed_still new s = s.refused RingBroken refl

-- others leave all as it was
unchanged : (new : Guest) → RogueStep rogue (Take 0) [] (Refused Busy) new → new ≡ rogue
unchanged new s = s.refused Busy refl

unchanged_when_up : (new : Guest) → RogueStep rogue (Init 0x100000001) [] (Refused AlreadyUp) new
    → new ≡ rogue
unchanged_when_up new s = s.refused AlreadyUp refl

-- once the features are refused, with its frames, and of the device with what a reset leaves: nothing
-- ballooned, no page counted as given to the host, no statistics
abbrev thirteen : List Claim
thirteen = Gave 0 ∷ Gave 1 ∷ Gave 2 ∷ Gave 3 ∷ Gave 4 ∷ Gave 5 ∷ Gave 6 ∷ Gave 7 ∷ Gave 8 ∷ Gave 9
    ∷ Gave 10 ∷ Gave 11 ∷ Gave 12 ∷ []

abbrev first_thirteen : List (Option ℕ)
first_thirteen = Some 0 ∷ Some 1 ∷ Some 2 ∷ Some 3 ∷ Some 4
    ∷ Some 5 ∷ Some 6 ∷ Some 7 ∷ Some 8 ∷ Some 9 ∷ Some 10 ∷ Some 11 ∷ Some 12 ∷ replicate 51 None

abbrev told_much : Guest
told_much = record rogue {
  inflate = record { posted = request 1 (40 ∷ []) 0 ∷ []; taken = []; done = [] };
  target = 7;
  status = 0;
  ballooned = replicate 64 true;
  actual = 5;
  last = record { free = Some 4096; total = Some 8192 };
}

features_refused : (new : Guest)
    → RogueStep told_much (Init 1) thirteen (Refused VersionMissing) new → new ≡ record told_much {
      status = 131;
      features = 1;
      ballooned = replicate 64 false;
      actual = 0;
      last = no_statistics;
      frames = first_thirteen;
    }
features_refused new s = s.refused VersionMissing refl

-- a feature that isn't offered is refused before any is accepted
feature_not_offered : (new : Guest)
    → RogueStep told_much (Init 0x100000008) thirteen (Refused FeatureNotOffered) new
    → new ≡ record told_much {
      status = 131;
      features = 0;
      ballooned = replicate 64 false;
      actual = 0;
      last = no_statistics;
      frames = first_thirteen;
    }
feature_not_offered new s = s.refused FeatureNotOffered refl

-- for lack of a frame or memory nothing is changed
no_frame_to_start : (new : Guest) → RogueStep told_much (Init 0x100000027) (Gave 0
    ∷ GaveNoFrame ∷ []) (Refused NoFrame) new → new ≡ told_much
no_frame_to_start new s = s.refused NoFrame refl

no_memory_to_start : (new : Guest) → RogueStep told_much (Init 0x100000027) (Gave 0
    ∷ GaveNoMemory ∷ []) (Refused NoMemory) new → new ≡ told_much
no_memory_to_start new s = s.refused NoMemory refl
