-- Which frames are in use, and which one a claim gets (profile).
-- The headline of a host needs all of it.
use Rattle.std.specs.Prelude.{◌≡◌, ℕ, ◌<◌}
use Rattle.std.specs.Prelude.{List, [], ◌∷◌, Some}
use Rattle.std.specs.Prelude.{◌⊎◌, sum_by, count_by, is_some, filter_map, ⊤}
use Rattle.vb_model.specs.Guest.{Guest, frame_of}
use Rattle.vb_model.specs.declared.calls.Claim.{Claim}
use Rattle.vb_model.specs.declared.calls.Claim.TheVariants.{Gave, GaveNoFrame, GaveNoMemory}
use Rattle.vb_model.specs.World.{World, guest_at}

-- page p of guest n has this frame
pub record Backs (w : World) (n p frame : ℕ) : Type 0 where
  pub guest : Guest
  pub is_there : guest_at w.guests n ≡ Some guest
  pub has : frame_of guest.frames p ≡ Some frame

-- the frame is in use
abbrev pub IsOut : World → ℕ → Type 0
IsOut w frame = (n : ℕ) × (p : ℕ) × Backs w n p frame

-- each claim gets the least frame that is not out, while there is one; an allocation failure may
-- come first
abbrev pub Gives : ℕ → (ℕ → Type 0) → List Claim → Type 0
Gives frames Out [] = ⊤
Gives frames Out (Gave f ∷ claims) =
    (f < frames) × (¬ Out f) × ((x : ℕ) → x < f → Out x)
    × Gives frames (λ x. Out x ⊎ (x ≡ f)) claims
Gives frames Out (GaveNoFrame ∷ claims) = ((x : ℕ) → x < frames → Out x) × (claims ≡ [])
Gives frames Out (GaveNoMemory ∷ claims) = (x : ℕ) × (x < frames) × (¬ Out x) × (claims ≡ [])

abbrev pub used_frames : World → ℕ
used_frames w =
    sum_by (λ g. count_by (λ frame. is_some frame) g.frames) (filter_map (λ guest. guest) w.guests)
