-- Where a guest's frames come from: its device, where that keeps frames of its own, else the host's
-- keeper (profile).
use Rattle.std.specs.Prelude.{◌≡◌, ℕ, ◌+◌, ◌≤◌, Bool, true, false, List, [], ◌∷◌, length}
use Rattle.std.specs.Prelude.{if◌then◌else◌, slice_set, ⊤}
use Rattle.vb_model.specs.declared.calls.Claim.{Claim}
use Rattle.vb_model.specs.declared.calls.Claim.TheVariants.{Gave, GaveNoFrame, GaveNoMemory}
use Rattle.vb_virtio.specs.Tests.{one_if, times}
use Rattle.vb_model.specs.Driver.{given}
use Rattle.vb_ram.specs.Part.{Part}
use Rattle.vb_device.specs.Own.{has}
use Rattle.vb_frames.specs.Out.{is_out, IsFree}

pub record Supply : Type 0 where
  -- whether the device keeps frames of its own, and the numbers of those that are out
  pub keeps : Bool
  pub own : List ℕ
  -- of each frame of the keeper, by its number, whether it is out
  pub out : List Bool

abbrev pub supply_of : Part → List Bool → Supply
supply_of part out = record { keeps = part.keeps; own = part.own; out = out }

-- The frame of this number is out, as far as this guest's frames are concerned.
abbrev pub is_used : Supply → ℕ → Bool
is_used s n = if s.keeps then has s.own n else is_out s.out n

-- n frames of each number went out, and m came back. Where the device keeps frames, the keeper's
-- are as before; else the device still has none.
pub record Moves (s1 s2 : Supply) (gained lost : ℕ → ℕ) : Type 0 where
  pub keeps : s2.keeps ≡ s1.keeps
  pub asked : s1.keeps ≡ false → s2.own ≡ s1.own
  pub untouched : s1.keeps ≡ true → s2.out ≡ s1.out
  pub count : length s2.out ≡ length s1.out
  pub balance : (n : ℕ) → one_if (is_used s2 n) + lost n ≡ one_if (is_used s1 n) + gained n

abbrev pub nothing : ℕ → ℕ
nothing n = 0

-- What a keeper answered, and which of its frames are out then.
abbrev pub AnswersTo : (List Bool → Claim → Type 0) → Claim → List Bool → List Bool → Type 0
AnswersTo Answers (Gave n) old new =
    Answers old (Gave n) × IsFree old n × (new ≡ slice_set old n true)
AnswersTo Answers GaveNoFrame old new = Answers old GaveNoFrame × (new ≡ old)
AnswersTo Answers GaveNoMemory old new = Answers old GaveNoMemory × (new ≡ old)

-- One claim is answered: the frame that it gives, if it gives one, wasn't out.
pub record IsClaimed (Answers : List Bool → Claim → Type 0) (s1 s2 : Supply) (claim : Claim) :
    Type 0 where
  pub moves : Moves s1 s2 (λ n. times n (given (claim ∷ []))) nothing
  pub asked : s1.keeps ≡ false → AnswersTo Answers claim s1.out s2.out

-- Each of the claims is answered where those before it were; a refusal is the last.
abbrev pub AreClaimed : (List Bool → Claim → Type 0) → Supply → List Claim → Type 0
AreClaimed Answers s [] = ⊤
AreClaimed Answers s (Gave n ∷ claims) =
    (mid : Supply) × IsClaimed Answers s mid (Gave n) × AreClaimed Answers mid claims
AreClaimed Answers s (GaveNoFrame ∷ claims) =
    (mid : Supply) × IsClaimed Answers s mid GaveNoFrame × (claims ≡ [])
AreClaimed Answers s (GaveNoMemory ∷ claims) =
    (mid : Supply) × IsClaimed Answers s mid GaveNoMemory × (claims ≡ [])

-- Each of these frames is out, and none is here twice.
abbrev pub AreLoose : List ℕ → Supply → Type 0
AreLoose loose s = (n : ℕ) → times n loose ≤ one_if (is_used s n)
