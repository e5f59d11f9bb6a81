-- Which frames are out, and what claims are answered (profile).
use Rattle.std.specs.Prelude.{◌≡◌, ℕ, ◌<◌, Bool, true, false, List, [], ◌∷◌, length, slice_index_or}
use Rattle.std.specs.Prelude.{slice_set, Result, Ok, Err, ⊤}
use Rattle.vb_model.specs.declared.calls.Claim.{Claim}
use Rattle.vb_model.specs.declared.calls.Claim.TheVariants.{Gave, GaveNoFrame, GaveNoMemory}
use Rattle.vb_ram.specs.Pages.{Page}
use Rattle.vb_frames.specs.declared.keeper.Refused.{Refused}
use Rattle.vb_frames.specs.declared.keeper.Refused.TheVariants.{NoFrame, Memory}

-- whether the frame of this number is out; no frame past the end is
abbrev pub is_out : List Bool → ℕ → Bool
is_out out n = slice_index_or out n false

-- the frame is there and not out
pub record IsFree (out : List Bool) (n : ℕ) : Type 0 where
  pub within : n < length out
  pub free : is_out out n ≡ false

-- every frame is out
abbrev pub AllOut : List Bool → Type 0
AllOut out = (n : ℕ) → n < length out → is_out out n ≡ true

-- what a claim was answered
abbrev pub claim_in : Result Page Refused → Claim
claim_in (Ok frame) = Gave frame.number
claim_in (Err NoFrame) = GaveNoFrame
claim_in (Err Memory) = GaveNoMemory

-- the frames that are out after these claims
abbrev pub after_claims : List Bool → List Claim → List Bool
after_claims out [] = out
after_claims out (Gave n ∷ claims) = after_claims (slice_set out n true) claims
after_claims out (GaveNoFrame ∷ claims) = after_claims out claims
after_claims out (GaveNoMemory ∷ claims) = after_claims out claims

-- each claim is answered as it may be where those before it were answered so; a refusal is the last
abbrev pub AllAnswered : (List Bool → Claim → Type 0) → List Bool → List Claim → Type 0
AllAnswered Answers out [] = ⊤
AllAnswered Answers out (Gave n ∷ claims) = Answers out (Gave n) × IsFree out n ×
    AllAnswered Answers (slice_set out n true) claims
AllAnswered Answers out (GaveNoFrame ∷ claims) = Answers out GaveNoFrame × (claims ≡ [])
AllAnswered Answers out (GaveNoMemory ∷ claims) = Answers out GaveNoMemory × (claims ≡ [])

-- a table gives the least frame that is free; NoFrame where none is, and where one is it may find
-- no memory
abbrev pub TableAnswers : List Bool → Claim → Type 0
TableAnswers out (Gave n) = IsFree out n × ((m : ℕ) → m < n → is_out out m ≡ true)
TableAnswers out GaveNoFrame = AllOut out
TableAnswers out GaveNoMemory = (n : ℕ) × IsFree out n
