-- What a claim of a frame answered.
use Rattle.std.specs.Prelude.{◌≡◌, Bool, List, [], ◌∷◌, ◌++◌, Result}
use Rattle.{std.proofs.Common.{◌∙◌, ap, subst}, vb_model.specs.declared.calls.Claim.Claim}
use Rattle.{vb_ram.specs.Pages.Page, vb_frames.specs.declared.keeper.Refused.Refused}
use Rattle.{vb_frames.specs.Out.claim_in, vb_guest.specs.Supply.{Supply, IsClaimed}}

pub claim_answered : {Answers : List Bool → Claim → Type 0}
    {s1 s2 : Supply} {result value : Result Page Refused} → result ≡ value
    → IsClaimed Answers s1 s2 (claim_in result) → IsClaimed Answers s1 s2 (claim_in value)
claim_answered {Answers} {s1} {s2} e answer =
    subst (λ r. IsClaimed Answers s1 s2 (claim_in r)) e answer

-- it is the only one
pub noted_alone : {l1 l2 : List Claim} {result value : Result Page Refused}
    → result ≡ value → l1 ≡ [] → l2 ≡ l1 ++ (claim_in result ∷ []) → l2 ≡ claim_in value ∷ []
noted_alone {result} e none noted =
    noted ∙ ap (λ (l : List Claim). l ++ (claim_in result ∷ [])) none ∙ ap (λ r. claim_in r ∷ []) e
