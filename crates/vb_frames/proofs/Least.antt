-- A table's claims are the model's.
use Rattle.std.proofs.Common.{◌≡◌, ℕ, ◌<◌, Bool, true, false, List, [], ◌∷◌, length, set, sym}
use Rattle.std.{proofs.Common.{subst, ap, ◌∙◌, ◌⊎◌, inl, inr}, proofs.lemmas.Bool.false≢true}
use Rattle.std.proofs.lemmas.Bool.Decides.{eqb_tells}
use Rattle.std.proofs.lemmas.List.{length-set, get_or-set_same, get_or-set_other}
use Rattle.vb_model.{specs.declared.calls.Claim.Claim, specs.HostFrames.Gives}
use Rattle.vb_model.specs.declared.calls.Claim.TheVariants.{Gave, GaveNoFrame, GaveNoMemory}
use Rattle.vb_frames.{proofs.Returns.same_gives, specs.Out.{is_out, AllAnswered, TableAnswers}}

-- the frames that are out after one was given
out_after : (out : List Bool) (f x : ℕ) → is_out (set out f true) x ≡ true
    → (is_out out x ≡ true) ⊎ (x ≡ f)
out_after out f x e = elim (eqb_tells x f) [
  | inl same ↦ inr same.1
  | inr other ↦ inl (sym (get_or-set_other out f x true false other.1) ∙ e)
]

was_out : (out : List Bool) (f x : ℕ) → f < length out → (is_out out x ≡ true) ⊎ (x ≡ f)
    → is_out (set out f true) x ≡ true
was_out out f x l e = elim (eqb_tells x f) [
  | inl same ↦ ap (λ (k : ℕ). is_out (set out f true) k) same.1 ∙ get_or-set_same out f true false l
  | inr other ↦ get_or-set_other out f x true false other.1
      ∙ elim e [ inl there ↦ there | inr same ↦ absurd (other.1 same) ]
]

pub table_gives : (claims : List Claim) (out : List Bool) → AllAnswered TableAnswers out claims
    → Gives (length out) (λ n. is_out out n ≡ true) claims
table_gives [] out h = h
table_gives (Gave f ∷ claims) out h = (
  h.1.within,
  λ e. false≢true (sym h.1.free ∙ e),
  h.0.1,
  same_gives (length out) (λ x. is_out (set out f true) x ≡ true) (λ x. (is_out out x ≡ true)
      ⊎ (x ≡ f)) claims (λ x l e. out_after out f x e) (λ x l e. was_out out f x h.1.within e)
      (subst (λ (n : ℕ). Gives n (λ x. is_out (set out f true) x ≡ true) claims)
      (length-set out f true) (table_gives claims (set out f true) h.2)),
)
table_gives (GaveNoFrame ∷ claims) out h = (h.0, h.1)
table_gives (GaveNoMemory ∷ claims) out h =
    (h.0.0, h.0.1.within, λ e. false≢true (sym h.0.1.free ∙ e), h.1)
