-- Laws of claims and returns, for the crates above.
use Rattle.std.specs.Prelude.{◌≡◌, ℕ, zero, suc, ◌<◌, Bool, true, false, List, [], ◌∷◌, length}
use Rattle.std.{specs.Prelude.{slice_set, ◌⊎◌}, proofs.Common.{arith, inl, inr, sym, ap, set}}
use Rattle.vb_model.{specs.declared.calls.Claim.Claim, specs.HostFrames.Gives}
use Rattle.vb_model.specs.declared.calls.Claim.TheVariants.{Gave, GaveNoFrame, GaveNoMemory}
use Rattle.vb_frames.specs.Out.{is_out, IsFree}

-- a frame that is given and put back leaves all as it was
pub given_back : (out : List Bool) (n : ℕ) → IsFree out n
    → slice_set (slice_set out n true) n false ≡ out
given_back out n free = unset out n free.within free.free where
  unset : (out : List Bool) (n : ℕ) → n < length out → is_out out n ≡ false
      → set (set out n true) n false ≡ out
  unset [] n l e = absurd (omega arith)
  unset (x ∷ xs) zero l e = ap (λ (y : Bool). y ∷ xs) (sym e)
  unset (x ∷ xs) (suc n) l e = ap (λ (ys : List Bool). x ∷ ys) (unset xs n (omega arith) e)

-- claims depend only on which of the frames are out
pub same_gives : (frames : ℕ) (A B : ℕ → Type 0) (claims : List Claim) → ((x : ℕ) → x < frames → A x
    → B x) → ((x : ℕ) → x < frames → B x → A x) → Gives frames A claims → Gives frames B claims
same_gives frames A B [] ab ba h = h
same_gives frames A B (Gave f ∷ claims) ab ba h = (
  h.0,
  λ b. h.1 (ba f h.0 b),
  λ x l. ab x (omega (arith, l, h.0)) (h.2 x l),
  same_gives frames (λ x. A x ⊎ (x ≡ f)) (λ x. B x ⊎ (x ≡ f)) claims
      (λ x l e. elim e [ inl a ↦ inl (ab x l a) | inr same ↦ inr same ])
      (λ x l e. elim e [ inl b ↦ inl (ba x l b) | inr same ↦ inr same ]) h.3,
)
same_gives frames A B (GaveNoFrame ∷ claims) ab ba h = (λ x l. ab x l (h.0 x l), h.1)
same_gives frames A B (GaveNoMemory ∷ claims) ab ba h = (h.0, h.1, λ b. h.2 (ba h.0 h.1 b), h.3)
