-- Two lists of targets are the same.
use Rattle.std.proofs.Common.{◌≡◌, ℕ, ◌<◌, List, length, slice_index, sym, ◌∙◌, inl, inr, arith}
use Rattle.vb_virtio.specs.Targets.{Need, AreTargets}
use Rattle.vb_virtio.proofs.Sums.{same_by_sum, somewhere_more}

-- one list can't ask more of one guest and less of another
clash : (needs : List Need) (frames : ℕ) (one other : List ℕ) → AreTargets needs frames one
    → AreTargets needs frames other
    → (i : ℕ) → i < length needs → slice_index other i < slice_index one i → (j : ℕ)
    → j < length needs → slice_index one j < slice_index other j → ⊥
clash needs frames one other a b i li more j lj less = grind arith

pub unique : (needs : List Need) (frames : ℕ) (one other : List ℕ) → AreTargets needs frames one
    → AreTargets needs frames other → one ≡ other
unique needs frames one other a b = elim (somewhere_more one other (a.one_each ∙ sym b.one_each)) [
  | inr nowhere ↦ same_by_sum one other (a.one_each ∙ sym b.one_each) nowhere
      (a.enough ∙ sym b.enough)
  | inl more ↦ elim (somewhere_more other one (b.one_each ∙ sym a.one_each)) [
    | inr nowhere ↦ sym (same_by_sum other one (b.one_each ∙ sym a.one_each) nowhere
        (b.enough ∙ sym a.enough))
    | inl less ↦ absurd (clash needs frames one other a b more.0
        (omega (arith, more.1, a.one_each)) more.2 less.0 (omega (arith, less.1, b.one_each))
        less.2)
  ]
]
