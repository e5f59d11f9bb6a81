-- From one head there is one chain, or one fault, and not both.
use Rattle.std.proofs.Common.{◌≡◌, ℕ, zero, suc, ◌-◌, ◌<◌, ◌≤◌, List, length, take, sym, ◌∙◌, ap}
use Rattle.std.specs.List.{list_any}
use Rattle.std.proofs.lemmas.{Grind.same_number_lists, List.{length-take-le, get_or-take}}
use Rattle.std.{proofs.{Common.{inl, inr, arith}, lemmas.Bool.cases_lt}, specs.Prelude.slice_index}
use Rattle.vb_chain.specs.declared.{descriptor.Descriptor.Descriptor, fault.ChainFault.ChainFault}
use Rattle.vb_chain.specs.{Rules.{is_writable, first_fault}, declared.pieces.Piece.Piece}
use Rattle.vb_chain.specs.Chain.{IsPath, fault_at, IsChain, BreaksAt, ChainGives, FaultGives}

-- two paths from one head go the same way
paths_agree : (d : ℕ → Descriptor) (head : ℕ) (p s : List ℕ) → IsPath d head p → IsPath d head s
    → (k : ℕ) → k < length p → k < length s → slice_index p k ≡ slice_index s k
paths_agree d head p s a b zero h l = a.begins ∙ sym b.begins
paths_agree d head p s a b (suc k) h l =
    grind (arith, paths_agree d head p s a b k (omega arith) (omega arith))

faults_agree : (d : ℕ → Descriptor) (q end head : ℕ) (p s : List ℕ) → IsPath d head p
    → IsPath d head s → (k : ℕ) → k < length p → k < length s
    → fault_at d q end p k ≡ fault_at d q end s k
faults_agree d q end head p s a b k h l =
    let lp : length (take k p) ≡ k = length-take-le k p (omega arith) in
    let ls : length (take k s) ≡ k = length-take-le k s (omega arith) in
    let front : take k p ≡ take k s = same_number_lists _ _ (lp ∙ sym ls) (λ i lt.
    let below : i < k = omega (arith, lp) in
    get_or-take k p i 0 below ∙ paths_agree d head p s a b i (omega arith) (omega arith)
    ∙ sym (get_or-take k s i 0 below)) in
    ap (λ xs. first_fault q end (list_any (λ i. is_writable (d i)) xs) k (d (slice_index p k)))
    front ∙ ap (λ n. first_fault q end (list_any (λ i. is_writable (d i)) (take k s)) k (d n))
    (paths_agree d head p s a b k h l)

-- no path goes on where a chain ends
chain_longest : (d : ℕ → Descriptor) (q end head : ℕ) (p s : List ℕ) → IsChain d q end head p
    → IsPath d head s → length s ≤ length p
chain_longest d q end head p s c b = elim (cases_lt (length p) (length s)) [
  | inl more ↦
      grind (arith, paths_agree d head p s c.is_path b (length p - 1) (omega arith) (omega arith))
  | inr fits ↦ fits
]

chains_same : (d : ℕ → Descriptor) (q end head : ℕ) (p s : List ℕ) → IsChain d q end head p
    → IsChain d q end head s → p ≡ s
chains_same d q end head p s a b = let low = chain_longest d q end head p s a b.is_path in
    let high = chain_longest d q end head s p b a.is_path in
    let len : length p ≡ length s = omega arith in
    same_number_lists p s len (λ k h. paths_agree d head p s a.is_path b.is_path k h (omega arith))

-- a chain and a fault exclude each other
not_both : (d : ℕ → Descriptor) (q end head : ℕ) (p s : List ℕ) (f : ChainFault)
    → IsChain d q end head p → BreaksAt d q end head s f → ⊥
not_both d q end head p s f c b = let low = chain_longest d q end head p s c b.is_path in
    grind (
      arith,
      faults_agree d q end head p s c.is_path b.is_path (length s - 1) (omega arith) (omega arith),
    )

-- the longer of two broken paths was sound where the shorter broke
not_longer : (d : ℕ → Descriptor) (q end head : ℕ) (p s : List ℕ) (f g : ChainFault)
    → BreaksAt d q end head p f → BreaksAt d q end head s g → length s ≤ length p
not_longer d q end head p s f g a b = elim (cases_lt (length p) (length s)) [
  | inl more ↦
      grind (
        arith,
        faults_agree d q end head p s a.is_path b.is_path (length p - 1) (omega arith) (omega
            arith),
      )
  | inr fits ↦ fits
]

breaks_same : (d : ℕ → Descriptor) (q end head : ℕ) (p s : List ℕ) (f g : ChainFault)
    → BreaksAt d q end head p f → BreaksAt d q end head s g → f ≡ g
breaks_same d q end head p s f g a b = let low = not_longer d q end head p s f g a b in
    let high = not_longer d q end head s p g f b a in
    let len : length p ≡ length s = omega arith in
    grind (
      arith,
      faults_agree d q end head p s a.is_path b.is_path (length p - 1) (omega arith) (omega arith),
    )

pub chain_is_one : (d : ℕ → Descriptor) (q end head : ℕ) (xs ys : List Piece)
    → ChainGives d q end head xs → ChainGives d q end head ys → xs ≡ ys
chain_is_one d q end head xs ys a b =
    grind (arith, chains_same d q end head a.path b.path a.chain b.chain)

pub chain_or_fault : (d : ℕ → Descriptor) (q end head : ℕ) (xs : List Piece) (f : ChainFault)
    → ChainGives d q end head xs → FaultGives d q end head f → ⊥
chain_or_fault d q end head xs f a (inl b) = let inside = a.chain.inside in let past = b.past in
    omega arith
chain_or_fault d q end head xs f a (inr b) = not_both d q end head a.path b.0 f a.chain b.1

pub fault_is_one : (d : ℕ → Descriptor) (q end head : ℕ) (f g : ChainFault)
    → FaultGives d q end head f → FaultGives d q end head g → f ≡ g
fault_is_one d q end head f g (inl a) (inl b) = a.is ∙ sym b.is
fault_is_one d q end head f g (inl a) (inr b) = let past = a.past in let inside = b.1.inside in
    absurd (omega arith)
fault_is_one d q end head f g (inr a) (inl b) = let past = b.past in let inside = a.1.inside in
    absurd (omega arith)
fault_is_one d q end head f g (inr a) (inr b) = breaks_same d q end head a.0 b.0 f g a.1 b.1
