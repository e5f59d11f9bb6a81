-- Parts in a row.
use Rattle.std.proofs.Common.{◌≡◌, ℕ, List, [], ◌∷◌, ◌++◌, refl, sym, ◌∙◌, ap, append_assoc}
use Rattle.std.proofs.Common.{append-nil}
use Rattle.vb_core.specs.Format.{in_a_row}
pub use Rattle.std.proofs.lemmas.List.Sums.{fold_more}

-- more after a row is appended to it
pub row_more : (parts : List (List ℕ)) (more : List ℕ)
    → in_a_row parts more ≡ in_a_row parts [] ++ more
row_more [] more = refl
row_more (part ∷ parts) more = ap (λ (xs : List ℕ). part ++ xs) (row_more parts more)
    ∙ sym (append_assoc part (in_a_row parts []) more)

-- bytes that are these parts
pub record IsRow (parts : List (List ℕ)) (bytes : List ℕ) : Type 0 where
  pub is : bytes ≡ in_a_row parts []

-- a row after another one
pub joins : (ps qs : List (List ℕ)) (old new : List ℕ) → IsRow ps old
    → new ≡ old ++ in_a_row qs [] → IsRow (ps ++ qs) new
joins ps qs old new e f =
    record { is = f ∙ ap (λ (xs : List ℕ). xs ++ in_a_row qs []) e.is ∙ behind ps }
  where
    behind : (ps : List (List ℕ)) → in_a_row ps [] ++ in_a_row qs [] ≡ in_a_row (ps ++ qs) []
    behind [] = refl
    behind (p ∷ ps) = append_assoc p (in_a_row ps []) (in_a_row qs [])
        ∙ ap (λ (xs : List ℕ). p ++ xs) (behind ps)

-- one more part after a row
pub adds : (ps : List (List ℕ)) (p old new : List ℕ) → IsRow ps old → new ≡ old ++ p
    → IsRow (ps ++ (p ∷ [])) new
adds ps p old new e f =
    joins ps (p ∷ []) old new e (f ∙ ap (λ (xs : List ℕ). old ++ xs) (sym (append-nil p)))
