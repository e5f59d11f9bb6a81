-- Laws of what is left as it was.
use Rattle.std.proofs.lemmas.Bool.{cases_eq}
use Rattle.std.{proofs.Common.{arith, inl, inr}, specs.Prelude.{◌≡◌, ℕ, ◌+◌, ◌<◌, ◌≤◌, List}}
use Rattle.vb_ram.{proofs.FieldLaws.same_page, specs.Pages.{Pages, byte_at, SameBut, SameIn}}
use Rattle.vb_ring.specs.Frame.{Extent, IsIn, IsOutside, SameOutside}

-- A byte that isn't where a write was.
pub byte_kept : (old new : Pages) (p lo hi p' o : ℕ) → SameBut old new p lo hi
    → ¬ IsIn (record { page = p; from = lo; to = hi }) p' o → byte_at new p' o ≡ byte_at old p' o
byte_kept old new p lo hi p' o w out = elim (cases_eq p' p) [
  | inl e ↦ grind arith
  | inr ne ↦ (same_page old new p' o (o + 1) (w.others p' ne)).bytes o (omega arith) (omega arith)
]

-- Bytes that lie outside all that changed are as before.
pub outside_in : (old new : Pages) (es : List Extent) (p lo hi : ℕ) → SameOutside old new es
    → ((o : ℕ) → lo ≤ o → o < hi → IsOutside es p o) → SameIn old new p lo hi
outside_in old new es p lo hi same out = record { bytes = λ o l h. same.bytes p o (out o l h) }
