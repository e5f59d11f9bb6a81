-- What is put after the bytes that a writer has and those that are held for it, worked out.
use Rattle.std.proofs.Common.{ℕ, List, [], Some, codes, length, refl, ap, arith}
use Rattle.std.specs.Prelude.{slice_index}
use Rattle.vb_reply.specs.Held.{Puts}

-- it is held, or written with all that was held
puts : Puts (Some (codes "a")) (codes "b") (Some (codes "a")) (codes "bc") (codes "c")
    × Puts (Some (codes "a")) (codes "b") (Some (codes "abc")) [] (codes "c")
puts = (refl, refl)

-- not without what was held, before it, or twice
not_put : (Puts (Some (codes "a")) (codes "b") (Some (codes "a")) (codes "c") (codes "c") → ⊥)
    × (Puts (Some (codes "a")) (codes "b") (Some (codes "ac")) (codes "b") (codes "c") → ⊥)
    × (Puts (Some (codes "a")) (codes "b") (Some (codes "abc")) (codes "c") (codes "c") → ⊥)
not_put = (
  λ did. omega (arith, ap (λ (bytes : List ℕ). length bytes) did),
  λ did. omega (arith, ap (λ bytes. slice_index bytes 1) did),
  λ did. omega (arith, ap (λ (bytes : List ℕ). length bytes) did),
)
