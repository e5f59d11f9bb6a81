-- Numbers that differ by a test are no equal ones.
use Rattle.std.specs.Prelude.{ℕ, false, ◌==◌, ◌≡◌}
use Rattle.std.proofs.lemmas.Bool.{eq-eqb}

pub differ : {A : Type 0} (a b : ℕ) → (a == b) ≡ false → a ≡ b → A
differ a b h e = absurd (let t = eq-eqb a b e in cc)
