-- The numbers below a limit that pass a test.
use Rattle.std.specs.Prelude.{ℕ, zero, suc, Bool, List, [], ◌∷◌, ◌++◌, if◌then◌else◌}

-- The numbers below n that pass the test, in rising order.
unfoldable pub numbers : (ℕ → Bool) → ℕ → List ℕ
numbers p zero = []
numbers p (suc n) = if p n then numbers p n ++ n ∷ [] else numbers p n
