-- Numbers that rise.
use Rattle.std.specs.Prelude.{ℕ, suc, ◌<◌, List, length, slice_index_or}

-- each is above the one before it
abbrev pub IsRising : List ℕ → Type 0
IsRising xs = (i : ℕ) → suc i < length xs → slice_index_or xs i 0 < slice_index_or xs (suc i) 0
