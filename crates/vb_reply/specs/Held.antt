-- What is put after the bytes that a writer has and those that are held for it.
use Rattle.std.specs.Prelude.{ℕ, List, Option}
use Rattle.std.specs.Io.KnownBytes.{Appends, append_known}

-- old and held before, new and kept after it
abbrev pub Puts : Option (List ℕ) → List ℕ → Option (List ℕ) → List ℕ → List ℕ → Type 0
Puts old held new kept text = Appends (append_known old held) (append_known new kept) text
