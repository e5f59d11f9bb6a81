-- How many accesses a notice makes.
use Rattle.std.specs.Prelude.{ℕ, ◌+◌, List, [], ◌∷◌}
use Rattle.vb_monitor.specs.Accesses.{Access, ReadWord, CopyBytes, Acquire, Release, Full}
use Rattle.vb_monitor.specs.Accesses.{TellPages, TellFigures, TellId, Pause, Discard, WriteNumber}
use Rattle.vb_monitor.specs.Accesses.{WriteWord}

-- 1 for each access but a discard or a pause.
abbrev pub no_discard : Access → ℕ
no_discard (ReadWord at answer) = 1
no_discard (CopyBytes at answer) = 1
no_discard Acquire = 1
no_discard Release = 1
no_discard Full = 1
no_discard (TellPages kind runs named) = 1
no_discard (TellFigures figures) = 1
no_discard (TellId id) = 1
no_discard Pause = 0
no_discard (Discard cut) = 0
no_discard (WriteNumber at number) = 1
no_discard (WriteWord at word) = 1

-- How many accesses of a list are neither discards nor pauses.
abbrev pub others : List Access → ℕ
others [] = 0
others (x ∷ xs) = no_discard x + others xs
