-- How many numbers of requests a notice tells at once: its budget, and the rest of a portion.
use Rattle.std.specs.Prelude.{ℕ, ◌+◌, ◌<◌, ◌≤◌, List, [], ◌∷◌}
use Rattle.vb_core.specs.declared.kinds.Kind.{Kind}
use Rattle.vb_core.specs.declared.kinds.Kind.TheVariants.{Inflate, Deflate, Statistics, Hint}
use Rattle.vb_core.specs.declared.kinds.Kind.TheVariants.{Report}
use Rattle.vb_core.specs.declared.name.Named.{Named}
use Rattle.vb_monitor.specs.Accesses.{Access, ReadWord, CopyBytes, Acquire, Release, Full}
use Rattle.vb_monitor.specs.Accesses.{TellPages, TellFigures, TellId, Pause, Discard, WriteNumber}
use Rattle.vb_monitor.specs.Accesses.{WriteWord}

-- How many numbers these are: each names a page, or is skipped.
abbrev pub numbers_in : Named → ℕ
numbers_in named = named.pages + named.skipped

-- Of requests n numbers are no more than a budget of `most` and 255 others. The pieces of a report
-- or a hint aren't told in portions.
abbrev pub IsWithinBudget : Kind → ℕ → ℕ → Type 0
IsWithinBudget Inflate most n = n ≤ most + 255
IsWithinBudget Deflate most n = n ≤ most + 255
IsWithinBudget Statistics most n = Unit {0}
IsWithinBudget Hint most n = Unit {0}
IsWithinBudget Report most n = Unit {0}

-- Accesses of a notice that has told n numbers since it began, or paused last: it reads an entry or
-- copies bytes, and tells pages, only while it has told fewer than `most`. It pauses only once it
-- has told as many, and from then on none count.
abbrev pub KeepsBudget : Kind → ℕ → ℕ → List Access → Type 0
KeepsBudget kind most n [] = Unit {0}
KeepsBudget kind most n (TellPages of runs named ∷ xs) =
    (n < most) × IsWithinBudget kind most (n + numbers_in named)
    × KeepsBudget kind most (n + numbers_in named) xs
KeepsBudget kind most n (Pause ∷ xs) = (most ≤ n) × KeepsBudget kind most 0 xs
KeepsBudget kind most n (CopyBytes at answer ∷ xs) = (n < most) × KeepsBudget kind most n xs
KeepsBudget kind most n (Acquire ∷ xs) = (n < most) × KeepsBudget kind most n xs
KeepsBudget kind most n (ReadWord at answer ∷ xs) = KeepsBudget kind most n xs
KeepsBudget kind most n (Release ∷ xs) = KeepsBudget kind most n xs
KeepsBudget kind most n (Full ∷ xs) = KeepsBudget kind most n xs
KeepsBudget kind most n (TellFigures figures ∷ xs) = KeepsBudget kind most n xs
KeepsBudget kind most n (TellId id ∷ xs) = KeepsBudget kind most n xs
KeepsBudget kind most n (Discard cut ∷ xs) = KeepsBudget kind most n xs
KeepsBudget kind most n (WriteNumber at number ∷ xs) = KeepsBudget kind most n xs
KeepsBudget kind most n (WriteWord at word ∷ xs) = KeepsBudget kind most n xs
