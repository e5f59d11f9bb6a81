-- How a command ends.
use Rattle.std.specs.Prelude.{◌≡◌, ◌⊎◌, ℕ, List, Option, Some, None, Result, IfErr}
use Rattle.std.specs.Io.KnownBytes.{Keeps}
use Rattle.std.specs.declared.alloc.Global.{Global}
use Rattle.std.specs.declared.string.String.{String}
use Rattle.std.specs.declared.vec.Vec.{Vec}
use Rattle.vb_command.specs.Arguments.{asked_by, refusal_line, refusal_status}
use Rattle.vb_command.specs.Ends.{Ends, Says}
use Rattle.vb_command.specs.Plays.{RunsSafely}
use Rattle.vb_command.specs.Threads.{ThreadsEnds}
use Rattle.vb_command.specs.declared.arguments.ArgumentsFault.{ArgumentsFault}
use Rattle.vb_command.specs.declared.arguments.Asked.{Asked}
use Rattle.vb_command.specs.declared.arguments.Asked.TheVariants.{Run, Threads}

-- as what was asked for ends
abbrev pub EndsAs : Option Asked → Option (List ℕ) → Option (List ℕ) → Option (List ℕ)
    → Option (List ℕ) → Option (List ℕ) → ℕ → Type 0
EndsAs None input output written errors said status = ⊥
EndsAs (Some Run) input output written errors said status =
    Ends RunsSafely input output written errors said status
EndsAs (Some (Threads bells)) input output written errors said status =
    ThreadsEnds bells input output written errors said status

-- As what the words ask for ends; or nothing is printed, and a line says why: where the words
-- couldn't be had, by the fault of that.
abbrev pub CommandEnds : Result (Vec (String Global) Global) ArgumentsFault → Option (List ℕ)
    → Option (List ℕ) → Option (List ℕ) → Option (List ℕ) → Option (List ℕ) → ℕ → Type 0
CommandEnds words input output written errors said status =
    EndsAs (asked_by words) input output written errors said status
    ⊎ ((fault : ArgumentsFault) × IfErr words (λ given. fault ≡ given) × Keeps output written
    × Says (refusal_line fault) (refusal_status fault) errors said status)
