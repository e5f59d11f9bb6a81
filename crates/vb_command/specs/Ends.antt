-- How a run ends: what is written where, and the exit status.
use Rattle.std.specs.Prelude.{◌≡◌, ◌≤◌, ◌⊎◌, ℕ, length, List, [], ◌∷◌, ◌++◌, Option, Err}
use Rattle.std.specs.Prelude.{IfSome, codes}
use Rattle.std.specs.Fmt.{decimal}
use Rattle.std.specs.Io.KnownBytes.{Appends, Keeps}
use Rattle.vb_model.specs.declared.replies.Reply.{Reply}
use Rattle.vb_script.specs.Texts.{Said, script_of}
use Rattle.vb_command.specs.Faults.{IfBadLine, UnlessStream, status_of}
use Rattle.vb_command.specs.Plays.{Prints}
use Rattle.vb_command.specs.declared.fault.ProgramFault.{ProgramFault}
use Rattle.vb_command.specs.declared.fault.ProgramFault.TheVariants.{BadLine, BadPlan, Memory}
use Rattle.vb_command.specs.declared.fault.ProgramFault.TheVariants.{Audit}
use Rattle.vb_command.specs.declared.fault.ProgramFault.TheVariants.{Stream}
use Rattle.vb_command.specs.declared.input.TheConstants.{MAX_INPUT}

-- what standard error says of a fault
abbrev pub fault_line : ProgramFault → List ℕ
fault_line (BadLine number) =
    codes "script: line " ++ (decimal number ++ (codes ": bad line" ++ 10 ∷ []))
fault_line BadPlan = codes "run: bad plan" ++ 10 ∷ []
fault_line Memory = codes "run: memory" ++ 10 ∷ []
fault_line Audit = codes "run: audit" ++ 10 ∷ []
fault_line Stream = []

-- the line is written and the status is this one, or the line can't be written
abbrev pub Says : List ℕ → ℕ → Option (List ℕ) → Option (List ℕ) → ℕ → Type 0
Says line status old new result = ((result ≡ status) × Appends old new line) ⊎ (result ≡ 4)

-- a text that is no longer than a script may be
abbrev pub IsWithinBound : List ℕ → Type 0
IsWithinBound text = length text ≤ MAX_INPUT

-- Where a text is read, its replies are printed and the status is 0; or there is a fault, which
-- says so by its line and its status, and unless a stream is broken nothing is printed.
abbrev pub Ends : (Said → List Reply → Type 0) → Option (List ℕ) → Option (List ℕ)
    → Option (List ℕ) → Option (List ℕ) → Option (List ℕ) → ℕ → Type 0
Ends Played input output written errors said status =
    ((status ≡ 0)
    × IfSome input (λ text. IsWithinBound text × Prints Played (script_of text) output written)
    × Keeps errors said)
    ⊎ ((fault : ProgramFault)
    × IfBadLine fault (λ number. IfSome input (λ text. IsWithinBound text
    × (script_of text ≡ Err number)))
    × UnlessStream fault (Keeps output written)
    × Says (fault_line fault) (status_of fault) errors said status)
