-- What command lines ask for, and what is said of those that ask for nothing.
use Rattle.std.specs.Prelude.{◌≡◌, ◌≢◌, ℕ, List, [], ◌∷◌, ◌++◌, Option, Some, None, codes}
use Rattle.std.specs.Prelude.{Result, Ok, Err, if◌then◌else◌, map, string_bytes}
use Rattle.std.specs.Option.{option_map}
use Rattle.std.specs.IoError.{error_kind}
use Rattle.std.specs.Str.{bytes_eq}
use Rattle.std.specs.declared.alloc.Global.{Global}
use Rattle.std.specs.declared.io.Error.{Error}
use Rattle.std.specs.declared.io.ErrorKind.TheVariants.{OutOfMemory}
use Rattle.std.specs.declared.string.String.{String}
use Rattle.std.specs.declared.vec.Vec.{Vec}
use Rattle.clap.specs.Values.{kind_of}
use Rattle.clap.specs.declared.error.Error.{Error as ClapError}
use Rattle.clap.specs.declared.error.kind.ErrorKind.TheVariants.{OutOfMemory as NoRoom}
use Rattle.vb_run.specs.declared.plan.Bells.{Bells}
use Rattle.vb_run.specs.declared.plan.Bells.TheVariants.{Plain, Drop, Double, Late}
use Rattle.vb_command.specs.declared.arguments.ArgumentsFault.{ArgumentsFault}
use Rattle.vb_command.specs.declared.arguments.ArgumentsFault.TheVariants.{Refused, Memory}
use Rattle.vb_command.specs.declared.arguments.Asked.{Asked}
use Rattle.vb_command.specs.declared.arguments.Asked.TheVariants.{Run, Threads}

-- how doorbells are rung, by the word for it
abbrev pub bells_named : List ℕ → Option Bells
bells_named mode =
    if bytes_eq mode (codes "plain") then Some Plain
    else (if bytes_eq mode (codes "drop") then Some Drop
    else (if bytes_eq mode (codes "double") then Some Double
    else (if bytes_eq mode (codes "late") then Some Late else None)))

-- the same after `--bells=`
abbrev pub bells_joined : List ℕ → Option Bells
bells_joined option =
    if bytes_eq option (codes "--bells=plain") then Some Plain
    else (if bytes_eq option (codes "--bells=drop") then Some Drop
    else (if bytes_eq option (codes "--bells=double") then Some Double
    else (if bytes_eq option (codes "--bells=late") then Some Late else None)))

-- the words after `run`: none
abbrev pub run_with : List (List ℕ) → Option Asked
run_with [] = Some Run
run_with (word ∷ words) = None

-- the words after `threads`: none, `--bells=MODE`, or `--bells MODE`
abbrev pub threads_with : List (List ℕ) → Option Asked
threads_with [] = Some (Threads Plain)
threads_with (option ∷ []) = option_map Threads (bells_joined option)
threads_with (option ∷ mode ∷ []) =
    if bytes_eq option (codes "--bells") then option_map Threads (bells_named mode) else None
threads_with (option ∷ mode ∷ more ∷ words) = None

-- what a word asks for with these words after it
abbrev pub command_of : List ℕ → List (List ℕ) → Option Asked
command_of word words =
    if bytes_eq word (codes "run") then run_with words
    else (if bytes_eq word (codes "threads") then threads_with words else None)

-- what the words of a command line ask for, the program's name first; with no other word for a run
abbrev pub asked_of : List (List ℕ) → Option Asked
asked_of [] = Some Run
asked_of (name ∷ []) = Some Run
asked_of (name ∷ word ∷ words) = command_of word words

-- the same, if the words could be had
abbrev pub asked_by : Result (Vec (String Global) Global) ArgumentsFault → Option Asked
asked_by (Err fault) = None
asked_by (Ok words) = asked_of (map string_bytes words.items)

abbrev pub IsFaultOf : Error → ArgumentsFault → Type 0
IsFaultOf fault Memory = error_kind fault ≡ OutOfMemory
IsFaultOf fault Refused = error_kind fault ≢ OutOfMemory

abbrev pub IsRefusalOf : ClapError → ArgumentsFault → Type 0
IsRefusalOf fault Memory = kind_of fault ≡ NoRoom
IsRefusalOf fault Refused = kind_of fault ≢ NoRoom

-- what standard error says
abbrev pub refusal_line : ArgumentsFault → List ℕ
refusal_line Refused = codes "usage: vb_sim run | threads [--bells MODE]" ++ 10 ∷ []
refusal_line Memory = codes "run: memory" ++ 10 ∷ []

-- the exit status
abbrev pub refusal_status : ArgumentsFault → ℕ
refusal_status Refused = 2
refusal_status Memory = 3
