-- What a line of a script for guests on threads says.
use Rattle.std.specs.Prelude.{◌-◌, Bool, true, false, if◌then◌else◌, List, [], ◌∷◌, length}
use Rattle.std.specs.Prelude.{slice_get, Option, Some, None, ℕ}
use Rattle.std.specs.Option.{option_map, option_and_then}
use Rattle.vb_model.specs.declared.calls.Event.{Event}
use Rattle.vb_model.specs.declared.calls.Event.TheVariants.{Plug as Plugs, Guest as OnGuest}
use Rattle.vb_script.specs.declared.names.ThreadsForm.{ThreadsForm}
use Rattle.vb_script.specs.declared.names.ThreadsForm.TheVariants.{Rounds as OfRounds}
use Rattle.vb_script.specs.declared.names.ThreadsForm.TheVariants.{Cpu as OfCpu, Event as OfEvent}
use Rattle.vb_script.specs.declared.threads.ThreadsLine.{ThreadsLine}
use Rattle.vb_script.specs.declared.threads.ThreadsLine.TheVariants.{Plug, Rounds, Cpu, Call}
use Rattle.vb_script.specs.Events.{event_of}
use Rattle.vb_script.specs.Names.{threads_form_of}
use Rattle.vb_script.specs.Texts.{Language}
use Rattle.vb_script.specs.Words.{only_number, two_numbers}

abbrev pub is_plug : ThreadsLine → Bool
is_plug (Plug pages queue_size processors) = true
is_plug (Rounds floor count) = false
is_plug (Cpu cpu) = false
is_plug (Call guest call) = false

abbrev pub is_plug_or_none : Option ThreadsLine → Bool
is_plug_or_none None = true
is_plug_or_none (Some line) = is_plug line

-- Plugs come first, and rounds after them at once: either comes after a plug, or is the first.
abbrev pub are_plugs : List ThreadsLine → Bool
are_plugs earlier = is_plug_or_none (slice_get earlier (length earlier - 1))

-- of the events a plug at its place, and each call
abbrev pub event_line : List ThreadsLine → Event → Option ThreadsLine
event_line earlier (Plugs size) =
    if are_plugs earlier then Some (Plug size.pages size.queue_size size.processors) else None
event_line earlier (OnGuest guest call) = Some (Call guest call)
event_line earlier _ = None

-- rounds FLOOR COUNT
abbrev pub rounds_line : List ThreadsLine → List (List ℕ) → Option ThreadsLine
rounds_line earlier words =
    if are_plugs earlier then option_map (λ all. Rounds all.0 all.1) (two_numbers words) else None

abbrev pub formed : ThreadsForm → List ThreadsLine → List ℕ → List (List ℕ) → Option ThreadsLine
formed OfEvent earlier word words =
    option_and_then (event_line earlier) (event_of (word ∷ words))
formed OfRounds earlier word words = rounds_line earlier words
formed OfCpu earlier word words = option_map Cpu (only_number words)

-- what a line's words say after such lines
abbrev pub threads : Language ThreadsLine
threads earlier [] = None
threads earlier (word ∷ words) =
    option_and_then (λ form. formed form earlier word words) (threads_form_of word)
