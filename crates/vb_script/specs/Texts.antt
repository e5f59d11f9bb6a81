-- The lines of a text, and what they say.
use Rattle.std.specs.Prelude.{ℕ, ◌+◌, ◌==◌, ◌&&◌, nat_lt, Bool, true, false, if◌then◌else◌}
use Rattle.std.specs.Prelude.{List, [], ◌∷◌, ◌++◌, length, slice_get, Option, Some, None, is_none}
use Rattle.std.specs.Prelude.{is_some, Result, Ok, Err}
use Rattle.std.specs.List.{slice_split}
use Rattle.std.specs.Option.{option_map}
use Rattle.vb_model.specs.declared.calls.Event.{Event}
use Rattle.vb_script.specs.declared.lines.LineFault.{LineFault}
use Rattle.vb_script.specs.declared.lines.Pace.{Pace}
use Rattle.vb_script.specs.declared.script.TheConstants.{MAX_SPARES}
use Rattle.vb_script.specs.Events.{event_of}
use Rattle.vb_script.specs.Lines.{spare_of, host_of}
use Rattle.vb_script.specs.Words.{words_of}

-- nothing after the last line feed is no line
abbrev pub last_line : List ℕ → List (List ℕ)
last_line [] = []
last_line (byte ∷ bytes) = (byte ∷ bytes) ∷ []

abbrev pub ended : List (List ℕ) → List (List ℕ)
ended [] = []
ended (line ∷ []) = last_line line
ended (line ∷ next ∷ lines) = line ∷ ended (next ∷ lines)

-- a line feed ends a line, and the last one may lack it
abbrev pub lines_of : List ℕ → List (List ℕ)
lines_of text = ended (slice_split (λ byte. byte == 10) text)

-- the empty lines and the comments
abbrev pub is_skipped : List ℕ → Bool
is_skipped [] = true
is_skipped (byte ∷ bytes) = byte == 35

-- what a line after the spare devices says, by what the lines before it said there, and its words
abbrev pub Language : Type 0 → Type 0
Language Item = List Item → List (List ℕ) → Option Item

-- what the lines so far say after the first one: the spare devices, and what happens
pub record Told (Item : Type 0) : Type 0 where
  pub frames : ℕ
  pub spares : List Pace
  pub events : List Item

-- a spare device is told before all else, and there are at most MAX_SPARES
abbrev pub with_spare : {Item : Type 0} → Pace → Told Item → Option (Told Item)
with_spare pace told =
    if is_none (slice_get told.events 0) && nat_lt (length told.spares) MAX_SPARES
    then Some (record told { spares = told.spares ++ pace ∷ [] })
    else None

abbrev pub with_event : {Item : Type 0} → Told Item → Item → Told Item
with_event told event = record told { events = told.events ++ event ∷ [] }

abbrev pub with_words : {Item : Type 0} → Language Item → Result (Option Pace) LineFault
    → List (List ℕ) → Told Item → Option (Told Item)
with_words language (Err fault) words told = None
with_words language (Ok (Some pace)) words told = with_spare pace told
with_words language (Ok None) words told =
    option_map (with_event told) (language told.events words)

-- a line after the first one tells of a spare device, or what the language has
abbrev pub with_line : {Item : Type 0} → Language Item → List ℕ → Told Item → Option (Told Item)
with_line language line told =
    with_words language (spare_of (words_of line)) (words_of line) told

-- the lines that aren't skipped, each with its number among all, of which n were passed
abbrev pub numbered : ℕ → List (List ℕ) → List (ℕ × List ℕ)
numbered passed [] = []
numbered passed (line ∷ lines) =
    if is_skipped line then numbered (passed + 1) lines
    else (passed + 1, line) ∷ numbered (passed + 1) lines

abbrev pub or_bad : {T : Type 0} → ℕ → Option T → (T → Result T ℕ) → Result T ℕ
or_bad number None go = Err number
or_bad number (Some told) go = go told

-- what all of these lines say, or the number of the first that says nothing there
abbrev pub with_lines : {Item : Type 0} → Language Item → List (ℕ × List ℕ) → Told Item
    → Result (Told Item) ℕ
with_lines language [] told = Ok told
with_lines language (line ∷ lines) told =
    or_bad line.0 (with_line language line.1 told) (λ told. with_lines language lines told)

abbrev pub host_told : {Item : Type 0} → ℕ → Told Item
host_told frames = record { frames = frames; spares = []; events = [] }

abbrev pub whole : {T : Type 0} → Result T ℕ → Result (Option T) ℕ
whole (Err number) = Err number
whole (Ok told) = Ok (Some told)

abbrev pub behind_host : {Item : Type 0} → Language Item → ℕ → Option ℕ → List (ℕ × List ℕ)
    → Result (Option (Told Item)) ℕ
behind_host language number None lines = Err number
behind_host language number (Some frames) lines =
    whole (with_lines language lines (host_told frames))

abbrev pub script_with : {Item : Type 0} → Language Item → List (ℕ × List ℕ)
    → Result (Option (Told Item)) ℕ
script_with language [] = Ok None
script_with language (line ∷ lines) =
    behind_host language line.0 (host_of (words_of line.1)) lines

-- what a text says: the first of its lines the host's frames; a text without any says nothing
unfoldable pub told_in : {Item : Type 0} → Language Item → List ℕ → Result (Option (Told Item)) ℕ
told_in language text = script_with language (numbered 0 (lines_of text))

-- what a script of events says
abbrev pub Said : Type 0
Said = Told Event

-- an event may come after any others
abbrev pub events : Language Event
events earlier words = event_of words

unfoldable pub script_of : List ℕ → Result (Option Said) ℕ
script_of text = told_in events text

abbrev pub is_host_first : List (ℕ × List ℕ) → Bool
is_host_first [] = false
is_host_first (line ∷ lines) = is_some (host_of (words_of line.1))

-- whether the first line that isn't skipped gives a host its frames
unfoldable pub begins_with_host : List ℕ → Bool
begins_with_host text = is_host_first (numbered 0 (lines_of text))
