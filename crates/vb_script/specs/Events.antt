-- The event that a line of words names.
use Rattle.std.specs.Prelude.{ℕ, List, [], ◌∷◌, Option, Some, None, Bool, true, false}
use Rattle.std.specs.Option.{option_map, option_and_then}
use Rattle.vb_virtio.specs.declared.negotiation.TheConstants.{OFFERED_FEATURES}
use Rattle.vb_model.specs.declared.calls.Call.TheVariants.{Init as CallInit, Reset as CallReset}
use Rattle.vb_model.specs.declared.calls.Call.TheVariants.{Alloc as CallAlloc, Free as CallFree}
use Rattle.vb_model.specs.declared.calls.Call.TheVariants.{Read as CallRead, Write as CallWrite}
use Rattle.vb_model.specs.declared.calls.Call.TheVariants.{Scribble as CallScribble}
use Rattle.vb_model.specs.declared.calls.Call.TheVariants.{Inflate as CallInflate}
use Rattle.vb_model.specs.declared.calls.Call.TheVariants.{Deflate as CallDeflate, Oom as CallOom}
use Rattle.vb_model.specs.declared.calls.Call.TheVariants.{Report as CallReport, Stats as CallStats}
use Rattle.vb_model.specs.declared.calls.Call.TheVariants.{Reap as CallReap, Take as CallTake}
use Rattle.vb_model.specs.declared.calls.Call.TheVariants.{Work as CallWork, Finish as CallFinish}
use Rattle.vb_model.specs.declared.calls.Call.TheVariants.{Sweep as CallSweep, Ask as CallAsk}
use Rattle.vb_model.specs.declared.calls.Call.TheVariants.{Serve as CallServe}
use Rattle.vb_model.specs.declared.calls.Call.TheVariants.{SetTarget}
use Rattle.vb_model.specs.declared.calls.Query.TheVariants.{Places as QueryPlaces}
use Rattle.vb_model.specs.declared.calls.Query.TheVariants.{Balloon as QueryBalloon}
use Rattle.vb_model.specs.declared.calls.Query.TheVariants.{Memory as QueryMemory}
use Rattle.vb_model.specs.declared.calls.Query.TheVariants.{Backing as QueryBacking}
use Rattle.vb_model.specs.declared.calls.Event.{Event}
use Rattle.vb_model.specs.declared.calls.Event.TheVariants.{Plug as Plugs, Unplug as Unplugs}
use Rattle.vb_model.specs.declared.calls.Event.TheVariants.{Restart as Restarts, Guest as OnGuest}
use Rattle.vb_model.specs.declared.calls.Event.TheVariants.{Query as OnQuery, Balance as Balances}
use Rattle.vb_model.specs.declared.calls.Event.TheVariants.{Frames as CountFrames}
use Rattle.vb_script.specs.declared.names.Form.{Form}
use Rattle.vb_script.specs.declared.names.Form.TheVariants.{Frames, Init, Pages, One, Two, Three}
use Rattle.vb_script.specs.declared.names.Form.TheVariants.{Four, Bytes}
use Rattle.vb_script.specs.declared.names.OneNumber.{OneNumber}
use Rattle.vb_script.specs.declared.names.OneNumber.TheVariants.{Unplug, Restart, Reset, Stats}
use Rattle.vb_script.specs.declared.names.OneNumber.TheVariants.{Work, Ask, Balance, Places}
use Rattle.vb_script.specs.declared.names.OneNumber.TheVariants.{Balloon, Memory}
use Rattle.vb_script.specs.declared.names.TwoNumbers.{TwoNumbers}
use Rattle.vb_script.specs.declared.names.TwoNumbers.TheVariants.{Inflate, Deflate, Oom, Report}
use Rattle.vb_script.specs.declared.names.TwoNumbers.TheVariants.{Reap, Take, Serve, Sweep, Target}
use Rattle.vb_script.specs.declared.names.TwoNumbers.TheVariants.{Backing}
use Rattle.vb_script.specs.declared.names.ThreeNumbers.{ThreeNumbers}
use Rattle.vb_script.specs.declared.names.ThreeNumbers.TheVariants.{Plug, Alloc, Finish}
use Rattle.vb_script.specs.declared.names.FourNumbers.{FourNumbers}
use Rattle.vb_script.specs.declared.names.FourNumbers.TheVariants.{Free, Read}
use Rattle.vb_script.specs.declared.names.WithBytes.{WithBytes}
use Rattle.vb_script.specs.declared.names.WithBytes.TheVariants.{Write, Scribble}
use Rattle.vb_script.specs.Names.{form_of, pages_query_of}
use Rattle.vb_script.specs.Values.{features_of, bytes_of, positive_of}
use Rattle.vb_script.specs.Words.{◌>>=◌, number_of, only_word, only_number, two_numbers}
use Rattle.vb_script.specs.Words.{three_numbers, four_numbers, three_numbers_and_a_word}

-- NAME NUMBER
abbrev pub one_number : OneNumber → ℕ → Event
one_number Unplug guest = Unplugs guest
one_number Restart guest = Restarts guest
one_number Reset guest = OnGuest guest CallReset
one_number Stats guest = OnGuest guest CallStats
one_number Work guest = OnGuest guest CallWork
one_number Ask guest = OnGuest guest CallAsk
one_number Balance floor = Balances floor
one_number Places guest = OnQuery guest QueryPlaces
one_number Balloon guest = OnQuery guest QueryBalloon
one_number Memory guest = OnQuery guest QueryMemory

-- NAME GUEST NUMBER
abbrev pub two_number : TwoNumbers → ℕ → ℕ → Event
two_number Inflate guest pages = OnGuest guest (CallInflate pages)
two_number Deflate guest pages = OnGuest guest (CallDeflate pages)
two_number Oom guest pages = OnGuest guest (CallOom pages)
two_number Report guest from = OnGuest guest (CallReport from)
two_number Reap guest queue = OnGuest guest (CallReap queue)
two_number Take guest queue = OnGuest guest (CallTake queue)
two_number Serve guest queue = OnGuest guest (CallServe queue)
two_number Sweep guest page = OnGuest guest (CallSweep page)
two_number Target guest pages = OnGuest guest (SetTarget pages)
two_number Backing guest page = OnQuery guest (QueryBacking page)

-- NAME NUMBER NUMBER NUMBER
abbrev pub three_number : ThreeNumbers → ℕ → ℕ → ℕ → Event
three_number Plug pages queue_size processors =
    Plugs (record { pages = pages; queue_size = queue_size; processors = processors })
three_number Alloc guest cpu order = OnGuest guest (CallAlloc cpu order)
three_number Finish guest queue index = OnGuest guest (CallFinish queue index)

-- NAME GUEST NUMBER NUMBER NUMBER; at least one byte is read
abbrev pub four_number : FourNumbers → ℕ → ℕ → ℕ → ℕ → Option Event
four_number Free guest cpu start order = Some (OnGuest guest (CallFree cpu start order))
four_number Read guest page offset len =
    option_map (λ len. OnGuest guest (CallRead page offset len)) (positive_of len)

-- NAME GUEST PAGE OFFSET BYTES
abbrev pub with_bytes : WithBytes → ℕ → ℕ → ℕ → List ℕ → Event
with_bytes Write guest page offset bytes = OnGuest guest (CallWrite page offset bytes)
with_bytes Scribble guest page offset bytes = OnGuest guest (CallScribble page offset bytes)

-- init GUEST, init GUEST FEATURES
abbrev pub init_event : List (List ℕ) → Option Event
init_event [] = None
init_event (guest ∷ []) =
    option_map (λ guest. OnGuest guest (CallInit OFFERED_FEATURES)) (number_of guest)
init_event (guest ∷ word ∷ words) = do
  guest ← number_of guest
  word ← only_word (word ∷ words)
  features ← features_of word
  Some (OnGuest guest (CallInit features))

-- pages GUEST PLACE
abbrev pub pages_event : List (List ℕ) → Option Event
pages_event [] = None
pages_event (guest ∷ words) = do
  guest ← number_of guest
  word ← only_word words
  query ← pages_query_of word
  Some (OnQuery guest query)

abbrev pub bytes_event : WithBytes → List (List ℕ) → Option Event
bytes_event name words = do
  all ← three_numbers_and_a_word words
  bytes ← bytes_of all.3
  Some (with_bytes name all.0 all.1 all.2 bytes)

-- what the words after an event's say of it
abbrev pub said : Form → List (List ℕ) → Option Event
said Frames [] = Some CountFrames
said Frames (word ∷ words) = None
said Init words = init_event words
said Pages words = pages_event words
said (One name) words = option_map (one_number name) (only_number words)
said (Two name) words = option_map (λ all. two_number name all.0 all.1) (two_numbers words)
said (Three name) words =
    option_map (λ all. three_number name all.0 all.1 all.2) (three_numbers words)
said (Four name) words =
    option_and_then (λ all. four_number name all.0 all.1 all.2 all.3) (four_numbers words)
said (Bytes name) words = bytes_event name words

-- the event that a line's words name
abbrev pub event_of : List (List ℕ) → Option Event
event_of [] = None
event_of (word ∷ words) = option_and_then (λ form. said form words) (form_of word)

-- whether it is a call on a guest
abbrev pub is_call : Option Event → Bool
is_call None = false
is_call (Some (OnGuest guest call)) = true
is_call (Some _) = false
