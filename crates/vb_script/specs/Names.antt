-- The words that name events, places and paces.
use Rattle.std.specs.Prelude.{ℕ, List, [], ◌∷◌, Option, Some, None, if◌then◌else◌, codes}
use Rattle.std.specs.Str.{bytes_eq}
use Rattle.vb_model.specs.declared.places.Place.TheVariants.{Free as AtFree, Used, Giving, Lent}
use Rattle.vb_model.specs.declared.places.Place.TheVariants.{Taking, Stranded, Reporting}
use Rattle.vb_model.specs.declared.calls.Query.{Query}
use Rattle.vb_model.specs.declared.calls.Query.TheVariants.{PagesAt, PagesBallooned}
use Rattle.vb_script.specs.declared.lines.Pace.{Pace}
use Rattle.vb_script.specs.declared.lines.Pace.TheVariants.{Immediate, Paced, Monitor}
use Rattle.vb_script.specs.declared.names.Form.{Form}
use Rattle.vb_script.specs.declared.names.Form.TheVariants.{Frames, Init, Pages, One, Two, Three}
use Rattle.vb_script.specs.declared.names.Form.TheVariants.{Four, Bytes}
use Rattle.vb_script.specs.declared.names.OneNumber.TheVariants.{Unplug, Restart, Reset, Stats}
use Rattle.vb_script.specs.declared.names.OneNumber.TheVariants.{Work, Ask, Balance, Places}
use Rattle.vb_script.specs.declared.names.OneNumber.TheVariants.{Balloon, Memory}
use Rattle.vb_script.specs.declared.names.TwoNumbers.TheVariants.{Inflate, Deflate, Oom, Report}
use Rattle.vb_script.specs.declared.names.TwoNumbers.TheVariants.{Reap, Take, Serve, Sweep, Target}
use Rattle.vb_script.specs.declared.names.TwoNumbers.TheVariants.{Backing}
use Rattle.vb_script.specs.declared.names.ThreeNumbers.TheVariants.{Plug, Alloc, Finish}
use Rattle.vb_script.specs.declared.names.FourNumbers.TheVariants.{Free, Read}
use Rattle.vb_script.specs.declared.names.WithBytes.TheVariants.{Write, Scribble}
use Rattle.vb_script.specs.declared.names.ThreadsForm.{ThreadsForm}
use Rattle.vb_script.specs.declared.names.ThreadsForm.TheVariants.{Rounds, Cpu, Event}
use denote.Ref.{Bor}

-- what the first entry with this word says
abbrev pub meaning_of : {T : Type 0} → List (List ℕ × T) → List ℕ → Option T
meaning_of [] word = None
meaning_of ((name, meaning) ∷ table) word =
    if bytes_eq name word then Some meaning else meaning_of table word

-- the same in a table of the code's
abbrev pub found_in : {T : Type 0} → List (Bor (List ℕ) × T) → List ℕ → Option T
found_in [] word = None
found_in (entry ∷ table) word =
    if bytes_eq entry.0.now word then Some entry.1 else found_in table word

abbrev pub forms : List (List ℕ × Form)
forms =
    (codes "plug", Three Plug)
    ∷ (codes "unplug", One Unplug)
    ∷ (codes "restart", One Restart)
    ∷ (codes "reset", One Reset)
    ∷ (codes "init", Init)
    ∷ (codes "alloc", Three Alloc)
    ∷ (codes "free", Four Free)
    ∷ (codes "read", Four Read)
    ∷ (codes "write", Bytes Write)
    ∷ (codes "scribble", Bytes Scribble)
    ∷ (codes "inflate", Two Inflate)
    ∷ (codes "deflate", Two Deflate)
    ∷ (codes "oom", Two Oom)
    ∷ (codes "report", Two Report)
    ∷ (codes "stats", One Stats)
    ∷ (codes "reap", Two Reap)
    ∷ (codes "take", Two Take)
    ∷ (codes "work", One Work)
    ∷ (codes "finish", Three Finish)
    ∷ (codes "serve", Two Serve)
    ∷ (codes "sweep", Two Sweep)
    ∷ (codes "ask", One Ask)
    ∷ (codes "target", Two Target)
    ∷ (codes "balance", One Balance)
    ∷ (codes "places", One Places)
    ∷ (codes "pages", Pages)
    ∷ (codes "balloon", One Balloon)
    ∷ (codes "memory", One Memory)
    ∷ (codes "backing", Two Backing)
    ∷ (codes "frames", Frames)
    ∷ []

-- which words come after an event's
unfoldable pub form_of : List ℕ → Option Form
form_of word = meaning_of forms word

-- the lines of a script for guests on threads: plugs, rounds, processors, and what these call
unfoldable pub threads_form_of : List ℕ → Option ThreadsForm
threads_form_of word = meaning_of lines word
  where
    lines : List (List ℕ × ThreadsForm)
    lines =
        (codes "plug", Event)
        ∷ (codes "rounds", Rounds)
        ∷ (codes "cpu", Cpu)
        ∷ (codes "alloc", Event)
        ∷ (codes "free", Event)
        ∷ (codes "read", Event)
        ∷ (codes "write", Event)
        ∷ (codes "inflate", Event)
        ∷ (codes "deflate", Event)
        ∷ (codes "oom", Event)
        ∷ (codes "report", Event)
        ∷ (codes "stats", Event)
        ∷ (codes "reap", Event)
        ∷ []

-- the places that `pages G PLACE` names
unfoldable pub pages_query_of : List ℕ → Option Query
pages_query_of word = meaning_of places word
  where
    places : List (List ℕ × Query)
    places =
        (codes "free", PagesAt AtFree)
        ∷ (codes "used", PagesAt Used)
        ∷ (codes "giving", PagesAt Giving)
        ∷ (codes "lent", PagesAt Lent)
        ∷ (codes "taking", PagesAt Taking)
        ∷ (codes "stranded", PagesAt Stranded)
        ∷ (codes "reporting", PagesAt Reporting)
        ∷ (codes "ballooned", PagesBallooned)
        ∷ []

-- the paces that a line of a spare device names
unfoldable pub pace_of : List ℕ → Option Pace
pace_of word = meaning_of paces word
  where
    paces : List (List ℕ × Pace)
    paces =
        (codes "immediate", Immediate)
        ∷ (codes "paced", Paced)
        ∷ (codes "monitor", Monitor)
        ∷ []
