-- What texts say as a whole, and the words for places and for lines of threads, worked out.
use Rattle.std.proofs.Common.{◌≡◌, ℕ, true, false, [], ◌∷◌, Some, None, Ok, Err, codes, refl, map}
use Rattle.std.specs.Prelude.{replicate}
use Rattle.vb_model.specs.declared.places.Place.TheVariants.{Free, Used, Giving, Lent, Taking}
use Rattle.vb_model.specs.declared.places.Place.TheVariants.{Stranded, Reporting}
use Rattle.vb_model.specs.declared.calls.Call.TheVariants.{Stats}
use Rattle.vb_model.specs.declared.calls.Event.TheVariants.{Frames, Unplug}
use Rattle.vb_model.specs.declared.calls.Query.TheVariants.{PagesAt, PagesBallooned}
use Rattle.vb_script.specs.declared.lines.LineFault.TheVariants.{Bad, Memory as NoMemory}
use Rattle.vb_script.specs.declared.lines.Pace.TheVariants.{Immediate, Paced}
use Rattle.vb_script.specs.declared.names.ThreadsForm.TheVariants.{Rounds, Cpu, Event}
use Rattle.vb_script.specs.declared.reading.ScriptFault.TheVariants.{BadLine, Memory}
use Rattle.vb_script.specs.Names.{form_of, threads_form_of, pages_query_of, pace_of}
use Rattle.vb_script.specs.{Plans.{plan_of, threads_script_of}, Scripts.fault_at, Words.number_of}
use Rattle.vb_script.specs.Texts.{lines_of, is_skipped, with_spare, told_in, script_of}
use Rattle.vb_script.specs.Texts.{begins_with_host}

-- ---- lines

-- a line feed ends a line, the last one may lack it, and nothing after it is no line
lines : map lines_of (codes "a\n\nb" ∷ codes "a\n" ∷ codes "\n" ∷ [] ∷ [])
    ≡ (codes "a" ∷ [] ∷ codes "b" ∷ []) ∷ (codes "a" ∷ []) ∷ ([] ∷ []) ∷ [] ∷ []
lines = refl

skipped : map is_skipped ([] ∷ codes "#" ∷ codes "# a" ∷ codes " # a" ∷ codes "a" ∷ [])
    ≡ true ∷ true ∷ true ∷ false ∷ false ∷ []
skipped = refl

faults : fault_at 7 Bad ∷ fault_at 7 NoMemory ∷ [] ≡ BadLine 7 ∷ Memory ∷ []
faults = refl

-- ---- scripts of events

said : script_of (codes "# note\nhost 64\nspare paced\nspare immediate\n\nframes\nunplug 3")
    ≡ Ok (Some (record { frames = 64; spares = Paced ∷ Immediate ∷ []; events = Frames ∷ Unplug 3 ∷ [] }))
unfolding script_of told_in number_of form_of pace_of
said = refl

nothing_said : map script_of ([] ∷ codes "\n# note\n" ∷ []) ≡ Ok None ∷ Ok None ∷ []
unfolding script_of told_in
nothing_said = refl

-- no host first, one of no frame, two, a spare device after an event, a space before a comment, a
-- carriage return, and two bad lines: the first is named by its number among all lines
bad : map script_of (codes "frames\n" ∷ codes "# note\n\nhost 0" ∷ codes "host 1\nhost 1"
    ∷ codes "host 1\nframes\nspare paced" ∷ codes "host 1\n # note" ∷ codes "host 1\r\n"
    ∷ codes "host 1\n\nnot\nnot" ∷ [])
    ≡ Err 1 ∷ Err 3 ∷ Err 2 ∷ Err 3 ∷ Err 2 ∷ Err 1 ∷ Err 3 ∷ []
unfolding script_of told_in number_of form_of pace_of
bad = refl

-- 64 spare devices are the most
most_spares : with_spare {Item = ℕ} Paced
    (record { frames = 1; spares = replicate 63 Paced; events = [] })
    ≡ Some (record { frames = 1; spares = replicate 64 Paced; events = [] })
most_spares = refl

too_many_spares : with_spare {Item = ℕ} Paced
    (record { frames = 1; spares = replicate 64 Paced; events = [] }) ≡ None
too_many_spares = refl

-- lines after the host's don't matter
begins : map begins_with_host (codes "# note\nhost 5\nnot" ∷ codes "frames\nhost 5" ∷ codes "host 0" ∷ [] ∷ [])
    ≡ true ∷ false ∷ false ∷ false ∷ []
unfolding begins_with_host number_of
begins = refl

-- ---- scripts for guests on threads

planned : threads_script_of (codes "host 64\nspare paced\nplug 64 8 1\nstats 0\n") ≡ Ok (Some (record {
  frames = 64;
  guests = record { pace = Paced; pages = 64; queue_size = 8; processors = 1; scripts = (Stats ∷ []) ∷ [] }
      ∷ [];
  floor = 0;
  rounds = 0;
}))
unfolding threads_script_of told_in plan_of number_of threads_form_of form_of pace_of
planned = refl

-- a text without lines and one without a guest make no plan; and a bad line is named
not_planned : map threads_script_of ([] ∷ codes "host 64\n" ∷ codes "host 64\ntake 0 0\n" ∷ [])
    ≡ Ok None ∷ Ok None ∷ Err 2 ∷ []
unfolding threads_script_of told_in plan_of number_of threads_form_of
not_planned = refl

-- ---- words

places : map pages_query_of (codes "free" ∷ codes "used" ∷ codes "giving" ∷ codes "lent" ∷ codes "taking"
    ∷ codes "stranded" ∷ codes "reporting" ∷ codes "ballooned" ∷ codes "Free" ∷ [])
    ≡ Some (PagesAt Free) ∷ Some (PagesAt Used) ∷ Some (PagesAt Giving) ∷ Some (PagesAt Lent)
    ∷ Some (PagesAt Taking) ∷ Some (PagesAt Stranded) ∷ Some (PagesAt Reporting)
    ∷ Some PagesBallooned ∷ None ∷ []
unfolding pages_query_of
places = refl

of_threads : map threads_form_of (codes "plug" ∷ codes "rounds" ∷ codes "cpu" ∷ codes "alloc" ∷ codes "free"
    ∷ codes "read" ∷ codes "write" ∷ codes "inflate" ∷ codes "deflate" ∷ codes "oom" ∷ codes "report"
    ∷ codes "stats" ∷ codes "reap" ∷ [])
    ≡ Some Event ∷ Some Rounds ∷ Some Cpu ∷ replicate 10 (Some Event)
unfolding threads_form_of
of_threads = refl

-- what only a script of events has
not_of_threads : map threads_form_of (codes "unplug" ∷ codes "restart" ∷ codes "reset" ∷ codes "init"
    ∷ codes "scribble" ∷ codes "take" ∷ codes "work" ∷ codes "finish" ∷ codes "serve" ∷ codes "sweep"
    ∷ codes "ask"
    ∷ codes "target" ∷ codes "balance" ∷ codes "places" ∷ codes "pages" ∷ codes "balloon"
    ∷ codes "memory" ∷ codes "backing" ∷ codes "frames" ∷ []) ≡ replicate 19 None
unfolding threads_form_of
not_of_threads = refl
