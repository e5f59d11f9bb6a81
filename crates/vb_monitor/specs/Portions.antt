-- The portions of a request: once MAX_BYTES of its bytes were copied and there are more, the pages
-- that they name are told, and discarded where pages are; then copying goes on. A notice pauses
-- between two portions once it has named as many pages as it may.
use Rattle.std.specs.Prelude.{◌≡◌, ℕ, ◌+◌, ◌==◌, Bool, true, false, List, [], ◌∷◌, length}
use Rattle.std.specs.Prelude.{take, Result, Ok, Err, Some}
use Rattle.vb_virtio.specs.declared.limits.TheConstants.{MAX_REQUEST_PAGES}
use Rattle.vb_chain.specs.declared.fault.ChainFault.TheVariants.{BadLength}
use Rattle.vb_core.specs.declared.kinds.Kind.{Kind}
use Rattle.vb_core.specs.declared.kinds.Kind.TheVariants.{Inflate, Deflate, Statistics, Hint}
use Rattle.vb_core.specs.declared.kinds.Kind.TheVariants.{Report}
use Rattle.vb_core.specs.declared.runs.Run.{Run}
use Rattle.vb_core.specs.declared.name.Named.{Named}
use Rattle.vb_core.specs.declared.device.Denial.{Denial}
use Rattle.vb_core.specs.declared.device.Device.{Device}
use Rattle.vb_core.specs.Config.{keeps_free}
use Rattle.vb_core.specs.Name.{NamesNumbersBy}
use Rattle.vb_monitor.specs.declared.room.TheConstants.{MAX_BYTES}
use Rattle.vb_monitor.specs.declared.parts.Part.{Part}
use Rattle.vb_monitor.specs.declared.outcome.Tally.{Tally}
use Rattle.vb_monitor.specs.Accesses.{Access, TellPages, Pause}
use Rattle.vb_monitor.specs.Regions.{spot}
use Rattle.vb_monitor.specs.Ends.{Whole, Ends, Breaks}
use Rattle.vb_monitor.specs.Giving.{is_kept, cuts_for, DiscardsThen, spent}
use Rattle.vb_monitor.specs.Pieces.{PartAt}

-- A portion is full.
abbrev pub is_full : List ℕ → Bool
is_full so_far = length so_far == MAX_BYTES

-- The pages of a portion are told, and discarded unless they are kept; then this comes.
pub record TellsPortion (w : Whole) (on : List Access → Type 0) (d : Device) (tally : Tally)
    (runs : List Run) (named : Named) (log : List Access) : Type 0 where
  pub rest : List Access
  pub asks : log ≡ TellPages w.kind runs named ∷ rest
  pub goes_on : DiscardsThen on
      (cuts_for w.kind (is_kept w.kind tally.keeps (keeps_free w.kind d)) w.regions runs) rest

-- What was named of a portion is told, or the notice ends.
abbrev pub AfterPortion : Whole → (Tally → List Access → Type 0) → Device → Tally → List Run →
    Result Named Denial → List Access → Type 0
AfterPortion w on d tally runs (Err why) log = Ends w d tally (Some why) false log
AfterPortion w on d tally runs (Ok named) log =
    TellsPortion w (on (spent named tally)) d (spent named tally)
    (take named.runs runs) named log

-- The pages of a portion are named; its chain isn't taken yet.
pub record NamesPortion (w : Whole) (on : Device → Tally → List Access → Type 0) (d : Device)
    (tally : Tally) (bytes : List ℕ) (log : List Access) : Type 0 where
  pub answer : Result Named Denial
  pub runs : List Run
  pub device : Device
  pub names : NamesNumbersBy w.kind bytes MAX_REQUEST_PAGES runs d device answer
  pub goes_on : AfterPortion w (on device) device tally runs answer log

-- Only requests have more than one portion.
abbrev pub ServesPortion : Kind → Whole → (Device → Tally → List Access → Type 0) → Device →
    Tally → List ℕ → List Access → Type 0
ServesPortion Inflate w on d tally bytes log = NamesPortion w on d tally bytes log
ServesPortion Deflate w on d tally bytes log = NamesPortion w on d tally bytes log
ServesPortion Statistics w on d tally bytes log = Breaks w d tally BadLength log
ServesPortion Hint w on d tally bytes log = Breaks w d tally BadLength log
ServesPortion Report w on d tally bytes log = Breaks w d tally BadLength log

-- ---- pauses

-- As many pages may be named again as at first.
abbrev pub refilled : Tally → Tally
refilled tally = record tally { pages = tally.most_pages }

-- The notice pauses, and then this comes.
pub record PausesThen (on : Tally → List Access → Type 0) (tally : Tally) (log : List Access) :
    Type 0 where
  pub rest : List Access
  pub asks : log ≡ Pause ∷ rest
  pub goes_on : on (refilled tally) rest

-- More of a chain comes: where no more pages may be named yet, after a pause.
abbrev pub PausesIf : Bool → (Tally → List Access → Type 0) → Tally → List Access → Type 0
PausesIf true on tally log = PausesThen on tally log
PausesIf false on tally log = on tally log

abbrev pub UnlessSpent : (Tally → List Access → Type 0) → Tally → List Access → Type 0
UnlessSpent on tally log = PausesIf (tally.pages == 0) on tally log

-- ---- parts

-- A part is copied, unless the portion so far is full: then that is served first.
abbrev pub CopiesPart : Bool → Whole → (Device → Tally → List ℕ → List Access → Type 0) → Device →
    Tally → List ℕ → List Access → Type 0
CopiesPart true w on d tally so_far log =
    ServesPortion w.kind w (λ d2 t2 rest. UnlessSpent (λ t3 last. on d2 t3 [] last) t2 rest) d tally
    so_far log
CopiesPart false w on d tally so_far log = on d tally so_far log

-- All parts are copied, in order, up to one that isn't guest memory, portion by portion; then the
-- bytes of the last portion are served.
abbrev pub CopiesParts : Whole → (Device → Tally → List ℕ → List Access → Type 0) → Device →
    Tally → List Part → List ℕ → List Access → Type 0
CopiesParts w served d tally [] so_far log = served d tally so_far log
CopiesParts w served d tally (part ∷ parts) so_far log =
    CopiesPart (is_full so_far) w
    (λ d2 t2 now rest. PartAt w (CopiesParts w served d2 t2 parts) d2 t2 part now
    (spot w.regions (part.address + part.plus) part.length) rest) d tally so_far log

-- Copying goes on after a portion: none is served by itself that is a chain's last.
abbrev pub CopiesFurther : Whole → (Device → Tally → List ℕ → List Access → Type 0) → Device →
    Tally → List Part → List Access → Type 0
CopiesFurther w served d tally [] log = Breaks w d tally BadLength log
CopiesFurther w served d tally (part ∷ parts) log =
    PartAt w (CopiesParts w served d tally parts) d tally part []
    (spot w.regions (part.address + part.plus) part.length) log

-- After a portion copying goes on, unless the notice pauses first.
abbrev pub GoesFurther : Whole → (Device → Tally → List ℕ → List Access → Type 0) → Device →
    List Part → Tally → List Access → Type 0
GoesFurther w served d parts tally log =
    UnlessSpent (λ t2 rest. CopiesFurther w served d t2 parts rest) tally log
