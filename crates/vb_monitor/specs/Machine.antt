-- A notice step by step: which accesses may still come.
use Rattle.std.specs.Prelude.{◌≡◌, ℕ, ◌+◌, ◌-◌, ◌*◌, ◌≤◌, Bool, true, false, List, [], ◌∷◌, ◌++◌}
use Rattle.std.specs.Prelude.{length, take}
use Rattle.std.specs.Prelude.{drop, nat_le, Option, Some, None}
use Rattle.vb_chain.specs.declared.descriptor.TheConstants.{DESCRIPTOR_SIZE}
use Rattle.vb_chain.specs.declared.pieces.Piece.{Piece}
use Rattle.vb_core.specs.declared.kinds.Kind.{Kind}
use Rattle.vb_core.specs.declared.runs.Run.{Run}
use Rattle.vb_core.specs.declared.device.Device.{Device}
use Rattle.vb_core.specs.Devices.{ring_of}
use Rattle.vb_monitor.specs.declared.room.TheConstants.{MAX_BYTES, MAX_RUNS, MAX_FIGURES}
use Rattle.vb_monitor.specs.declared.room.Room.{Room}
use Rattle.vb_monitor.specs.declared.regions.Region.{Region}
use Rattle.vb_monitor.specs.declared.cuts.Cut.{Cut}
use Rattle.vb_monitor.specs.declared.parts.Part.{Part}
use Rattle.vb_monitor.specs.declared.outcome.Tally.{Tally}
use Rattle.vb_monitor.specs.declared.outcome.Outcome.{Outcome}
use Rattle.vb_monitor.specs.declared.regions.Spot.{Spot}
use Rattle.vb_monitor.specs.declared.step.Walk.{Walk}
use Rattle.vb_monitor.specs.declared.step.Place.{Place}
use Rattle.vb_core.specs.declared.name.Named.{Named}
use Rattle.vb_monitor.specs.Steps.{Step}
use Rattle.vb_monitor.specs.declared.step.Phase.{Phase}
use Rattle.vb_monitor.specs.declared.step.Phase.TheVariants.{AwaitsIndex, AwaitsEntry}
use Rattle.vb_monitor.specs.declared.step.Phase.TheVariants.{AwaitsDescriptor, AwaitsPart}
use Rattle.vb_monitor.specs.declared.step.Phase.TheVariants.{TellsPages, TellsFigures, TellsId}
use Rattle.vb_monitor.specs.declared.step.Phase.TheVariants.{Discards, Paused}
use Rattle.vb_monitor.specs.declared.step.Phase.TheVariants.{GivesBack, AwaitsFlags, Ended}
use Rattle.vb_monitor.specs.Accesses.{Access, Makes, ReadWord, CopyBytes, Acquire, Full}
use Rattle.vb_monitor.specs.Accesses.{TellPages as ToldPages, TellFigures as ToldFigures}
use Rattle.vb_monitor.specs.Accesses.{TellId as ToldId}
use Rattle.vb_monitor.specs.Accesses.{Discard, Pause}
use Rattle.vb_monitor.specs.Regions.{cuts_from, cuts_of}
use Rattle.vb_monitor.specs.Ends.{Whole, Stops, AsksFlags}
use Rattle.vb_monitor.specs.Giving.{Then, used_accesses, with_given, WritesUsed, DiscardsThen}
use Rattle.vb_monitor.specs.Giving.{TellsThen, OnceTold, GivesBack as GivesChainBack}
use Rattle.vb_monitor.specs.Pieces.{parts_on, AsksPart}
use Rattle.vb_core.specs.Pieces.{pieces_in}
use Rattle.vb_monitor.specs.Portions.{TellsPortion, CopiesParts, CopiesFurther, PausesThen}
use Rattle.vb_monitor.specs.Portions.{GoesFurther}
use Rattle.vb_monitor.specs.Chains.{longest, TableRow, row_of, AsksRow, Follows, ServesPieces}
use Rattle.vb_monitor.specs.Chains.{ServesBytes, TellsThenEnds, TellsIdThen}
use Rattle.vb_monitor.specs.Notices.{AsksIndex, AsksEntry, ServesPublished, AfterGiven}

abbrev pub whole : List Region → Kind → Device → Outcome → Whole
whole regions kind after outcome =
    record { regions = regions; kind = kind; device = after; outcome = outcome }

-- How many bytes are copied of the row that a walk waits for, 16 for each descriptor.
abbrev pub row_bytes : Walk → ℕ
row_bytes walk = DESCRIPTOR_SIZE * (walk.further + 1)

-- The row in which a walk goes on, once these bytes are in the room.
abbrev pub row_in : Walk → List ℕ → TableRow
row_in walk bytes = row_of walk.first (take (row_bytes walk) bytes)

-- ---- what is left

-- The parts that are left from a place in a chain's pieces on, where `into` bytes of its portion
-- were copied.
abbrev pub parts_from : ℕ → Place → Room → List Part
parts_from into place room =
    parts_on into place.done (drop place.piece (pieces_in (take place.count room.pieces)))

-- The parts of the first of these runs in the regions from this number on.
abbrev pub cuts_on : List Region → ℕ → List Run → List Cut
cuts_on regions from [] = []
cuts_on regions from (run ∷ runs) = cuts_from from (drop from regions) run

-- The parts of one run in the regions from this number on, and those of the runs after it.
abbrev pub cuts_after : ℕ → ℕ → List Region → List Run → List Cut
cuts_after from run regions runs =
    cuts_on regions from (drop run runs) ++ cuts_of regions (drop (run + 1) runs)

-- Nothing is to be done.
abbrev pub is_ended : Phase → Bool
is_ended (Ended why interrupt more) = true
is_ended (AwaitsIndex at) = false
is_ended (AwaitsEntry at) = false
is_ended (AwaitsDescriptor at walk) = false
is_ended (AwaitsPart at place into len) = false
is_ended (TellsPages place named further) = false
is_ended (TellsFigures head count) = false
is_ended (TellsId head id) = false
is_ended (Paused place) = false
is_ended (Discards cut x) = false
is_ended (GivesBack spots entry) = false
is_ended (AwaitsFlags at why more) = false

-- What a notice came to, if it has ended.
abbrev pub outcome_at : Phase → Tally → Option Outcome
outcome_at (Ended why interrupt more) tally =
    Some (record { tally = tally; why = why; interrupt = interrupt; more = more })
outcome_at (AwaitsIndex at) tally = None
outcome_at (AwaitsEntry at) tally = None
outcome_at (AwaitsDescriptor at walk) tally = None
outcome_at (AwaitsPart at place into len) tally = None
outcome_at (TellsPages place named further) tally = None
outcome_at (TellsFigures head count) tally = None
outcome_at (TellsId head id) tally = None
outcome_at (Paused place) tally = None
outcome_at (Discards cut x) tally = None
outcome_at (GivesBack spots entry) tally = None
outcome_at (AwaitsFlags at why more) tally = None

-- The bytes that are to be copied have room, and so have the runs or figures that are to be told.
abbrev pub Fits : Phase → Type 0
Fits (AwaitsPart at place into len) = into + len ≤ MAX_BYTES
Fits (AwaitsIndex at) = Unit {0}
Fits (AwaitsEntry at) = Unit {0}
Fits (AwaitsDescriptor at walk) = row_bytes walk ≤ MAX_BYTES
Fits (TellsPages place named further) = named.runs ≤ MAX_RUNS
Fits (TellsFigures head count) = count ≤ MAX_FIGURES
Fits (TellsId head id) = Unit {0}
Fits (Paused place) = Unit {0}
Fits (Discards cut x) = Unit {0}
Fits (GivesBack spots entry) = Unit {0}
Fits (AwaitsFlags at why more) = Unit {0}
Fits (Ended why interrupt more) = Unit {0}

-- How far along a chain that is done which needs no answer: 0, something is told; 1, bytes are
-- discarded; 2, the chain is given back; 3, an answer is awaited, the notice pauses, or nothing is
-- to be done.
abbrev pub stage : Phase → ℕ
stage (TellsPages place named further) = 0
stage (TellsFigures head count) = 0
stage (TellsId head id) = 0
stage (Paused place) = 3
stage (Discards cut x) = 1
stage (GivesBack spots entry) = 2
stage (AwaitsIndex at) = 3
stage (AwaitsEntry at) = 3
stage (AwaitsDescriptor at walk) = 3
stage (AwaitsPart at place into len) = 3
stage (AwaitsFlags at why more) = 3
stage (Ended why interrupt more) = 3

-- It goes on by an answer, after a pause, or has parts to discard for which there was no room; or
-- it has ended.
abbrev pub waits : Phase → Bool
waits (AwaitsIndex at) = true
waits (AwaitsEntry at) = true
waits (AwaitsDescriptor at walk) = true
waits (AwaitsPart at place into len) = true
waits (AwaitsFlags at why more) = true
waits (Paused place) = true
waits (Ended why interrupt more) = true
waits (Discards cut x) = true
waits (TellsPages place named further) = false
waits (TellsFigures head count) = false
waits (TellsId head id) = false
waits (GivesBack spots entry) = false

-- It waits, and what is copied has room.
abbrev pub may_go_on : Phase → Bool
may_go_on (AwaitsIndex at) = true
may_go_on (AwaitsEntry at) = true
may_go_on (AwaitsDescriptor at walk) = nat_le (row_bytes walk) MAX_BYTES
may_go_on (AwaitsPart at place into len) = nat_le (into + len) MAX_BYTES
may_go_on (AwaitsFlags at why more) = true
may_go_on (Paused place) = true
may_go_on (Ended why interrupt more) = true
may_go_on (Discards cut x) = true
may_go_on (TellsPages place named further) = false
may_go_on (TellsFigures head count) = false
may_go_on (TellsId head id) = false
may_go_on (GivesBack spots entry) = false

-- ---- what may still come

-- What comes once the chain that is being served was given back.
abbrev pub next_chain : Whole → Tally → Then
next_chain w tally = AfterGiven w (ServesPublished tally.chains w)

abbrev pub serves : Whole → Tally → Device → ℕ → List Piece → List Access → Type 0
serves w tally d head pieces log =
    ServesPieces w.kind w (next_chain w tally) d tally head pieces log

abbrev pub served : Whole → Tally → ℕ → Device → Tally → List ℕ → List Access → Type 0
served w tally head = ServesBytes w (next_chain w tally) head

-- What comes once the pages that were told are discarded: copying goes on from this place, or the
-- chain is given back.
abbrev pub Onward : Bool → Whole → Tally → Device → Place → Room → List Access → Type 0
Onward true w tally d place room log =
    GoesFurther w (served w tally place.head) d (parts_from 0 place room) tally log
Onward false w tally d place room log =
    GivesChainBack w (next_chain w tally) d tally place.head log

-- What comes once pages were told that have these parts: a chain that is held isn't given back, all
-- of which was told.
abbrev pub OnceToldBy : Bool → Whole → Tally → Device → Place → Room → List Cut → List Access →
    Type 0
OnceToldBy true w tally d place room cuts log =
    DiscardsThen (Onward true w tally d place room) cuts log
OnceToldBy false w tally d place room cuts log =
    OnceTold tally.held w (next_chain w tally) d tally place.head cuts log

abbrev pub TellsBy : Bool → Whole → Tally → Device → Place → Named → Room → List Access → Type 0
TellsBy true w tally d place named room log =
    TellsPortion w (Onward true w tally d place room) d tally (take named.runs room.runs) named log
TellsBy false w tally d place named room log =
    TellsThen w (next_chain w tally) d tally place.head (take named.runs room.runs) named log

-- These accesses may come, where this is to be done next.
abbrev pub AheadAt : Phase → Whole → Tally → Device → Room → List Access → Type 0
AheadAt (AwaitsIndex at) w tally d room log =
    AsksIndex (ServesPublished tally.chains w) d tally at log
AheadAt (AwaitsEntry at) w tally d room log = AsksEntry w (next_chain w tally) d tally at log
AheadAt (AwaitsDescriptor at walk) w tally d room log =
    AsksRow w d tally
    (Follows (longest (ring_of w.kind d).size - (walk.count + 1)) w d tally
    (serves w tally d walk.head)) (serves w tally d walk.head) walk.first walk.further walk.writing
    (pieces_in (take walk.count room.pieces)) at log
AheadAt (AwaitsPart at place into len) w tally d room log =
    AsksPart
    (CopiesParts w (served w tally place.head) d tally (parts_from (into + len) place room)) len
    (take into room.bytes) at log
AheadAt (TellsPages place named further) w tally d room log =
    TellsBy further w tally d place named room log
AheadAt (TellsFigures head count) w tally d room log =
    TellsThenEnds w d tally (take count room.figures) log
AheadAt (TellsId head id) w tally d room log =
    TellsIdThen w (next_chain w tally) d tally head id log
AheadAt (Paused place) w tally d room log =
    PausesThen
    (λ t2 rest. CopiesFurther w (served w tally place.head) d t2 (parts_from 0 place room) rest)
    tally log
AheadAt (Discards cut x) w tally d room log =
    DiscardsThen (Onward x.further w tally d x.place room)
    (cut ∷ cuts_after x.from x.run w.regions (take x.runs room.runs)) log
AheadAt (GivesBack spots entry) w tally d room log =
    WritesUsed (next_chain w tally d (with_given tally)) spots entry log
AheadAt (AwaitsFlags at why more) w tally d room log = AsksFlags w d tally why more at log
AheadAt (Ended why interrupt more) w tally d room log = Stops w d tally why interrupt more log

abbrev pub Ahead : Whole → Step → Device → Room → List Access → Type 0
Ahead w step d room log = AheadAt step.phase w step.tally d room log

-- ---- what was done

-- n bytes were copied after the first n ones; the room's bytes were others before.
pub record Copies (at : Spot) (from len : ℕ) (before now : List ℕ) (done : List Access) :
    Type 0 where
  pub bytes : List ℕ
  pub asks : done ≡ CopyBytes at bytes ∷ []
  pub long : length bytes ≡ len
  pub joined : take (from + len) now ≡ take from before ++ bytes

-- These accesses are what was to be done, with this answer; the room had these bytes before.
abbrev pub Does : Phase → Kind → ℕ → List ℕ → Room → List Access → Type 0
Does (AwaitsIndex at) kind answer before room done = done ≡ ReadWord at answer ∷ []
Does (AwaitsEntry at) kind answer before room done = done ≡ Acquire ∷ ReadWord at answer ∷ []
Does (AwaitsDescriptor at walk) kind answer before room done =
    Copies at 0 (row_bytes walk) before room.bytes done
Does (AwaitsPart at place into len) kind answer before room done =
    Copies at into len before room.bytes done
Does (TellsPages place named further) kind answer before room done =
    done ≡ ToldPages kind (take named.runs room.runs) named ∷ []
Does (TellsFigures head count) kind answer before room done =
    done ≡ ToldFigures (take count room.figures) ∷ []
Does (TellsId head id) kind answer before room done = done ≡ ToldId id ∷ []
Does (Paused place) kind answer before room done = done ≡ Pause ∷ []
Does (Discards cut x) kind answer before room done = done ≡ Discard cut ∷ []
Does (GivesBack spots entry) kind answer before room done = done ≡ used_accesses spots entry
Does (AwaitsFlags at why more) kind answer before room done =
    done ≡ Full ∷ ReadWord at answer ∷ []
Does (Ended why interrupt more) kind answer before room done = done ≡ []

-- The next part is to be discarded, once there is room.
abbrev pub is_discarding : Phase → Bool
is_discarding (Discards cut x) = true
is_discarding (AwaitsIndex at) = false
is_discarding (AwaitsEntry at) = false
is_discarding (AwaitsDescriptor at walk) = false
is_discarding (AwaitsPart at place into len) = false
is_discarding (TellsPages place named further) = false
is_discarding (TellsFigures head count) = false
is_discarding (TellsId head id) = false
is_discarding (Paused place) = false
is_discarding (GivesBack spots entry) = false
is_discarding (AwaitsFlags at why more) = false
is_discarding (Ended why interrupt more) = false

abbrev pub AwaitedBy : Bool → Phase → Kind → ℕ → List ℕ → Room → List Access → Type 0
AwaitedBy true phase kind answer before room done = done ≡ []
AwaitedBy false phase kind answer before room done = Does phase kind answer before room done

-- These accesses are what a notice waited for: what is to be discarded needs no answer, and is done
-- afterwards.
abbrev pub Awaited : Phase → Kind → ℕ → List ℕ → Room → List Access → Type 0
Awaited phase kind answer before room done =
    AwaitedBy (is_discarding phase) phase kind answer before room done

-- Accesses make one memory of another; whatever list may follow them, the whole list may come where
-- this was to be done before.
abbrev pub GoesOn : {S : Type 0} → (S → Access → S → Type 0) → S → S →
    (Device → Outcome → List Access → Type 0) → (Device → Outcome → List Access → Type 0) → Type 0
GoesOn {S} goes old new from to =
    Makes goes old new (λ log. (after : Device) (outcome : Outcome) (rest : List Access) →
    to after outcome rest → from after outcome (log ++ rest))
