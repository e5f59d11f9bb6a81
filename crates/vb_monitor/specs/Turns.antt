-- Which access may come, by what those before it say: what is read, told, discarded and written.
use Rattle.std.specs.Prelude.{◌≡◌, ℕ, ◌+◌, ◌*◌, ◌/◌, Bool, true, false, List, [], ◌∷◌, length}
use Rattle.std.specs.Prelude.{map, take, Option, Some, None, Ok}
use Rattle.vb_virtio.specs.declared.layout.TheConstants.{STATISTIC_SIZE}
use Rattle.vb_chain.specs.declared.pieces.Piece.{Piece}
use Rattle.vb_request.specs.Request.{numbers_of}
use Rattle.vb_request.specs.Report.{report_request}
use Rattle.vb_core.specs.declared.kinds.Kind.{Kind}
use Rattle.vb_core.specs.declared.kinds.Kind.TheVariants.{Inflate, Deflate, Statistics, Hint}
use Rattle.vb_core.specs.declared.kinds.Kind.TheVariants.{Report}
use Rattle.vb_core.specs.declared.runs.Run.{Run}
use Rattle.vb_core.specs.declared.name.Named.{Named}
use Rattle.vb_core.specs.declared.ring.Virtqueue.{Virtqueue}
use Rattle.vb_core.specs.declared.ring.UsedEntry.{UsedEntry}
use Rattle.vb_core.specs.declared.statistics.Statistic.{Statistic}
use Rattle.vb_core.specs.declared.settings.Settings.{Settings}
use Rattle.vb_core.specs.declared.device.Device.{Device}
use Rattle.vb_core.specs.Settings.{memory_pages, skips}
use Rattle.vb_core.specs.Rings.{used_entry}
use Rattle.vb_core.specs.Runs.{Tell}
use Rattle.vb_core.specs.Devices.{ring_of}
use Rattle.vb_core.specs.Config.{keeps_free}
use Rattle.vb_core.specs.Name.{fault_in, right_numbers}
use Rattle.vb_core.specs.Report.{run_of}
use Rattle.vb_core.specs.Statistics.{AreFigures}
use Rattle.vb_monitor.specs.declared.regions.Region.{Region}
use Rattle.vb_monitor.specs.declared.regions.Spot.{Spot}
use Rattle.vb_monitor.specs.declared.cuts.Cut.{Cut}
use Rattle.vb_monitor.specs.declared.room.TheConstants.{MAX_BYTES}
use Rattle.vb_monitor.specs.Accesses.{Access, ReadWord, CopyBytes, Acquire, Release, Full}
use Rattle.vb_monitor.specs.Accesses.{TellPages, TellFigures, TellId, Pause, Discard, WriteNumber}
use Rattle.vb_monitor.specs.Accesses.{WriteWord}
use Rattle.vb_monitor.specs.Regions.{spot}
use Rattle.vb_monitor.specs.Chains.{further_in_row, id_of}
use Rattle.vb_monitor.specs.Giving.{is_kept}
use Rattle.vb_monitor.specs.Notices.{entry_offset, stands}
use Rattle.vb_monitor.specs.SoFar.{Known, Unknown, Walks, Has, known, ring_after, index_read, left}
use Rattle.vb_monitor.specs.SoFar.{round_so_far}
use Rattle.vb_core.specs.Hints.{is_open}

-- ---- what is read

-- The word that is read next: first of all, and only then, the available index; after an acquire
-- fence the entry that is taken next, and after a full fence the driver's flags (VIRTIO 1.1, 2.6.6
-- and 2.6.7). Elsewhere none is.
abbrev pub ReadsWord : List Region → Virtqueue → List Access → Spot → Type 0
ReadsWord regions r [] at = spot regions (r.avail + 2) 2 ≡ Some at
ReadsWord regions r (Acquire ∷ xs) at = spot regions (r.avail + entry_offset r) 2 ≡ Some at
ReadsWord regions r (Full ∷ xs) at = spot regions r.avail 2 ≡ Some at
ReadsWord regions r (ReadWord before answer ∷ xs) at = ⊥
ReadsWord regions r (CopyBytes before answer ∷ xs) at = ⊥
ReadsWord regions r (Release ∷ xs) at = ⊥
ReadsWord regions r (TellPages kind runs named ∷ xs) at = ⊥
ReadsWord regions r (TellFigures figures ∷ xs) at = ⊥
ReadsWord regions r (TellId id ∷ xs) at = ⊥
ReadsWord regions r (Pause ∷ xs) at = ⊥
ReadsWord regions r (Discard cut ∷ xs) at = ⊥
ReadsWord regions r (WriteNumber before number ∷ xs) at = ⊥
ReadsWord regions r (WriteWord before word ∷ xs) at = ⊥

-- A full fence is last.
abbrev pub ends_in_full : List Access → Bool
ends_in_full (Full ∷ xs) = true
ends_in_full [] = false
ends_in_full (ReadWord at answer ∷ xs) = false
ends_in_full (CopyBytes at answer ∷ xs) = false
ends_in_full (Acquire ∷ xs) = false
ends_in_full (Release ∷ xs) = false
ends_in_full (TellPages kind runs named ∷ xs) = false
ends_in_full (TellFigures figures ∷ xs) = false
ends_in_full (TellId id ∷ xs) = false
ends_in_full (Pause ∷ xs) = false
ends_in_full (Discard cut ∷ xs) = false
ends_in_full (WriteNumber at number ∷ xs) = false
ends_in_full (WriteWord at word ∷ xs) = false

-- The driver's flags were read last.
abbrev pub is_over : List Access → Bool
is_over (ReadWord at answer ∷ xs) = ends_in_full xs
is_over [] = false
is_over (CopyBytes at answer ∷ xs) = false
is_over (Acquire ∷ xs) = false
is_over (Release ∷ xs) = false
is_over (Full ∷ xs) = false
is_over (TellPages kind runs named ∷ xs) = false
is_over (TellFigures figures ∷ xs) = false
is_over (TellId id ∷ xs) = false
is_over (Pause ∷ xs) = false
is_over (Discard cut ∷ xs) = false
is_over (WriteNumber at number ∷ xs) = false
is_over (WriteWord at word ∷ xs) = false

-- n bytes from an address on are copied.
pub record CopiesFrom (regions : List Region) (a len : ℕ) (at : Spot) (bytes : List ℕ) : Type 0
  where
    pub place : spot regions a len ≡ Some at
    pub long : length bytes ≡ len

-- Of a chain the descriptor is copied that the one before names, and those of its row after it, 16
-- bytes each; once it is whole, the next part of its pieces.
abbrev pub CopiesNext : List Region → Virtqueue → Known → Spot → List ℕ → Type 0
CopiesNext regions r Unknown at bytes = ⊥
CopiesNext regions r (Walks head number pieces) at bytes =
    CopiesFrom regions (r.table + 16 * number)
    (16 * (further_in_row regions r number pieces + 1)) at bytes
CopiesNext regions r (Has head pieces [] so_far) at bytes = ⊥
CopiesNext regions r (Has head pieces (part ∷ parts) so_far) at bytes =
    CopiesFrom regions (part.address + part.plus) part.length at bytes

-- The index that was read publishes an entry that wasn't taken yet, and no more than the queue has.
abbrev pub IsPublished : Option ℕ → Virtqueue → Type 0
IsPublished None r = ⊥
IsPublished (Some index) r = stands r index ≡ Ok true

-- A portion of a chain was told, and more of the chain is to be copied.
abbrev pub IsAmid : Known → Type 0
IsAmid Unknown = ⊥
IsAmid (Walks head number pieces) = ⊥
IsAmid (Has head pieces [] bytes) = ⊥
IsAmid (Has head pieces (part ∷ parts) bytes) = bytes ≡ []

-- What is read comes in its turn: each entry, each row of descriptors and each part of a piece has
-- one. No entry is read that wasn't published, nor while another one's chain is served, and nothing
-- after the flags. A notice pauses between two portions of a chain alone.
abbrev pub ReadsInTurn : List Region → Kind → Device → List Access → Access → Type 0
ReadsInTurn regions kind d before (ReadWord at answer) =
    ReadsWord regions (ring_after kind (ring_of kind d) before) before at
ReadsInTurn regions kind d before (CopyBytes at answer) =
    CopiesNext regions (ring_after kind (ring_of kind d) before) (known kind before) at answer
ReadsInTurn regions kind d before Acquire =
    (known kind before ≡ Unknown) × (is_over before ≡ false)
    × IsPublished (index_read before) (ring_after kind (ring_of kind d) before)
ReadsInTurn regions kind d before Release = Unit {0}
ReadsInTurn regions kind d before Full = is_over before ≡ false
ReadsInTurn regions kind d before (TellPages of runs named) = Unit {0}
ReadsInTurn regions kind d before (TellFigures figures) = Unit {0}
ReadsInTurn regions kind d before (TellId id) = Unit {0}
ReadsInTurn regions kind d before Pause = IsAmid (known kind before)
ReadsInTurn regions kind d before (Discard cut) = Unit {0}
ReadsInTurn regions kind d before (WriteNumber at number) = Unit {0}
ReadsInTurn regions kind d before (WriteWord at word) = Unit {0}

-- ---- what is told and discarded

-- The runs tell the pages that the numbers in these bytes name: each that may be named, in their
-- order; one that may not is skipped where the device skips such numbers, and else none is there. n
-- are named, and each other number is skipped.
pub record TellNumbers (s : Settings) (bytes : List ℕ) (runs : List Run) (named : Named) : Type 0
  where
    pub sound : fault_in (skips s) s.reserved_pages (memory_pages s) (numbers_of bytes) ≡ None
    pub tell : Tell runs (right_numbers s.reserved_pages (memory_pages s) (numbers_of bytes))
    pub pages : named.pages ≡
        length (right_numbers s.reserved_pages (memory_pages s) (numbers_of bytes))
    pub skipped : named.skipped + named.pages ≡ length (numbers_of bytes)

-- The runs are the pages of these pieces, which are a report or a hint: n, and none is skipped.
pub record TellPieces (s : Settings) (pieces : List Piece) (runs : List Run) (named : Named) :
    Type 0 where
  pub free : List ℕ
  pub sound : report_request pieces s.reserved_pages ≡ Ok free
  pub are : runs ≡ map run_of pieces
  pub pages : named.pages ≡ length free
  pub skipped : named.skipped ≡ 0

-- Of a hint no page is told, and each is skipped, n.
pub record SkipPieces (s : Settings) (pieces : List Piece) (runs : List Run) (named : Named) :
    Type 0 where
  pub free : List ℕ
  pub sound : report_request pieces s.reserved_pages ≡ Ok free
  pub none : runs ≡ []
  pub pages : named.pages ≡ 0
  pub skipped : named.skipped ≡ length free

-- The pages of a hint are told where the round is open.
abbrev pub TellHint : Bool → Settings → List Piece → List Run → Named → Type 0
TellHint true s pieces runs named = TellPieces s pieces runs named
TellHint false s pieces runs named = SkipPieces s pieces runs named

abbrev pub TellNamed : Bool → Kind → Settings → List Piece → List ℕ → List Run → Named → Type 0
TellNamed open_now Inflate s pieces bytes runs named = TellNumbers s bytes runs named
TellNamed open_now Deflate s pieces bytes runs named = TellNumbers s bytes runs named
TellNamed open_now Statistics s pieces bytes runs named = ⊥
TellNamed open_now Hint s pieces bytes runs named = TellHint open_now s pieces runs named
TellNamed open_now Report s pieces bytes runs named = TellPieces s pieces runs named

-- Pages are told once all of a chain was read, or a portion of it: those that the bytes name that
-- were copied and weren't told yet, or the pieces of a report or a hint.
abbrev pub TellsOf : Bool → Kind → Settings → Known → List Run → Named → Type 0
TellsOf open_now kind s Unknown runs named = ⊥
TellsOf open_now kind s (Walks head number pieces) runs named = ⊥
TellsOf open_now kind s (Has head pieces [] bytes) runs named =
    TellNamed open_now kind s pieces bytes runs named
TellsOf open_now kind s (Has head pieces (part ∷ parts) bytes) runs named =
    (length bytes ≡ MAX_BYTES) × TellNamed open_now kind s pieces bytes runs named

-- The figures that are in these bytes.
pub record TellFiguresOf (bytes : List ℕ) (told : List Statistic) : Type 0 where
  pub figures : List Statistic
  pub are : AreFigures bytes figures
  pub count_so : told ≡ take (length bytes / STATISTIC_SIZE) figures

abbrev pub FiguresOf : Known → List Statistic → Type 0
FiguresOf Unknown figures = ⊥
FiguresOf (Walks head number pieces) figures = ⊥
FiguresOf (Has head pieces [] bytes) figures = TellFiguresOf bytes figures
FiguresOf (Has head pieces (part ∷ parts) bytes) figures = ⊥

-- All of a chain was read, and its bytes are this id.
abbrev pub IdOf : Known → ℕ → Type 0
IdOf Unknown id = ⊥
IdOf (Walks head number pieces) id = ⊥
IdOf (Has head pieces [] bytes) id = id_of bytes ≡ Some id
IdOf (Has head pieces (part ∷ parts) bytes) id = ⊥

-- The part is the next one that is left.
abbrev pub IsNext : Cut → List Cut → Type 0
IsNext cut [] = ⊥
IsNext cut (next ∷ others) = cut ≡ next

-- Pages, figures and ids are told of what was copied, and of pages that were told those parts are
-- discarded that may be, in their order; all of them before anything else is copied or told, and
-- before an element is written. Where a notice keeps all pages none is, and none is of a report or
-- a hint whose pages the device keeps.
abbrev pub TellsInTurn : List Region → Kind → Bool → Device → List Access → Access → Type 0
TellsInTurn regions kind all d before (TellPages of runs named) =
    (of ≡ kind) ×
    TellsOf (is_open (round_so_far d.round before)) kind d.settings (known kind before) runs named ×
    (left (is_kept kind all (keeps_free kind d)) regions before ≡ [])
TellsInTurn regions kind all d before (TellFigures figures) =
    (kind ≡ Statistics) × FiguresOf (known kind before) figures
TellsInTurn regions kind all d before (TellId id) = (kind ≡ Hint) × IdOf (known kind before) id
TellsInTurn regions kind all d before Pause =
    left (is_kept kind all (keeps_free kind d)) regions before ≡ []
TellsInTurn regions kind all d before (Discard cut) =
    IsNext cut (left (is_kept kind all (keeps_free kind d)) regions before)
TellsInTurn regions kind all d before (WriteNumber at number) =
    left (is_kept kind all (keeps_free kind d)) regions before ≡ []
TellsInTurn regions kind all d before (ReadWord at answer) = Unit {0}
TellsInTurn regions kind all d before (CopyBytes at answer) =
    left (is_kept kind all (keeps_free kind d)) regions before ≡ []
TellsInTurn regions kind all d before Acquire = Unit {0}
TellsInTurn regions kind all d before Release = Unit {0}
TellsInTurn regions kind all d before Full = Unit {0}
TellsInTurn regions kind all d before (WriteWord at word) = Unit {0}

-- ---- what is written

-- A number was written last.
abbrev pub ends_in_number : List Access → Bool
ends_in_number (WriteNumber at number ∷ xs) = true
ends_in_number [] = false
ends_in_number (ReadWord at answer ∷ xs) = false
ends_in_number (CopyBytes at answer ∷ xs) = false
ends_in_number (Acquire ∷ xs) = false
ends_in_number (Release ∷ xs) = false
ends_in_number (Full ∷ xs) = false
ends_in_number (TellPages kind runs named ∷ xs) = false
ends_in_number (TellFigures figures ∷ xs) = false
ends_in_number (TellId id ∷ xs) = false
ends_in_number (Pause ∷ xs) = false
ends_in_number (Discard cut ∷ xs) = false
ends_in_number (WriteWord at word ∷ xs) = false

-- The number is a used element's: the length after the id (VIRTIO 1.1, 2.6.8).
abbrev pub IsNumberOf : Bool → List Region → UsedEntry → Spot → ℕ → Type 0
IsNumberOf false regions e at n = (spot regions e.element_at 4 ≡ Some at) × (n ≡ e.id)
IsNumberOf true regions e at n = (spot regions (e.element_at + 4) 4 ≡ Some at) × (n ≡ e.length)

-- The word is the index after the element.
abbrev pub IsIndexOf : List Region → UsedEntry → Spot → ℕ → Type 0
IsIndexOf regions e at n = (spot regions e.index_at 2 ≡ Some at) × (n ≡ e.index)

-- An element is written for a chain alone of which all was read, and it has the chain's head: the
-- entry that was read.
abbrev pub NumberFor : Known → Bool → List Region → Virtqueue → Spot → ℕ → Type 0
NumberFor Unknown second regions r at n = ⊥
NumberFor (Walks head number pieces) second regions r at n = ⊥
NumberFor (Has head pieces [] bytes) second regions r at n =
    IsNumberOf second regions (used_entry r head) at n
NumberFor (Has head pieces (part ∷ parts) bytes) second regions r at n = ⊥

abbrev pub IndexFor : Known → List Region → Virtqueue → Spot → ℕ → Type 0
IndexFor Unknown regions r at n = ⊥
IndexFor (Walks head number pieces) regions r at n = ⊥
IndexFor (Has head pieces [] bytes) regions r at n = IsIndexOf regions (used_entry r head) at n
IndexFor (Has head pieces (part ∷ parts) bytes) regions r at n = ⊥

-- Nothing is written but the next used element of the queue's ring, and the index after it.
abbrev pub WritesUsedAlone : List Region → Kind → Device → List Access → Access → Type 0
WritesUsedAlone regions kind d before (WriteNumber at n) =
    NumberFor (known kind before) (ends_in_number before) regions
    (ring_after kind (ring_of kind d) before) at n
WritesUsedAlone regions kind d before (WriteWord at n) =
    IndexFor (known kind before) regions (ring_after kind (ring_of kind d) before) at n
WritesUsedAlone regions kind d before (ReadWord at answer) = Unit {0}
WritesUsedAlone regions kind d before (CopyBytes at answer) = Unit {0}
WritesUsedAlone regions kind d before Acquire = Unit {0}
WritesUsedAlone regions kind d before Release = Unit {0}
WritesUsedAlone regions kind d before Full = Unit {0}
WritesUsedAlone regions kind d before (TellPages of runs named) = Unit {0}
WritesUsedAlone regions kind d before (TellFigures figures) = Unit {0}
WritesUsedAlone regions kind d before (TellId id) = Unit {0}
WritesUsedAlone regions kind d before Pause = Unit {0}
WritesUsedAlone regions kind d before (Discard cut) = Unit {0}

-- ---- hints

-- Pages are told as hinted only while the round is open, by each id that was told before.
abbrev pub HintsInRound : Device → List Access → Access → Type 0
HintsInRound d before (TellPages Hint runs named) =
    is_open (round_so_far d.round before) ≡ false → runs ≡ []
HintsInRound d before (TellPages Inflate runs named) = Unit {0}
HintsInRound d before (TellPages Deflate runs named) = Unit {0}
HintsInRound d before (TellPages Statistics runs named) = Unit {0}
HintsInRound d before (TellPages Report runs named) = Unit {0}
HintsInRound d before (ReadWord at answer) = Unit {0}
HintsInRound d before (CopyBytes at answer) = Unit {0}
HintsInRound d before Acquire = Unit {0}
HintsInRound d before Release = Unit {0}
HintsInRound d before Full = Unit {0}
HintsInRound d before (TellFigures figures) = Unit {0}
HintsInRound d before (TellId id) = Unit {0}
HintsInRound d before Pause = Unit {0}
HintsInRound d before (Discard cut) = Unit {0}
HintsInRound d before (WriteNumber at number) = Unit {0}
HintsInRound d before (WriteWord at word) = Unit {0}
