-- The walk along a chain, one descriptor after the other (VIRTIO 1.1, 2.6.5), and what its pieces
-- come to.
use Rattle.std.specs.Prelude.{◌≡◌, ℕ, zero, suc, ◌+◌, ◌-◌, ◌*◌, ◌/◌, ◌%◌, ◌==◌, Bool, true, false}
use Rattle.std.specs.Prelude.{◌||◌, ◌&&◌, not, min, nat_le, nat_lt}
use Rattle.std.specs.Prelude.{List, [], ◌∷◌, ◌++◌, length, take, drop, Option, Some, None}
use Rattle.std.specs.Prelude.{if◌then◌else◌, Result, Ok, Err}
use Rattle.std.specs.List.{list_any}
use Rattle.std.specs.Int.{w16, w32, w64, from_le_bytes}
use Rattle.vb_virtio.specs.declared.limits.TheConstants.{MAX_QUEUE_SIZE, MAX_REQUEST_PAGES}
use Rattle.vb_virtio.specs.declared.layout.TheConstants.{STATISTIC_SIZE}
use Rattle.vb_virtio.specs.Limits.{page_size}
use Rattle.vb_chain.specs.declared.descriptor.Descriptor.{Descriptor}
use Rattle.vb_chain.specs.declared.pieces.Piece.{Piece}
use Rattle.vb_chain.specs.declared.fault.ChainFault.{ChainFault}
use Rattle.vb_chain.specs.declared.fault.ChainFault.TheVariants.{OutOfRam, TooLong, BadLength}
use Rattle.vb_chain.specs.declared.fault.ChainFault.TheVariants.{WrongDirection}
use Rattle.vb_chain.specs.Rules.{has_next, is_writable, piece_of, first_fault}
use Rattle.vb_request.specs.Request.{total_length}
use Rattle.vb_request.specs.Statistics.{statistics_length}
use Rattle.vb_core.specs.declared.kinds.Kind.{Kind}
use Rattle.vb_core.specs.declared.kinds.Kind.TheVariants.{Inflate, Deflate, Statistics, Hint}
use Rattle.vb_core.specs.declared.kinds.Kind.TheVariants.{Report}
use Rattle.vb_core.specs.declared.runs.Run.{Run}
use Rattle.vb_core.specs.declared.ring.Virtqueue.{Virtqueue}
use Rattle.vb_core.specs.declared.name.Named.{Named}
use Rattle.vb_core.specs.declared.statistics.Statistic.{Statistic}
use Rattle.vb_core.specs.declared.device.Denial.{Denial}
use Rattle.vb_core.specs.declared.device.Device.{Device}
use Rattle.vb_core.specs.Settings.{memory_pages}
use Rattle.vb_core.specs.Devices.{ring_of, with_one_taken}
use Rattle.vb_core.specs.Name.{NamesNumbersBy}
use Rattle.vb_core.specs.Report.{NamesPiecesBy}
use Rattle.vb_core.specs.Statistics.{AreFigures, statistics_denial}
use Rattle.vb_monitor.specs.declared.room.TheConstants.{MAX_FIGURES, ROW_DESCRIPTORS}
use Rattle.vb_monitor.specs.declared.regions.Region.{Region}
use Rattle.vb_monitor.specs.declared.regions.Spot.{Spot}
use Rattle.vb_monitor.specs.declared.outcome.Tally.{Tally}
use Rattle.vb_monitor.specs.Accesses.{Access, CopyBytes, TellFigures, TellId}
use Rattle.vb_core.specs.Hints.{heard, is_open}
use Rattle.vb_monitor.specs.Regions.{spot}
use Rattle.vb_monitor.specs.Ends.{Whole, Ends, Breaks}
use Rattle.vb_monitor.specs.Giving.{Then, AfterName, GivesBack, after_last, with_held}
use Rattle.vb_monitor.specs.Pieces.{all_parts}
use Rattle.vb_monitor.specs.Portions.{CopiesParts}

-- ---- what the bytes come to

-- The pages of a request's last portion are named.
pub record NamesBytes (w : Whole) (next : Then) (d : Device) (tally : Tally) (head : ℕ)
    (bytes : List ℕ) (log : List Access) : Type 0 where
  pub answer : Result Named Denial
  pub runs : List Run
  pub device : Device
  pub names : NamesNumbersBy w.kind bytes MAX_REQUEST_PAGES runs d device answer
  pub goes_on : AfterName w next (after_last w.kind answer device) tally head runs answer log

-- What is told of pages that a chain names by its pieces, where its pages are told, or not: all of
-- them, or none, and then each counts as skipped.
abbrev pub told_if : Bool → Result Named Denial → Result Named Denial
told_if told (Err why) = Err why
told_if true (Ok named) = Ok named
told_if false (Ok named) = Ok (record { runs = 0; pages = 0; skipped = named.pages })

-- Pages of the kind's chains are told: of hints in a round that is open alone.
abbrev pub tells_pages : Kind → Device → Bool
tells_pages Inflate d = true
tells_pages Deflate d = true
tells_pages Statistics d = false
tells_pages Hint d = is_open d.round
tells_pages Report d = true

-- The pages of a report or a hint are named, by its pieces alone: their bytes aren't read.
pub record NamesReport (w : Whole) (next : Then) (d : Device) (tally : Tally) (head : ℕ)
    (pieces : List Piece) (log : List Access) : Type 0 where
  pub answer : Result Named Denial
  pub runs : List Run
  pub device : Device
  pub names : NamesPiecesBy w.kind pieces MAX_REQUEST_PAGES runs d device answer
  pub goes_on : AfterName w next device tally head runs (told_if (tells_pages w.kind d) answer) log

-- These figures are told.
pub record TellsThenEnds (w : Whole) (d : Device) (tally : Tally) (figures : List Statistic)
    (log : List Access) : Type 0 where
  pub rest : List Access
  pub asks : log ≡ TellFigures figures ∷ rest
  pub ends : Ends w d tally None false rest

-- The figures of these bytes are told, and the buffer is held.
pub record TellsFigures (w : Whole) (d : Device) (tally : Tally) (head : ℕ) (bytes : List ℕ)
    (log : List Access) : Type 0 where
  pub figures : List Statistic
  pub are : AreFigures bytes figures
  pub tells : TellsThenEnds w (with_one_taken Statistics d) (with_held head 0 tally)
      (take (length bytes / STATISTIC_SIZE) figures) log

abbrev pub FiguresBy : Option Denial → Whole → Device → Tally → ℕ → List ℕ → List Access → Type 0
FiguresBy (Some why) w d tally head bytes log = Ends w d tally (Some why) false log
FiguresBy None w d tally head bytes log = TellsFigures w d tally head bytes log

-- The device once an id of its queue of hints was read, and its chain taken.
abbrev pub after_id : ℕ → Device → Device
after_id id d = record (with_one_taken Hint d) { round = heard id d.round }

-- This id is told, and the chain of this head is given back.
pub record TellsIdThen (w : Whole) (next : Then) (d : Device) (tally : Tally) (head id : ℕ)
    (log : List Access) : Type 0 where
  pub rest : List Access
  pub asks : log ≡ TellId id ∷ rest
  pub goes_on : GivesBack w next d tally head rest

-- The id that these bytes are, if there are 4 (VIRTIO 1.2, 5.5.6.6).
abbrev pub id_of : List ℕ → Option ℕ
id_of bytes = if length bytes == 4 then Some (from_le_bytes w32 bytes) else None

abbrev pub IdBy : Option ℕ → Whole → Then → Device → Tally → ℕ → List Access → Type 0
IdBy None w next d tally head log = Breaks w d tally BadLength log
IdBy (Some id) w next d tally head log = TellsIdThen w next (after_id id d) tally head id log

-- What the bytes of a chain's last portion come to.
abbrev pub AfterBytes : Kind → Whole → Then → Device → Tally → ℕ → List ℕ → List Access → Type 0
AfterBytes Inflate w next d tally head bytes log = NamesBytes w next d tally head bytes log
AfterBytes Deflate w next d tally head bytes log = NamesBytes w next d tally head bytes log
AfterBytes Statistics w next d tally head bytes log =
    FiguresBy (statistics_denial (length bytes) MAX_FIGURES d) w d tally head bytes log
AfterBytes Hint w next d tally head bytes log = IdBy (id_of bytes) w next d tally head log
AfterBytes Report w next d tally head bytes log = NamesBytes w next d tally head bytes log

-- ---- what the pieces come to

-- A length that a request may have which names at most this many pages.
abbrev pub is_length_within : ℕ → ℕ → Bool
is_length_within most len = nat_lt 0 len && (nat_le len (4 * most) && (len % 4 == 0))

-- How many bytes such a request of these pieces has, or what is wrong with them.
abbrev pub request_length_within : ℕ → List Piece → Result ℕ ChainFault
request_length_within most pieces =
    if list_any (λ piece. piece.writable) pieces then Err WrongDirection
    else (if not (is_length_within most (total_length pieces)) then Err BadLength
    else Ok (total_length pieces))

-- What the bytes of the last portion come to, of a chain of this head.
abbrev pub ServesBytes : Whole → Then → ℕ → Device → Tally → List ℕ → List Access → Type 0
ServesBytes w next head d tally bytes log = AfterBytes w.kind w next d tally head bytes log

abbrev pub CopiesBy : Result ℕ ChainFault → Whole → Then → Device → Tally → ℕ → List Piece →
    List Access → Type 0
CopiesBy (Err fault) w next d tally head pieces log = Breaks w d tally fault log
CopiesBy (Ok bytes) w next d tally head pieces log =
    CopiesParts w (ServesBytes w next head) d tally (all_parts pieces) [] log

-- How many bytes an id of hints of these pieces has, or what is wrong with them.
abbrev pub id_length : List Piece → Result ℕ ChainFault
id_length pieces =
    if list_any (λ piece. piece.writable) pieces then Err WrongDirection
    else (if not (total_length pieces == 4) then Err BadLength else Ok (total_length pieces))

-- A chain of hints has an id, or pages: an id, where its first piece is the device's to read.
abbrev pub has_id : List Piece → Bool
has_id [] = false
has_id (piece ∷ pieces) = not piece.writable

abbrev pub ServesHint : Bool → Whole → Then → Device → Tally → ℕ → List Piece → List Access → Type 0
ServesHint true w next d tally head pieces log =
    CopiesBy (id_length pieces) w next d tally head pieces log
ServesHint false w next d tally head pieces log = NamesReport w next d tally head pieces log

-- A chain of these pieces is served: the bytes of a report aren't read, nor of hinted pages.
abbrev pub ServesPieces : Kind → Whole → Then → Device → Tally → ℕ → List Piece → List Access →
    Type 0
ServesPieces Inflate w next d tally head pieces log =
    CopiesBy (request_length_within tally.longest pieces) w next d tally head pieces log
ServesPieces Deflate w next d tally head pieces log =
    CopiesBy (request_length_within tally.longest pieces) w next d tally head pieces log
ServesPieces Statistics w next d tally head pieces log =
    CopiesBy (statistics_length pieces) w next d tally head pieces log
ServesPieces Hint w next d tally head pieces log =
    ServesHint (has_id pieces) w next d tally head pieces log
ServesPieces Report w next d tally head pieces log = NamesReport w next d tally head pieces log

-- ---- the walk

-- The descriptor of 16 bytes, each field's lowest byte first.
abbrev pub descriptor_of : List ℕ → Descriptor
descriptor_of bytes = record {
  addr = from_le_bytes w64 (take 8 bytes);
  len = from_le_bytes w32 (take 4 (drop 8 bytes));
  flags = from_le_bytes w16 (take 2 (drop 12 bytes));
  next = from_le_bytes w16 (take 2 (drop 14 bytes));
}

-- How many descriptors a chain has at most, by how many the table has: no more than that (VIRTIO
-- 1.1, 2.6.5), and no more than the device takes of the largest ring.
abbrev pub longest : ℕ → ℕ
longest q = min q MAX_QUEUE_SIZE

-- Where guest memory ends.
abbrev pub memory_end : Device → ℕ
memory_end d = page_size * memory_pages d.settings

-- ---- rows of descriptors

-- Descriptors that are one after the other in a table: the number of the first, and the bytes that
-- were copied of them together, 16 of each.
pub record TableRow : Type 0 where
  pub first : ℕ
  pub bytes : List ℕ

abbrev pub row_of : ℕ → List ℕ → TableRow
row_of first bytes = record { first = first; bytes = bytes }

-- Nothing was copied yet.
abbrev pub no_row : TableRow
no_row = row_of 0 []

-- The row has all bytes of the descriptor of this number.
abbrev pub has_descriptor : TableRow → ℕ → Bool
has_descriptor row number =
    nat_le row.first number && nat_le (16 * (number - row.first) + 16) (length row.bytes)

-- The bytes of that descriptor, where the row has it.
abbrev pub in_row : TableRow → ℕ → Option (List ℕ)
in_row row number =
    if has_descriptor row number then Some (take 16 (drop (16 * (number - row.first)) row.bytes))
    else None

-- How many descriptors are copied together with one, after which they are in the table, once these
-- pieces are known: none with a chain's first, and with others as many as a row may have, up to the
-- end of the table.
abbrev pub most_further : ℕ → ℕ → List Piece → ℕ
most_further q number [] = 0
most_further q number (p ∷ ps) = min (ROW_DESCRIPTORS - 1) (q - (number + 1))

-- All of them where they lie in one region with it, and else none.
abbrev pub unless_apart : Option Spot → ℕ → ℕ
unless_apart (Some at) further = further
unless_apart None further = 0

abbrev pub further_in_row : List Region → Virtqueue → ℕ → List Piece → ℕ
further_in_row regions r number pieces =
    unless_apart
    (spot regions (r.table + 16 * number)
    (16 * (most_further r.size number pieces + 1)))
    (most_further r.size number pieces)

-- ---- from one descriptor to the next

-- The chain goes on with another descriptor, or is whole.
abbrev pub GoesOn : Bool → (ℕ → Bool → List Piece → List Access → Type 0) →
    (List Piece → List Access → Type 0) → Bool → Descriptor → List Piece → List Access → Type 0
GoesOn true on whole writing x pieces log =
    on x.next (writing || is_writable x) (pieces ++ piece_of x ∷ []) log
GoesOn false on whole writing x pieces log = whole (pieces ++ piece_of x ∷ []) log

abbrev pub DescriptorBy : Option ChainFault → Whole → Device → Tally →
    (ℕ → Bool → List Piece → List Access → Type 0) → (List Piece → List Access → Type 0) →
    Bool → Descriptor → List Piece → List Access → Type 0
DescriptorBy (Some fault) w d tally on whole writing x pieces log = Breaks w d tally fault log
DescriptorBy None w d tally on whole writing x pieces log =
    GoesOn (has_next x) on whole writing x pieces log

-- Where no rule of a table is broken, the chain may be too long by this descriptor.
abbrev pub or_too_long : Bool → Option ChainFault → Option ChainFault
or_too_long past (Some fault) = Some fault
or_too_long past None = if past then Some TooLong else None

-- The first rule that a descriptor breaks, after k others of its chain, in a table of q: the last
-- one that a chain may have doesn't go on.
abbrev pub chain_fault : ℕ → ℕ → Bool → ℕ → Descriptor → Option ChainFault
chain_fault q end writing k x =
    or_too_long (has_next x && nat_le (longest q) (k + 1)) (first_fault q end writing k x)

-- The first rule that is broken by a descriptor after k others, where k may be as many as a chain
-- may have: it is too long then.
abbrev pub table_fault : ℕ → ℕ → Bool → ℕ → Descriptor → Option ChainFault
table_fault q end writing k x =
    if nat_lt k (longest q) then chain_fault q end writing k x else Some TooLong

-- What a descriptor that comes after these pieces says; `writing` where one of them is the device's
-- to write.
abbrev pub AfterDescriptor : Whole → Device → Tally →
    (ℕ → Bool → List Piece → List Access → Type 0) → (List Piece → List Access → Type 0) →
    Bool → List Piece → List ℕ → List Access → Type 0
AfterDescriptor w d tally on whole writing pieces bytes log =
    DescriptorBy (table_fault (ring_of w.kind d).size (memory_end d) writing
    (length pieces) (descriptor_of bytes)) w d tally on whole writing (descriptor_of bytes) pieces
    log

-- The bytes of a descriptor are copied, once, and of n that come after it in the table. The walk
-- goes on in this copy.
pub record AsksRow (w : Whole) (d : Device) (tally : Tally)
    (on : TableRow → ℕ → Bool → List Piece → List Access → Type 0)
    (whole : List Piece → List Access → Type 0) (number further : ℕ) (writing : Bool)
    (pieces : List Piece) (at : Spot) (log : List Access) : Type 0 where
  pub bytes : List ℕ
  pub rest : List Access
  pub asks : log ≡ CopyBytes at bytes ∷ rest
  pub long : length bytes ≡ 16 * (further + 1)
  pub goes_on : AfterDescriptor w d tally (on (row_of number bytes)) whole writing pieces
      (take 16 bytes) rest

abbrev pub RowAt : Whole → Device → Tally →
    (TableRow → ℕ → Bool → List Piece → List Access → Type 0) →
    (List Piece → List Access → Type 0) → ℕ → ℕ → Bool → List Piece → Option Spot → List Access →
    Type 0
RowAt w d tally on whole number further writing pieces None log = Breaks w d tally OutOfRam log
RowAt w d tally on whole number further writing pieces (Some at) log =
    AsksRow w d tally on whole number further writing pieces at log

-- A row is asked for that begins with this descriptor, and has n after it.
abbrev pub TakesRow : Whole → Device → Tally →
    (TableRow → ℕ → Bool → List Piece → List Access → Type 0) →
    (List Piece → List Access → Type 0) → ℕ → ℕ → Bool → List Piece → List Access → Type 0
TakesRow w d tally on whole number further writing pieces log =
    RowAt w d tally on whole number further writing pieces
    (spot w.regions ((ring_of w.kind d).table + 16 * number) (16 * (further + 1))) log

-- Where the row that was copied last has the descriptor, nothing is asked.
abbrev pub FollowsBy : Option (List ℕ) → Whole → Device → Tally →
    (TableRow → ℕ → Bool → List Piece → List Access → Type 0) →
    (List Piece → List Access → Type 0) → TableRow → ℕ → Bool → List Piece → List Access → Type 0
FollowsBy (Some bytes) w d tally on whole row number writing pieces log =
    AfterDescriptor w d tally (on row) whole writing pieces bytes log
FollowsBy None w d tally on whole row number writing pieces log =
    TakesRow w d tally on whole number
    (further_in_row w.regions (ring_of w.kind d) number pieces) writing pieces log

-- From a descriptor of this number on the chain is followed, which may have n more, and this row
-- was copied last.
abbrev pub Follows : ℕ → Whole → Device → Tally → (List Piece → List Access → Type 0) → TableRow →
    ℕ → Bool → List Piece → List Access → Type 0
Follows zero w d tally whole row number writing pieces log = Breaks w d tally TooLong log
Follows (suc n) w d tally whole row number writing pieces log =
    FollowsBy (in_row row number) w d tally (Follows n w d tally whole) whole row number writing
    pieces log
