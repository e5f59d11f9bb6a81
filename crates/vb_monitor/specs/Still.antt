-- A notice over memory that stays as it is for as long as the notice reads of it: it does what the
-- bytes of memory say.
use Rattle.std.specs.Prelude.{◌≡◌, ◌≢◌, ◌⊎◌, ℕ, ◌+◌, ◌*◌, ◌%◌, ◌<◌, List, [], ◌∷◌, ◌++◌, length}
use Rattle.std.specs.Prelude.{map, take, drop, ◌==◌, ◌≤◌, if◌then◌else◌, Bool, true, false, not}
use Rattle.std.specs.Prelude.{Option, Some, None, Result, Ok, Err}
use Rattle.std.specs.List.{range_with_len, flat_map, AllByRecursion}
use Rattle.std.specs.Int.{w16, from_le_bytes}
use Rattle.vb_chain.specs.declared.descriptor.Descriptor.{Descriptor}
use Rattle.vb_chain.specs.declared.pieces.Piece.{Piece}
use Rattle.vb_chain.specs.declared.fault.ChainFault.{ChainFault}
use Rattle.vb_chain.specs.declared.fault.ChainFault.TheVariants.{IndexJump}
use Rattle.vb_ring.specs.declared.device.Taken.{Taken}
use Rattle.vb_ring.specs.Entries.{ahead, next_by}
use Rattle.vb_request.specs.Statistics.{statistics_length}
use Rattle.vb_request.specs.Report.{report_request}
use Rattle.vb_core.specs.declared.kinds.Kind.{Kind}
use Rattle.vb_core.specs.declared.kinds.Kind.TheVariants.{Inflate, Deflate, Statistics, Hint}
use Rattle.vb_core.specs.declared.kinds.Kind.TheVariants.{Report}
use Rattle.vb_core.specs.declared.ring.Virtqueue.{Virtqueue}
use Rattle.vb_core.specs.declared.device.Denial.{Denial}
use Rattle.vb_core.specs.declared.device.Denial.TheVariants.{Broken}
use Rattle.vb_core.specs.declared.device.Device.{Device}
use Rattle.vb_core.specs.declared.name.Named.{Named}
use Rattle.vb_core.specs.Devices.{ring_of, with_one_taken, needing_reset}
use Rattle.vb_core.specs.Report.{run_of}
use Rattle.vb_monitor.specs.declared.regions.Region.{Region}
use Rattle.vb_monitor.specs.declared.parts.Part.{Part}
use Rattle.vb_monitor.specs.declared.room.TheConstants.{MAX_BYTES}
use Rattle.vb_monitor.specs.declared.outcome.{Budget.Budget, Tally.Tally}
use Rattle.vb_monitor.specs.Accesses.{Access, ReadWord, CopyBytes, Acquire, Release, Full}
use Rattle.vb_monitor.specs.Accesses.{TellPages, TellFigures, TellId, Pause, Discard, WriteNumber}
use Rattle.vb_monitor.specs.Accesses.{WriteWord}
use Rattle.vb_monitor.specs.Regions.{spot}
use Rattle.vb_monitor.specs.Chains.{descriptor_of, memory_end, request_length_within, id_length}
use Rattle.vb_monitor.specs.Chains.{has_id}
use Rattle.vb_monitor.specs.Within.{ChainWithin, FaultWithin}
use Rattle.vb_monitor.specs.Ends.{Whole}
use Rattle.vb_monitor.specs.Notices.{entry_offset, fresh, with_chains, with_published}
use Rattle.vb_monitor.specs.Portions.{ServesPortion, GoesFurther}
use Rattle.vb_monitor.specs.Machine.{next_chain, serves}
use Rattle.vb_monitor.specs.Giving.{TellsThen, spent}

-- n bytes of memory from an address on.
abbrev pub bytes_from : (ℕ → ℕ) → ℕ → ℕ → List ℕ
bytes_from byte a len = map byte (range_with_len a len)

-- What is read is what memory has there.
abbrev pub Holds : (ℕ → ℕ) → List Region → Access → Type 0
Holds byte regions (ReadWord at answer) =
    (a : ℕ) → spot regions a 2 ≡ Some at → answer ≡ from_le_bytes w16 (bytes_from byte a 2)
Holds byte regions (CopyBytes at answer) =
    (a : ℕ) → spot regions a (length answer) ≡ Some at →
    answer ≡ bytes_from byte a (length answer)
Holds byte regions Acquire = Unit {0}
Holds byte regions Release = Unit {0}
Holds byte regions Full = Unit {0}
Holds byte regions (TellPages kind runs named) = Unit {0}
Holds byte regions (TellFigures figures) = Unit {0}
Holds byte regions (TellId id) = Unit {0}
Holds byte regions Pause = Unit {0}
Holds byte regions (Discard cut) = Unit {0}
Holds byte regions (WriteNumber at number) = Unit {0}
Holds byte regions (WriteWord at word) = Unit {0}

-- What these accesses read is what memory has, up to the first that is no read and no acquire
-- fence. Of the accesses from that one on, or of none where there is no such one, `onward` holds.
abbrev pub StaysUntil : (List Access → Type 0) → (ℕ → ℕ) → List Region → List Access → Type 0
StaysUntil onward byte regions [] = onward []
StaysUntil onward byte regions (ReadWord at answer ∷ xs) =
    Holds byte regions (ReadWord at answer) × StaysUntil onward byte regions xs
StaysUntil onward byte regions (CopyBytes at answer ∷ xs) =
    Holds byte regions (CopyBytes at answer) × StaysUntil onward byte regions xs
StaysUntil onward byte regions (Acquire ∷ xs) = Unit {0} × StaysUntil onward byte regions xs
StaysUntil onward byte regions (Release ∷ xs) = onward (Release ∷ xs)
StaysUntil onward byte regions (Full ∷ xs) = onward (Full ∷ xs)
StaysUntil onward byte regions (TellPages kind runs named ∷ xs) =
    onward (TellPages kind runs named ∷ xs)
StaysUntil onward byte regions (TellFigures figures ∷ xs) = onward (TellFigures figures ∷ xs)
StaysUntil onward byte regions (TellId id ∷ xs) = onward (TellId id ∷ xs)
StaysUntil onward byte regions (Pause ∷ xs) = onward (Pause ∷ xs)
StaysUntil onward byte regions (Discard cut ∷ xs) = onward (Discard cut ∷ xs)
StaysUntil onward byte regions (WriteNumber at number ∷ xs) = onward (WriteNumber at number ∷ xs)
StaysUntil onward byte regions (WriteWord at word ∷ xs) = onward (WriteWord at word ∷ xs)

-- They are these accesses.
abbrev pub AreThese : List Access → List Access → Type 0
AreThese rest log = log ≡ rest

-- What is read of a ring is guest memory: the available index, the entry that is taken next, and
-- each descriptor.
pub record IsMapped (regions : List Region) (r : Virtqueue) : Type 0 where
  pub index : spot regions (r.avail + 2) 2 ≢ None
  pub entry : spot regions (r.avail + entry_offset r) 2 ≢ None
  pub descriptors : (k : ℕ) → k < r.size → spot regions (r.table + 16 * k) 16 ≢ None

-- ---- the chain that is next, by the bytes of memory

-- The available index of memory, and the entry that is taken next (VIRTIO 1.1, 2.6.6).
abbrev pub index_in : (ℕ → ℕ) → Virtqueue → ℕ
index_in byte r = from_le_bytes w16 (bytes_from byte (r.avail + 2) 2)

abbrev pub entry_in : (ℕ → ℕ) → Virtqueue → ℕ
entry_in byte r =
    from_le_bytes w16 (bytes_from byte (r.avail + (4 + 2 * (r.next_avail % r.size))) 2)

-- The descriptors that memory has from an address on.
abbrev pub in_memory : (ℕ → ℕ) → ℕ → ℕ → Descriptor
in_memory byte table i = descriptor_of (bytes_from byte (table + 16 * i) 16)

-- The head that is next: none where the index says that all are taken, and a fault where the index
-- is further ahead than the queue has descriptors.
abbrev pub head_in : (ℕ → ℕ) → Virtqueue → Result (Option ℕ) ChainFault
head_in byte r =
    next_by (ahead (index_in byte r) r.next_avail) r.size IndexJump (entry_in byte r)

-- A head is next, and this is the first rule that is broken on the way from it (VIRTIO 1.1, 2.6.5),
-- in memory of n bytes.
pub record IsBrokenNext (byte : ℕ → ℕ) (end : ℕ) (r : Virtqueue) (fault : ChainFault) :
    Type 0 where
  pub head : ℕ
  pub is_next : head_in byte r ≡ Ok (Some head)
  pub gives : FaultWithin (in_memory byte r.table) r.size end head fault

-- Memory of n bytes has this next on a queue: no chain; the chain of a head, with its pieces; or
-- the rule that is broken.
abbrev pub HasNext : (ℕ → ℕ) → ℕ → Virtqueue → Result (Option Taken) ChainFault → Type 0
HasNext byte end r (Ok None) = head_in byte r ≡ Ok None
HasNext byte end r (Ok (Some taken)) =
    (head_in byte r ≡ Ok (Some taken.head)) ×
    ChainWithin (in_memory byte r.table) r.size end taken.head taken.chain
HasNext byte end r (Err fault) = (head_in byte r ≡ Err fault) ⊎ IsBrokenNext byte end r fault

-- Memory has something next on a kind's queue, of which `does` holds.
pub record Finds (byte : ℕ → ℕ) (kind : Kind) (d : Device)
    (does : Result (Option Taken) ChainFault → Type 0) : Type 0 where
  pub found : Result (Option Taken) ChainFault
  pub is_next : HasNext byte (memory_end d) (ring_of kind d) found
  pub does_so : does found

-- The bytes of the kind's chains are the device's to read.
abbrev pub is_read : Kind → Bool
is_read Inflate = true
is_read Deflate = true
is_read Statistics = true
is_read Hint = false
is_read Report = false

-- How many bytes the pieces of a chain of this kind have, or what is wrong with them; a request may
-- name this many pages.
abbrev pub length_of : Kind → ℕ → List Piece → Result ℕ ChainFault
length_of Inflate most pieces = request_length_within most pieces
length_of Deflate most pieces = request_length_within most pieces
length_of Statistics most pieces = statistics_length pieces
length_of Hint most pieces = id_length pieces
length_of Report most pieces = request_length_within most pieces

-- ---- what is done

-- What a notice of this budget may serve after the chain that it takes first, and this index.
abbrev pub as_read : ℕ → Budget → ℕ → Tally
as_read n budget index = with_chains n (with_published index (fresh budget))

-- After accesses that were made, of the others both hold.
pub record AfterReads (still does : List Access → Type 0) (log : List Access) : Type 0 where
  pub read : List Access
  pub rest : List Access
  pub all : log ≡ read ++ rest
  pub is : does rest
  pub still_so : still rest

-- A notice ends for this reason, or without one, and leaves this device; no further access comes.
abbrev pub EndsSo : (List Access → Type 0) → Option Denial → Whole → Device → Type 0
EndsSo still why w d = (w.outcome.why ≡ why) × (w.device ≡ d) × still []

-- A chain is served by its pieces; or a rule is broken, as their length is none of its kind.
abbrev pub ServesTaken : (List Access → Type 0) → Taken → Result ℕ ChainFault → Whole → Tally →
    Device → List Access → Type 0
ServesTaken still taken (Err fault) w tally d log =
    EndsSo still (Some (Broken fault)) w (needing_reset d)
ServesTaken still taken (Ok bytes) w tally d log =
    AfterReads still (serves w tally d taken.head taken.chain) log

-- A notice does what memory has next: it ends as nothing is there, or as a rule is broken; or it
-- serves the chain. What still holds is known of the accesses then.
abbrev pub DoesNext : (List Access → Type 0) → Whole → Tally → Device → List Access →
    Result (Option Taken) ChainFault → Type 0
DoesNext still w tally d log (Err fault) =
    EndsSo still (Some (Broken fault)) w (needing_reset d)
DoesNext still w tally d log (Ok None) = EndsSo still None w d
DoesNext still w tally d log (Ok (Some taken)) =
    ServesTaken still taken (length_of w.kind tally.longest taken.chain) w tally d log

-- The chain's pieces name pages: those of a report, and of a hint that has no id.
abbrev pub has_pages : Kind → List Piece → Bool
has_pages Inflate pieces = false
has_pages Deflate pieces = false
has_pages Statistics pieces = false
has_pages Hint pieces = not (has_id pieces)
has_pages Report pieces = true

-- What is told of these free pages, a run for each piece of their chain.
abbrev pub told_free : Taken → List ℕ → Named
told_free taken pages =
    record { runs = length taken.chain; pages = length pages; skipped = 0 }

-- The pages of a report or a hint are told, a run for each piece, and then discarded, if they may
-- be; or a rule is broken, as the pieces name no free pages.
abbrev pub TellsTaken : (List Access → Type 0) → Taken → Result (List ℕ) ChainFault → Whole →
    Tally → Device → List Access → Type 0
TellsTaken still taken (Err fault) w tally d log =
    EndsSo still (Some (Broken fault)) w (needing_reset d)
TellsTaken still taken (Ok pages) w tally d log =
    AfterReads still (TellsThen w (next_chain w tally) (with_one_taken w.kind d)
    (spent (told_free taken pages) tally) taken.head (map run_of taken.chain)
    (told_free taken pages)) log

-- A chain whose pieces name pages tells them; another one is served by its pieces.
abbrev pub ReportsTaken : Bool → (List Access → Type 0) → Taken → Whole → Tally → Device →
    List Access → Type 0
ReportsTaken true still taken w tally d log =
    TellsTaken still taken (report_request taken.chain d.settings.reserved_pages) w tally d log
ReportsTaken false still taken w tally d log =
    AfterReads still (serves w tally d taken.head taken.chain) log

-- A notice of reports or hints does what memory has next: it ends as above, or the pages of the
-- chain are told.
abbrev pub ReportsNext : (List Access → Type 0) → Whole → Tally → Device → List Access →
    Result (Option Taken) ChainFault → Type 0
ReportsNext still w tally d log (Err fault) =
    EndsSo still (Some (Broken fault)) w (needing_reset d)
ReportsNext still w tally d log (Ok None) = EndsSo still None w d
ReportsNext still w tally d log (Ok (Some taken)) =
    ReportsTaken (has_pages w.kind taken.chain) still taken w tally d log

-- ---- the bytes of its pieces

-- The bytes of pieces, one piece after the other.
abbrev pub bytes_of : (ℕ → ℕ) → List Piece → List ℕ
bytes_of byte pieces = flat_map (λ p. bytes_from byte p.addr p.len) pieces

-- Each part is guest memory, within one region.
abbrev pub ArePartsMapped : List Region → List Part → Type 0
ArePartsMapped regions parts =
    AllByRecursion (λ part. spot regions (part.address + part.plus) part.length ≢ None) parts

-- ---- portions

-- The bytes of parts, one part after the other.
abbrev pub bytes_of_parts : (ℕ → ℕ) → List Part → List ℕ
bytes_of_parts byte parts =
    flat_map (λ part. bytes_from byte (part.address + part.plus) part.length) parts

-- After a full portion another one begins.
abbrev pub in_portion : ℕ → ℕ
in_portion n = if n == MAX_BYTES then 0 else n

-- Each part has bytes, and ends within its portion, of which n bytes are before the first part.
abbrev pub AreInPortions : ℕ → List Part → Type 0
AreInPortions n [] = Unit {0}
AreInPortions n (part ∷ parts) =
    (1 ≤ part.length) × (in_portion n + part.length ≤ MAX_BYTES) ×
    AreInPortions (in_portion n + part.length) parts

-- The first portion of parts is served by its bytes, and copying goes on with the parts after it,
-- which have all other bytes.
pub record ServesFirst (still : List Access → Type 0) (byte : ℕ → ℕ) (w : Whole)
    (served : Device → Tally → List ℕ → List Access → Type 0) (d : Device) (t : Tally)
    (parts : List Part) (log : List Access) : Type 0 where
  pub count : ℕ
  pub left : bytes_of_parts byte (drop count parts) ≡ drop MAX_BYTES (bytes_of_parts byte parts)
  pub portions : AreInPortions 0 (drop count parts)
  pub serves_so : AfterReads still (ServesPortion w.kind w
      (λ d2 t2 rest. GoesFurther w served d2 (drop count parts) t2 rest) d t
      (take MAX_BYTES (bytes_of_parts byte parts))) log
