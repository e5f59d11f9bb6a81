-- The next chain of a queue is served over guest memory: what becomes of memory and of the device.
use Rattle.std.specs.Prelude.{◌≡◌, ◌+◌, ◌*◌, ◌/◌, ℕ, Bool, true, false, List, [], ◌∷◌, length, take}
use Rattle.std.specs.Prelude.{Option, Some, None, Result, Ok, Err}
use Rattle.std.specs.Int.{w16, w32, from_le_bytes, to_le_bytes}
use Rattle.vb_virtio.specs.declared.limits.TheConstants.{MAX_REQUEST_PAGES}
use Rattle.vb_virtio.specs.declared.layout.TheConstants.{STATISTIC_SIZE}
use Rattle.vb_virtio.specs.Limits.{page_size}
use Rattle.vb_chain.specs.declared.descriptor.Descriptor.{Descriptor}
use Rattle.vb_chain.specs.declared.fault.ChainFault.{ChainFault}
use Rattle.vb_chain.specs.declared.pieces.Piece.{Piece}
use Rattle.vb_request.specs.Request.{byte_of_address, request_length}
use Rattle.vb_request.specs.Statistics.{statistics_length}
use Rattle.vb_core.specs.declared.kinds.Kind.{Kind}
use Rattle.vb_core.specs.declared.kinds.Kind.TheVariants.{Inflate, Deflate, Statistics, Hint}
use Rattle.vb_core.specs.declared.kinds.Kind.TheVariants.{Report}
use Rattle.vb_core.specs.declared.runs.Run.{Run}
use Rattle.vb_core.specs.declared.name.Named.{Named}
use Rattle.vb_core.specs.declared.statistics.Statistic.{Statistic}
use Rattle.vb_core.specs.declared.ring.UsedEntry.{UsedEntry}
use Rattle.vb_core.specs.declared.ring.Virtqueue.{Virtqueue}
use Rattle.vb_core.specs.declared.device.Denial.{Denial}
use Rattle.vb_core.specs.declared.device.Denial.TheVariants.{Broken}
use Rattle.vb_core.specs.declared.device.Device.{Device}
use Rattle.vb_core.specs.Config.{keeps_free}
use Rattle.vb_core.specs.Rings.{used_entry}
use Rattle.vb_core.specs.Devices.{ring_of, needing_reset, queue_denial, with_one_taken}
use Rattle.vb_core.specs.Name.{NamesNumbersBy}
use Rattle.vb_core.specs.Report.{NamesPiecesBy}
use Rattle.vb_core.specs.Statistics.{AreFigures}
use Rattle.vb_monitor.specs.declared.regions.Region.{Region}
use Rattle.vb_monitor.specs.declared.cuts.Cut.{Cut}
use Rattle.vb_monitor.specs.declared.outcome.Outcome.{Outcome}
use Rattle.vb_monitor.specs.Chains.{descriptor_of, memory_end, has_id, id_length, after_id}
use Rattle.vb_monitor.specs.Chains.{told_if, tells_pages}
use Rattle.vb_monitor.specs.Within.{ChainWithin, FaultWithin}
use Rattle.vb_monitor.specs.Giving.{after_use, after_last, cuts_for, is_kept}
use Rattle.vb_monitor.specs.Notices.{entry_offset, stands}
use Rattle.vb_monitor.specs.Still.{bytes_from, bytes_of, index_in}
use Rattle.vb_monitor.specs.Accesses.{Discard}
use Rattle.vb_served.specs.Store.{Store, Puts, After, with_marks, with_figures}

-- ---- what memory says

-- The bytes of memory, by address.
abbrev pub byte : Store → ℕ → ℕ
byte s = byte_of_address s.mem

-- The head of the entry that is taken next.
abbrev pub head_in : (ℕ → ℕ) → Virtqueue → ℕ
head_in byte r = from_le_bytes w16 (bytes_from byte (r.avail + entry_offset r) 2)

-- The descriptor of a number.
abbrev pub descriptor_in : (ℕ → ℕ) → Virtqueue → ℕ → Descriptor
descriptor_in byte r i = descriptor_of (bytes_from byte (r.table + 16 * i) 16)

-- The chain from the next head has these pieces.
abbrev pub NextGives : (ℕ → ℕ) → Virtqueue → ℕ → List Piece → Type 0
NextGives byte r end pieces = ChainWithin (descriptor_in byte r) r.size end (head_in byte r) pieces

-- The first fault on the way from there.
abbrev pub NextFault : (ℕ → ℕ) → Virtqueue → ℕ → ChainFault → Type 0
NextFault byte r end fault = FaultWithin (descriptor_in byte r) r.size end (head_in byte r) fault

-- All of a memory of this many pages, as one region in which a place is an address.
abbrev pub all_of : ℕ → List Region
all_of pages = record { guest = 0; length = page_size * pages; in_file = 0 } ∷ []

-- ---- what is made of memory

-- These parts lost their frames, one part after the other.
abbrev pub Discards : Store → List Cut → Store → Type 0
Discards s [] t = t ≡ s
Discards s (cut ∷ cuts) t = (next : Store) × After s (Discard cut) next × Discards next cuts t

-- A used element was written, its id, its length and then the index.
pub record Gives (e : UsedEntry) (s t : Store) : Type 0 where
  pub with_id : Store
  pub with_length : Store
  pub id : Puts e.element_at (to_le_bytes w32 e.id) s with_id
  pub long : Puts (e.element_at + 4) (to_le_bytes w32 e.length) with_id with_length
  pub index : Puts e.index_at (to_le_bytes w16 e.index) with_length t

-- Nothing is served, for this reason, if there is one, and memory is as before.
pub record Leaves (d1 d2 : Device) (why reason : Option Denial) (s t : Store) : Type 0 where
  pub ends : why ≡ reason
  pub device : d2 ≡ d1
  pub memory : t ≡ s

-- A rule is broken: the device needs a reset.
abbrev pub BreaksRule : ChainFault → Device → Device → Option Denial → Store → Store → Type 0
BreaksRule fault d1 d2 why s t = Leaves (needing_reset d1) d2 why (Some (Broken fault)) s t

-- The pages that were named are ballooned, or no more, and lost their frames, where the kind's do;
-- and the chain of this head was given back: the notice ends then.
pub record Settles (kind : Kind) (head : ℕ) (runs : List Run) (d1 d2 : Device)
    (why : Option Denial) (s t : Store) : Type 0 where
  pub between : Store
  pub discards : Discards (with_marks kind runs s)
      (cuts_for kind (is_kept kind false (keeps_free kind d1)) (all_of (length s.mem)) runs) between
  pub gives : Gives (used_entry (ring_of kind d1) head) between t
  pub device : d2 ≡ after_use kind d1
  pub ends : why ≡ None

-- What is made of a chain whose bytes or pieces named pages, or broke a rule.
abbrev pub NamesOne : Kind → ℕ → List Run → Device → Device → Option Denial → Store → Store →
    Result Named Denial → Type 0
NamesOne kind head runs d1 d2 why s t (Err fault) = Leaves d1 d2 why (Some fault) s t
NamesOne kind head runs d1 d2 why s t (Ok named) =
    Settles kind head (take named.runs runs) d1 d2 why s t

-- ---- a chain of each kind

-- A request of these bytes is served.
pub record ServesRequest (kind : Kind) (head : ℕ) (bytes : List ℕ) (d1 d2 : Device)
    (why : Option Denial) (s t : Store) : Type 0 where
  pub runs : List Run
  pub device : Device
  pub answer : Result Named Denial
  pub names : NamesNumbersBy kind bytes MAX_REQUEST_PAGES runs d1 device answer
  pub serves : NamesOne kind head runs (after_last kind answer device) d2 why s t answer

-- A report of these pieces is served, or hints: of these no pages are told unless their round is
-- open.
pub record ServesReport (kind : Kind) (head : ℕ) (pieces : List Piece) (d1 d2 : Device)
    (why : Option Denial) (s t : Store) : Type 0 where
  pub runs : List Run
  pub device : Device
  pub answer : Result Named Denial
  pub names : NamesPiecesBy kind pieces MAX_REQUEST_PAGES runs d1 device answer
  pub serves : NamesOne kind head runs device d2 why s t (told_if (tells_pages kind d1) answer)

-- An id of hints was read: the device's round opens or closes by it, and the chain of this head was
-- given back.
pub record HearsId (head id : ℕ) (d1 d2 : Device) (why : Option Denial) (s t : Store) : Type 0 where
  pub gives : Gives (used_entry (ring_of Hint (after_id id d1)) head) s t
  pub device : d2 ≡ after_use Hint (after_id id d1)
  pub ends : why ≡ None

abbrev pub HearsBy : Result ℕ ChainFault → ℕ → List Piece → Device → Device → Option Denial →
    Store → Store → Type 0
HearsBy (Err fault) head pieces d1 d2 why s t = BreaksRule fault d1 d2 why s t
HearsBy (Ok total) head pieces d1 d2 why s t =
    HearsId head (from_le_bytes w32 (bytes_of (byte s) pieces)) d1 d2 why s t

-- A chain of hints is served: of an id, or of pages.
abbrev pub ServesHint : Bool → ℕ → List Piece → Device → Device → Option Denial → Store → Store →
    Type 0
ServesHint true head pieces d1 d2 why s t = HearsBy (id_length pieces) head pieces d1 d2 why s t
ServesHint false head pieces d1 d2 why s t = ServesReport Hint head pieces d1 d2 why s t

-- A buffer of statistics of these bytes is taken and held: its figures are the last ones.
pub record HoldsBuffer (head : ℕ) (bytes : List ℕ) (d1 d2 : Device) (outcome : Outcome)
    (s t : Store) : Type 0 where
  pub figures : List Statistic
  pub are : AreFigures bytes figures
  pub told : t ≡ with_figures (take (length bytes / STATISTIC_SIZE) figures) s
  pub device : d2 ≡ with_one_taken Statistics d1
  pub ends : outcome.why ≡ None
  pub held : outcome.tally.held ≡ Some (record { head = head; pages = 0 })

abbrev pub RequestBy : Result ℕ ChainFault → Kind → ℕ → List Piece → Device → Device → Outcome →
    Store → Store → Type 0
RequestBy (Err fault) kind head pieces d1 d2 outcome s t = BreaksRule fault d1 d2 outcome.why s t
RequestBy (Ok total) kind head pieces d1 d2 outcome s t =
    ServesRequest kind head (bytes_of (byte s) pieces) d1 d2 outcome.why s t

abbrev pub BufferBy : Result ℕ ChainFault → ℕ → List Piece → Device → Device → Outcome → Store →
    Store → Type 0
BufferBy (Err fault) head pieces d1 d2 outcome s t = BreaksRule fault d1 d2 outcome.why s t
BufferBy (Ok total) head pieces d1 d2 outcome s t =
    HoldsBuffer head (bytes_of (byte s) pieces) d1 d2 outcome s t

-- A chain of these pieces is served.
abbrev pub ServesChain : Kind → ℕ → List Piece → Device → Device → Outcome → Store → Store →
    Type 0
ServesChain Inflate head pieces d1 d2 outcome s t =
    RequestBy (request_length pieces) Inflate head pieces d1 d2 outcome s t
ServesChain Deflate head pieces d1 d2 outcome s t =
    RequestBy (request_length pieces) Deflate head pieces d1 d2 outcome s t
ServesChain Statistics head pieces d1 d2 outcome s t =
    BufferBy (statistics_length pieces) head pieces d1 d2 outcome s t
ServesChain Hint head pieces d1 d2 outcome s t =
    ServesHint (has_id pieces) head pieces d1 d2 outcome.why s t
ServesChain Report head pieces d1 d2 outcome s t =
    ServesReport Report head pieces d1 d2 outcome.why s t

-- ---- the next chain

-- The next chain of a queue is served, if one is there, by the bytes that memory had before.
pub data ServesNext (kind : Kind) (d1 d2 : Device) (outcome : Outcome) (s t : Store) :
    Type 0 where
  Denied : (why : Denial) → queue_denial kind d1 ≡ Some why
      → Leaves d1 d2 outcome.why (Some why) s t → ServesNext kind d1 d2 outcome s t
  Jumped : (fault : ChainFault) → queue_denial kind d1 ≡ None
      → stands (ring_of kind d1) (index_in (byte s) (ring_of kind d1)) ≡ Err fault
      → BreaksRule fault d1 d2 outcome.why s t → ServesNext kind d1 d2 outcome s t
  NoneThere : queue_denial kind d1 ≡ None
      → stands (ring_of kind d1) (index_in (byte s) (ring_of kind d1)) ≡ Ok false
      → Leaves d1 d2 outcome.why None s t → ServesNext kind d1 d2 outcome s t
  Broke : (fault : ChainFault) → queue_denial kind d1 ≡ None
      → stands (ring_of kind d1) (index_in (byte s) (ring_of kind d1)) ≡ Ok true
      → NextFault (byte s) (ring_of kind d1) (memory_end d1) fault
      → BreaksRule fault d1 d2 outcome.why s t → ServesNext kind d1 d2 outcome s t
  Found : (pieces : List Piece) → queue_denial kind d1 ≡ None
      → stands (ring_of kind d1) (index_in (byte s) (ring_of kind d1)) ≡ Ok true
      → NextGives (byte s) (ring_of kind d1) (memory_end d1) pieces
      → ServesChain kind (head_in (byte s) (ring_of kind d1)) pieces d1 d2 outcome s t
      → ServesNext kind d1 d2 outcome s t
