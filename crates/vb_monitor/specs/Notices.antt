-- One notice of a queue: which accesses it makes, whatever memory answers, the device after it and
-- its outcome (VIRTIO 1.1, 2.6.5 to 2.6.7 and 5.5).
use Rattle.std.specs.Prelude.{◌≡◌, ℕ, zero, suc, ◌+◌, ◌*◌, ◌%◌, Bool, true, false, ◌==◌, nat_lt}
use Rattle.std.specs.Prelude.{nat_le, List, [], ◌∷◌, if◌then◌else◌, Option, Some, None, Result, Ok}
use Rattle.std.specs.Prelude.{Err}
use Rattle.vb_chain.specs.declared.fault.ChainFault.{ChainFault}
use Rattle.vb_chain.specs.declared.fault.ChainFault.TheVariants.{BadHead, IndexJump, OutOfRam}
use Rattle.vb_ring.specs.Entries.{ahead}
use Rattle.vb_core.specs.declared.kinds.Kind.{Kind}
use Rattle.vb_core.specs.declared.ring.Virtqueue.{Virtqueue}
use Rattle.vb_core.specs.declared.device.Denial.{Denial}
use Rattle.vb_core.specs.declared.device.Device.{Device}
use Rattle.vb_core.specs.Devices.{ring_of, queue_denial}
use Rattle.vb_monitor.specs.declared.regions.Region.{Region}
use Rattle.vb_monitor.specs.declared.regions.Spot.{Spot}
use Rattle.vb_monitor.specs.declared.outcome.{HeldChain.HeldChain, Tally.Tally}
use Rattle.vb_monitor.specs.declared.outcome.Budget.{Budget}
use Rattle.vb_monitor.specs.declared.outcome.Outcome.{Outcome}
use Rattle.vb_monitor.specs.Accesses.{Access, ReadWord, Acquire}
use Rattle.vb_monitor.specs.Regions.{spot}
use Rattle.vb_monitor.specs.Ends.{Whole, Ends, Breaks}
use Rattle.vb_monitor.specs.Giving.{Then, GivesBack, with_held}
use Rattle.vb_monitor.specs.Chains.{longest, no_row, Follows, ServesPieces}

-- ---- the chain that is next

-- Where the entry is that a device takes next, after the available ring's begin.
abbrev pub entry_offset : Virtqueue → ℕ
entry_offset r = if r.size == 0 then 4 else 4 + 2 * (r.next_avail % r.size)

-- The chain from this head is followed and served.
abbrev pub HeadBy : Bool → Whole → Then → Device → Tally → ℕ → List Access → Type 0
HeadBy true w next d tally head log =
    Follows (longest (ring_of w.kind d).size) w d tally
    (λ pieces rest. ServesPieces w.kind w next d tally head pieces rest) no_row head false [] log
HeadBy false w next d tally head log = Breaks w d tally BadHead log

abbrev pub AfterEntry : Whole → Then → Device → Tally → ℕ → List Access → Type 0
AfterEntry w next d tally head log =
    HeadBy (nat_lt head (ring_of w.kind d).size) w next d tally head log

-- After a fence the entry is read, once.
pub record AsksEntry (w : Whole) (next : Then) (d : Device) (tally : Tally) (at : Spot)
    (log : List Access) : Type 0 where
  pub head : ℕ
  pub rest : List Access
  pub asks : log ≡ Acquire ∷ ReadWord at head ∷ rest
  pub goes_on : AfterEntry w next d tally head rest

abbrev pub EntryAt : Whole → Then → Device → Tally → Option Spot → List Access → Type 0
EntryAt w next d tally None log = Breaks w d tally OutOfRam log
EntryAt w next d tally (Some at) log = AsksEntry w next d tally at log

abbrev pub TakesChain : Whole → Then → Device → Tally → List Access → Type 0
TakesChain w next d tally log =
    EntryAt w next d tally
    (spot w.regions ((ring_of w.kind d).avail + entry_offset (ring_of w.kind d)) 2) log

-- ---- the available index

-- Whether a chain is available by this index; it may be ahead by no more than the queue's size.
abbrev pub stands_by : ℕ → ℕ → Result Bool ChainFault
stands_by ahead size =
    if ahead == 0 then Ok false else (if nat_le ahead size then Ok true else Err IndexJump)

abbrev pub stands : Virtqueue → ℕ → Result Bool ChainFault
stands r index = stands_by (ahead index r.next_avail) r.size

abbrev pub AfterIndex : Result Bool ChainFault → Whole → (List Access → Type 0) → Device → Tally →
    List Access → Type 0
AfterIndex (Err fault) w takes d tally log = Breaks w d tally fault log
AfterIndex (Ok false) w takes d tally log = Ends w d tally None false log
AfterIndex (Ok true) w takes d tally log = takes log

abbrev pub with_published : ℕ → Tally → Tally
with_published index tally = record tally { published = index }

-- The index is read, by one access, and what it publishes comes next.
pub record AsksIndex (next : Then) (d : Device) (tally : Tally) (at : Spot) (log : List Access) :
    Type 0 where
  pub index : ℕ
  pub rest : List Access
  pub asks : log ≡ ReadWord at index ∷ rest
  pub goes_on : next d (with_published index tally) rest

abbrev pub IndexAt : Whole → Then → Device → Tally → Option Spot → List Access → Type 0
IndexAt w next d tally None log = Breaks w d tally OutOfRam log
IndexAt w next d tally (Some at) log = AsksIndex next d tally at log

abbrev pub LooksBy : Option Denial → Whole → Then → Device → Tally → List Access → Type 0
LooksBy (Some why) w next d tally log = Ends w d tally (Some why) false log
LooksBy None w next d tally log =
    IndexAt w next d tally (spot w.regions ((ring_of w.kind d).avail + 2) 2) log

-- ---- chain after chain

-- After a chain that was given back the next one comes; not so after one that was held, which was
-- asked for by itself.
abbrev pub AfterGivenBy : Option HeldChain → Whole → Then → Device → Tally → List Access → Type 0
AfterGivenBy (Some held) w next d tally log = Ends w d tally None false log
AfterGivenBy None w next d tally log = next d tally log

abbrev pub AfterGiven : Whole → Then → Device → Tally → List Access → Type 0
AfterGiven w next d tally log = AfterGivenBy tally.held w next d tally log

-- Another chain begins, after which n may be served yet; nothing of it was told.
abbrev pub with_chains : ℕ → Tally → Tally
with_chains n tally = record tally { chains = n; told = 0 }

-- A chain is available: where no more may be served or named, it is told that one does.
abbrev pub TakesUnlessSpent : Bool → Whole → Then → Device → Tally → List Access → Type 0
TakesUnlessSpent true w next d tally log = Ends w d tally None true log
TakesUnlessSpent false w next d tally log = TakesChain w next d tally log

-- What is served of a chain that is there, where n may be yet. After it comes the next one, if the
-- index that was read publishes one more: it isn't read again.
abbrev pub TakesNext : ℕ → Whole → Device → Tally → List Access → Type 0
TakesNext zero w d tally log = Ends w d tally None true log
TakesNext (suc n) w d tally log =
    TakesUnlessSpent (tally.pages == 0) w
    (AfterGiven w (λ d2 t2 rest.
    AfterIndex (stands (ring_of w.kind d2) t2.published) w (TakesNext n w d2 t2) d2 t2 rest)) d
    (with_chains n tally) log

-- What comes by the index that was read, where n chains may be served yet.
abbrev pub ServesPublished : ℕ → Whole → Device → Tally → List Access → Type 0
ServesPublished n w d tally log =
    AfterIndex (stands (ring_of w.kind d) tally.published) w (TakesNext n w d tally) d tally log

-- The queue is looked at, where n chains may be served yet.
abbrev pub Looks : ℕ → Whole → Device → Tally → List Access → Type 0
Looks n w d tally log = LooksBy (queue_denial w.kind d) w (ServesPublished n w) d tally log

-- ---- the whole

-- Nothing was served or read yet, and this much may be served.
abbrev pub fresh : Budget → Tally
fresh budget = record {
  chains = budget.chains;
  pages = budget.pages;
  keeps = budget.keeps;
  given = false;
  held = None;
  published = 0;
  most_pages = budget.pages;
  longest = budget.longest;
  told = 0;
}

-- The queue of a kind is served, of which no chain is held.
abbrev pub Serves : List Region → Kind → Budget → Device → Device → Outcome → List Access → Type 0
Serves regions kind budget d1 d2 outcome log =
    Looks budget.chains (record { regions = regions; kind = kind; device = d2; outcome = outcome })
    d1 (fresh budget) log

-- Nothing may be served: a chain that is held is asked for, and no more.
abbrev pub only_asked : HeldChain → Tally
only_asked held =
    with_held held.head held.pages
    (fresh (record { chains = 0; pages = 0; keeps = false; longest = 0 }))

-- A chain that is held of a kind's queue is given back: new statistics are asked for by it (VIRTIO
-- 1.1, 5.5.6.3), or a deflate is granted (5.5.6).
abbrev pub GivesHeldBack : List Region → Kind → HeldChain → Device → Device → Outcome →
    List Access → Type 0
GivesHeldBack regions kind held d1 d2 outcome log =
    GivesBack
    (record { regions = regions; kind = kind; device = d2; outcome = outcome })
    (AfterGiven (record { regions = regions; kind = kind; device = d2; outcome = outcome })
    (ServesPublished 0 (record {
      regions = regions;
      kind = kind;
      device = d2;
      outcome = outcome;
    }))) d1 (only_asked held) held.head log
