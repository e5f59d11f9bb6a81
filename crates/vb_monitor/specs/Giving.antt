-- What is done for a chain whose pages or figures are known: they are told, pages that were given
-- up are discarded, and then the chain is given back (VIRTIO 1.1, 2.6.8 and 5.5.6).
use Rattle.std.specs.Prelude.{◌≡◌, ℕ, ◌+◌, ◌-◌, Bool, true, false, not, ◌||◌, List, [], ◌∷◌, ◌++◌}
use Rattle.std.specs.Prelude.{map, take, min}
use Rattle.std.specs.Prelude.{Option, Some, None, Result, Ok, Err}
use Rattle.vb_chain.specs.declared.fault.ChainFault.TheVariants.{OutOfRam}
use Rattle.vb_core.specs.declared.kinds.Kind.{Kind}
use Rattle.vb_core.specs.declared.kinds.Kind.TheVariants.{Inflate, Deflate, Statistics, Hint}
use Rattle.vb_core.specs.declared.kinds.Kind.TheVariants.{Report}
use Rattle.vb_core.specs.declared.runs.Run.{Run}
use Rattle.vb_core.specs.declared.name.Named.{Named}
use Rattle.vb_core.specs.declared.ring.UsedEntry.{UsedEntry}
use Rattle.vb_core.specs.declared.device.Denial.{Denial}
use Rattle.vb_core.specs.declared.device.Device.{Device}
use Rattle.vb_core.specs.declared.settings.Settings.{Settings}
use Rattle.vb_core.specs.Settings.{holds_chains}
use Rattle.vb_core.specs.Rings.{used_entry, with_used}
use Rattle.vb_core.specs.Devices.{ring_of, with_ring, with_one_taken}
use Rattle.vb_core.specs.Config.{keeps_free}
use Rattle.vb_core.specs.Using.{use_denial}
use Rattle.vb_monitor.specs.declared.regions.Region.{Region}
use Rattle.vb_monitor.specs.declared.regions.Spot.{Spot}
use Rattle.vb_monitor.specs.declared.cuts.Cut.{Cut}
use Rattle.vb_monitor.specs.declared.giving.UsedSpots.{UsedSpots}
use Rattle.vb_monitor.specs.declared.outcome.{HeldChain.HeldChain, Tally.Tally}
use Rattle.vb_monitor.specs.Accesses.{Access, TellPages, Discard, WriteNumber, Release, WriteWord}
use Rattle.vb_monitor.specs.Regions.{spot, cuts_of}
use Rattle.vb_monitor.specs.Ends.{Whole, Ends, Breaks}

-- What comes once a chain is given back.
abbrev pub Then : Type 1
Then = Device → Tally → List Access → Type 0

-- ---- the used element

abbrev pub three_spots : Option Spot → Option Spot → Option Spot → Option UsedSpots
three_spots (Some id) (Some length) (Some index) =
    Some (record { id = id; length = length; index = index })
three_spots (Some id) (Some length) None = None
three_spots (Some id) None index = None
three_spots None length index = None

-- Where the two numbers of a used element go, and its index, where these are guest memory.
abbrev pub used_spots : List Region → UsedEntry → Option UsedSpots
used_spots regions e =
    three_spots (spot regions e.element_at 4) (spot regions (e.element_at + 4) 4)
    (spot regions e.index_at 2)

-- The element, and after a fence its index.
abbrev pub used_accesses : UsedSpots → UsedEntry → List Access
used_accesses s e =
    WriteNumber s.id e.id ∷ WriteNumber s.length e.length ∷ Release ∷ WriteWord s.index e.index ∷ []

pub record WritesUsed (next : List Access → Type 0) (s : UsedSpots) (e : UsedEntry)
    (log : List Access) : Type 0 where
  pub rest : List Access
  pub asks : log ≡ used_accesses s e ++ rest
  pub goes_on : next rest

abbrev pub UsedAt : Whole → (List Access → Type 0) → Device → Tally → UsedEntry →
    Option UsedSpots → List Access → Type 0
UsedAt w next d tally e None log = Breaks w d tally OutOfRam log
UsedAt w next d tally e (Some s) log = WritesUsed next s e log

abbrev pub with_given : Tally → Tally
with_given tally = record tally { given = true }

-- The device after the use of a chain.
abbrev pub after_use : Kind → Device → Device
after_use kind d = with_ring kind (with_used (ring_of kind d)) d

abbrev pub GivesBackBy : Option Denial → Whole → Then → Device → Tally → ℕ → List Access → Type 0
GivesBackBy (Some why) w next d tally head log = Ends w d tally (Some why) false log
GivesBackBy None w next d tally head log =
    UsedAt w (next (after_use w.kind d) (with_given tally)) (after_use w.kind d) tally
    (used_entry (ring_of w.kind d) head)
    (used_spots w.regions (used_entry (ring_of w.kind d) head)) log

-- The chain of this head is given back.
abbrev pub GivesBack : Whole → Then → Device → Tally → ℕ → List Access → Type 0
GivesBack w next d tally head log =
    GivesBackBy (use_denial w.kind head d) w next d tally head log

-- ---- discards

-- The pages that a kind's chains give up are kept: by a notice that keeps all pages, or, where the
-- device keeps the free pages of this kind, those of a report or a hint. A deflate gives none up.
abbrev pub is_kept : Kind → Bool → Bool → Bool
is_kept Inflate all free = all
is_kept Deflate all free = false
is_kept Statistics all free = false
is_kept Hint all free = all || free
is_kept Report all free = all || free

-- Of n pages m are kept.
abbrev pub kept_pages : Bool → ℕ → ℕ
kept_pages true pages = pages
kept_pages false pages = 0

-- What is to be discarded, of a kind's runs, where these are kept or not: what a deflate requests
-- back isn't.
abbrev pub cuts_for : Kind → Bool → List Region → List Run → List Cut
cuts_for Inflate true regions runs = []
cuts_for Inflate false regions runs = cuts_of regions runs
cuts_for Deflate kept regions runs = []
cuts_for Statistics kept regions runs = []
cuts_for Hint true regions runs = []
cuts_for Report true regions runs = []
cuts_for Hint false regions runs = cuts_of regions runs
cuts_for Report false regions runs = cuts_of regions runs

-- These parts are discarded, in order, and then this comes.
pub record DiscardsThen (on : List Access → Type 0) (cuts : List Cut) (log : List Access) : Type 0
  where
    pub rest : List Access
    pub asks : log ≡ map Discard cuts ++ rest
    pub goes_on : on rest

-- A chain that is held isn't given back, and its notice ends; of any other one these parts are
-- discarded first.
abbrev pub OnceTold : Option HeldChain → Whole → Then → Device → Tally → ℕ → List Cut →
    List Access → Type 0
OnceTold (Some held) w next d tally head cuts log = Ends w d tally None false log
OnceTold None w next d tally head cuts log =
    DiscardsThen (GivesBack w next d tally head) cuts log

-- The pages are told; then their chain is held, or they are discarded unless they are kept.
pub record TellsThen (w : Whole) (next : Then) (d : Device) (tally : Tally) (head : ℕ)
    (runs : List Run) (named : Named) (log : List Access) : Type 0 where
  pub rest : List Access
  pub asks : log ≡ TellPages w.kind runs named ∷ rest
  pub goes_on : OnceTold tally.held w next d tally head
      (cuts_for w.kind (is_kept w.kind tally.keeps (keeps_free w.kind d)) w.regions runs) rest

-- n pages more of the chain are told, as far as 32 bits count them.
abbrev pub more_told : ℕ → ℕ → ℕ
more_told told pages = min (told + pages) 0xffffffff

-- Pages of the chain are told: as many fewer may be named yet, where a number that is skipped
-- counts like a page.
abbrev pub spent : Named → Tally → Tally
spent named tally = record tally {
  pages = tally.pages - named.pages - named.skipped;
  told = more_told tally.told named.pages;
}

-- ---- chains that are held

-- The chain of this head, which names n pages, is held.
abbrev pub with_held : ℕ → ℕ → Tally → Tally
with_held head pages tally = record tally { held = Some (record { head = head; pages = pages }) }

abbrev pub held_if : Bool → ℕ → ℕ → Tally → Tally
held_if true head pages tally = with_held head pages tally
held_if false head pages tally = tally

-- The pages of a chain, or those of its last portion, were named: it is held where the settings say
-- so of its kind, with all its pages.
abbrev pub with_named : Kind → Settings → ℕ → Named → Tally → Tally
with_named kind s head named tally =
    held_if (holds_chains kind s) head (more_told tally.told named.pages) (spent named tally)

-- The device once this was answered to the last numbers of a request: its entry is taken where they
-- were named.
abbrev pub after_last : Kind → Result Named Denial → Device → Device
after_last kind (Err why) d = d
after_last kind (Ok named) d = with_one_taken kind d

-- What was named is served, or the notice ends.
abbrev pub AfterName : Whole → Then → Device → Tally → ℕ → List Run → Result Named Denial →
    List Access → Type 0
AfterName w next d tally head runs (Err why) log = Ends w d tally (Some why) false log
AfterName w next d tally head runs (Ok named) log =
    TellsThen w next d (with_named w.kind d.settings head named tally) head
    (take named.runs runs) named log

-- What a kind's chains name is discarded, where it is kept or not.
abbrev pub is_discarded : Kind → Bool → Bool
is_discarded Inflate kept = not kept
is_discarded Deflate kept = false
is_discarded Statistics kept = false
is_discarded Hint kept = not kept
is_discarded Report kept = not kept
