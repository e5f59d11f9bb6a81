-- Regions, a ring, a device and the accesses of a notice, which the facts share.
use Rattle.std.proofs.Common.{◌≡◌, ℕ, Bool, false, true, List, [], ◌∷◌, ◌++◌, Option, Some, None, refl}
use Rattle.std.specs.Prelude.{replicate}
use Rattle.vb_chain.specs.declared.pieces.Piece.{Piece}
use Rattle.vb_core.{specs.declared.kinds.Kind.{Kind, TheVariants.Inflate}, specs.declared.runs.Run.Run}
use Rattle.vb_core.{specs.declared.ring.Virtqueue.Virtqueue, specs.declared.name.Named.Named}
use Rattle.vb_core.{specs.declared.settings.Settings.Settings}
use Rattle.vb_core.{specs.declared.device.Device.Device, specs.Devices.{new_device, placed, with_ring}}
use Rattle.vb_core.specs.declared.{held.Held.Held, pieces.ChainPiece.ChainPiece}
use Rattle.vb_core.specs.declared.statistics.Statistic.{Statistic}
use Rattle.vb_monitor.specs.declared.room.Room.{Room}
use Rattle.vb_monitor.specs.declared.outcome.HeldChain.{HeldChain}
use Rattle.vb_monitor.specs.Accesses.{Access, ReadWord, CopyBytes, TellPages, TellFigures, TellId, Discard}
use Rattle.vb_monitor.specs.Accesses.{Full, Release}
use Rattle.vb_monitor.specs.{Accesses.{WriteNumber, WriteWord}, declared.regions.Region.Region}
use Rattle.vb_monitor.specs.declared.{regions.Spot.Spot, cuts.Cut.Cut, outcome.Tally.Tally}
use Rattle.vb_monitor.specs.declared.outcome.{Budget.Budget, Outcome.Outcome}
use Rattle.vb_core.specs.declared.device.Denial.{Denial}
use Rattle.vb_monitor.specs.Ends.{Whole, AsksFlags}

abbrev pub Same : ℕ → ℕ → Type 0
Same a b = a ≡ b

-- ---- the room for what is copied

abbrev pub room_of : List ChainPiece → List ℕ → List Run → List Statistic → Room
room_of pieces bytes runs figures =
    record { pieces = pieces; bytes = bytes; runs = runs; figures = figures }

-- ---- memory

-- pages 0 to 20, and, one page on, pages 22 to 31
abbrev pub low : Region
low = record { guest = 0; length = 0x15000; in_file = 0 }

abbrev pub high : Region
high = record { guest = 0x16000; length = 0xa000; in_file = 0x100000 }

abbrev pub two : List Region
two = low ∷ high ∷ []

abbrev pub at : ℕ → Spot
at offset = record { region = 0; offset = offset }

-- page 5, and pages 20 and 22, which lie in both regions with a hole between
abbrev pub page_5 : Run
page_5 = record { first = 5; count = 1 }

abbrev pub over_the_hole : Run
over_the_hole = record { first = 20; count = 3 }

abbrev pub cut_5 : Cut
cut_5 = record { region = 0; offset = 0x5000; in_file = 0x5000; length = 0x1000 }

abbrev pub cut_20 : Cut
cut_20 = record { region = 0; offset = 0x14000; in_file = 0x14000; length = 0x1000 }

abbrev pub cut_22 : Cut
cut_22 = record { region = 1; offset = 0; in_file = 0x100000; length = 0x1000 }

-- ---- a device

abbrev pub settings : Settings
settings = record {
  memory_end = 0x20000;
  offered = 0x10000002f;
  reserved_pages = 0;
  needs_must_tell = 0;
  skips_bad_pages = 0;
  holds_deflates = 0;
  discards_hints = 0;
}

-- eight descriptors: a table at 0, an available ring at 0x100, a used ring at 0x200
abbrev pub ring : Virtqueue
ring = placed 0 0x100 0x200 8

-- one that is ready, with this ring for each queue
abbrev pub ready : Device
ready = record (new_device settings) {
  features = 0x10000002f;
  status = 15;
  inflate = ring;
  deflate = ring;
  statistics = ring;
  hint = ring;
  report = ring;
}

-- a smaller ring, of which five chains were given back, and the device with it for each queue
abbrev pub elsewhere : Virtqueue
elsewhere = record (placed 0x1000 0x1100 0x1200 4) { next_avail = 5; next_used = 5 }

abbrev pub far : Device
far = record ready {
  inflate = elsewhere;
  deflate = elsewhere;
  statistics = elsewhere;
  hint = elsewhere;
  report = elsewhere;
}

-- where the queue of just this kind is the first ring
abbrev pub only : Kind → Device
only kind = with_ring kind ring far

-- a chain of this head is held, which names n pages
abbrev pub chain_of : ℕ → ℕ → Option HeldChain
chain_of head pages = Some (record { head = head; pages = pages })

abbrev pub head_of : Outcome → ℕ
head_of o = number o.tally.held where
  number : Option HeldChain → ℕ
  number None = 70000
  number (Some x) = x.head

-- 1 more than the head of a buffer of statistics is held
abbrev pub a_buffer : ℕ → Held
a_buffer n = record { statistics = n; deflate = 0; pages = 0 }

abbrev pub tally : Tally
tally = record { chains = 8; pages = 3; keeps = false; given = false; held = None; published = 0; most_pages = 3; longest = 256; told = 0 }

-- ---- accesses

abbrev pub index : Access
index = ReadWord (at 0x102) 1

abbrev pub entry : Access
entry = ReadWord (at 0x104) 3

-- descriptor 3: 4 bytes at 0x400, and no more
abbrev pub last_descriptor : List ℕ
last_descriptor = 0 ∷ 4 ∷ 0 ∷ 0 ∷ 0 ∷ 0 ∷ 0 ∷ 0 ∷ 4 ∷ 0 ∷ 0 ∷ 0 ∷ 0 ∷ 0 ∷ 0 ∷ 0 ∷ []

-- 4 bytes at 0x400, and then the descriptor of this number; and so descriptor 5
abbrev pub naming : ℕ → List ℕ
naming next = 0 ∷ 4 ∷ 0 ∷ 0 ∷ 0 ∷ 0 ∷ 0 ∷ 0 ∷ 4 ∷ 0 ∷ 0 ∷ 0 ∷ 1 ∷ 0 ∷ next ∷ 0 ∷ []

abbrev pub first_descriptor : List ℕ
first_descriptor = naming 5

-- two descriptors of zeros come after this one
abbrev pub zeros : List ℕ
zeros = replicate 16 0

abbrev pub with_two : List ℕ → List ℕ
with_two bytes = bytes ++ zeros ++ zeros

abbrev pub piece : Piece
piece = record { addr = 0x400; len = 4; writable = false }

abbrev pub descriptor : Access
descriptor = CopyBytes (at 0x30) last_descriptor

-- the number of page 5
abbrev pub number : List ℕ
number = 5 ∷ 0 ∷ 0 ∷ 0 ∷ []

abbrev pub part : Access
part = CopyBytes (at 0x400) number

-- one run of one page is named, and nothing skipped
abbrev pub one_page : Named
one_page = record { runs = 1; pages = 1; skipped = 0 }

abbrev pub pages : Access
pages = TellPages Inflate (page_5 ∷ []) one_page

abbrev pub figures : Access
figures = TellFigures []

-- an id of hints
abbrev pub told_id : Access
told_id = TellId 5

abbrev pub discard : Access
discard = Discard cut_5

abbrev pub id : Access
id = WriteNumber (at 0x204) 3

abbrev pub used_length : Access
used_length = WriteNumber (at 0x208) 0

abbrev pub used_index : Access
used_index = WriteWord (at 0x202) 1

abbrev pub flags : Access
flags = ReadWord (at 0x100) 0

-- a chain is given back, and no other one is there
abbrev pub given : List Access
given = id ∷ used_length ∷ Release ∷ used_index ∷ Full ∷ flags ∷ []

-- the flags want an interrupt, and the notice ends
pub flags_are_read : {w : Whole} {d : Device} {t : Tally} {why : Option Denial} {more : Bool} {place : Spot} →
    w.device ≡ d → w.outcome ≡ record { tally = t; why = why; interrupt = true; more = more } →
    AsksFlags w d t why more place (Full ∷ ReadWord place 0 ∷ [])
flags_are_read device outcome = record {
  flags = 0;
  rest = [];
  asks = refl;
  then_stops = record { nothing = refl; device = device; outcome = outcome };
}

-- a notice of one chain of one page
abbrev pub budget : Budget
budget = record { chains = 8; pages = 256; keeps = false; longest = 256 }

abbrev pub outcome : Outcome
outcome = record {
  tally = record { chains = 7; pages = 255; keeps = false; given = true; held = None; published = 1; most_pages = 256; longest = 256; told = 1 };
  why = None;
  interrupt = true;
  more = false;
}
