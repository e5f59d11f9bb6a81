-- What a notice makes of answers, worked out, and lists of accesses that it doesn't make.
use Rattle.std.proofs.Common.{◌≡◌, refl, ℕ, true, false, List, [], ◌∷◌, Option, Some, None, Ok, Err}
use Rattle.vb_chain.specs.declared.fault.ChainFault.TheVariants.{IndexJump, TooLong, OutOfRam}
use Rattle.vb_core.specs.declared.kinds.Kind.TheVariants.{Inflate, Deflate, Statistics}
use Rattle.vb_core.specs.declared.ring.{Virtqueue.Virtqueue, UsedEntry.UsedEntry}
use Rattle.vb_core.specs.declared.device.{Denial.Denial, Device.Device}
use Rattle.vb_core.specs.{Devices.{new_device, placed}, Held.nothing_held}
use Rattle.vb_monitor.specs.declared.{regions.Spot.Spot, giving.UsedSpots.UsedSpots}
use Rattle.vb_monitor.specs.declared.{outcome.Tally.Tally, balloon.Balloon.Balloon}
use Rattle.vb_monitor.specs.Accesses.{Access, ReadWord, Release, WriteNumber, WriteWord}
use Rattle.vb_monitor.specs.{Ends.{Whole, wants_interrupt, AsksFlags}, Giving.{Then, WritesUsed}}
use Rattle.vb_monitor.specs.{Giving.spent, Chains.{descriptor_of, table_fault}}
use Rattle.vb_monitor.specs.Notices.{entry_offset, stands, AsksEntry, AsksIndex}
use Rattle.vb_monitor.specs.Balloons.{may_look, after_status, becomes_ready}

abbrev ring : Virtqueue
ring = placed 0 256 512 8

-- ---- the index and the entry

nothing : stands ring 0 ≡ Ok false
nothing = refl

one : stands ring 1 ≡ Ok true
one = refl

all_of_them : stands ring 8 ≡ Ok true
all_of_them = refl

one_more : stands ring 9 ≡ Err IndexJump
one_more = refl

around : stands (record ring { next_avail = 65535 }) 1 ≡ Ok true
around = refl

further : stands (record ring { next_avail = 1 }) 0 ≡ Err IndexJump
further = refl

tenth_entry : entry_offset (record ring { next_avail = 9 }) ≡ 6
tenth_entry = refl

-- in a ring of 1,024 as many may be there, and the entry after the last one is the first
large_ahead : stands (record ring { size = 1024; next_avail = 65000 }) 488 ≡ Ok true
large_ahead = refl

large_jump : stands (record ring { size = 1024; next_avail = 65000 }) 489 ≡ Err IndexJump
large_jump = refl

last_entry : entry_offset (record ring { size = 1024; next_avail = 1023 }) ≡ 2050
last_entry = refl

first_again : entry_offset (record ring { size = 1024; next_avail = 1024 }) ≡ 4
first_again = refl

-- ---- descriptors

-- 10 bytes from 0x1234 on, which the device writes, and then descriptor 3
a_descriptor : descriptor_of (0x34 ∷ 0x12 ∷ 0 ∷ 0 ∷ 0 ∷ 0 ∷ 0 ∷ 0 ∷ 10 ∷ 0 ∷ 0 ∷ 0 ∷ 3 ∷ 0 ∷ 3 ∷ 0 ∷ []) ≡
    record { addr = 0x1234; len = 10; flags = 3; next = 3 }
a_descriptor = refl

sound : table_fault 8 0x10000 false 7 (record { addr = 0; len = 4; flags = 0; next = 0 }) ≡ None
sound = refl

no_room : table_fault 8 0x10000 false 8 (record { addr = 0; len = 4; flags = 0; next = 0 }) ≡ Some TooLong
no_room = refl

past_memory : table_fault 8 0x10000 false 0 (record { addr = 0xfffd; len = 4; flags = 0; next = 0 }) ≡
    Some OutOfRam
past_memory = refl

-- ---- flags, budgets and registers

wanted : wants_interrupt 0 ≡ true
wanted = refl

not_wanted : wants_interrupt 1 ≡ false
not_wanted = refl

other_bits : wants_interrupt 0xfffe ≡ true
other_bits = refl

abbrev tally : Tally
tally = record { chains = 8; pages = 3; keeps = false; given = false; held = None; published = 0; most_pages = 3; longest = 9; told = 0 }

all_spent : (spent (record { runs = 1; pages = 4; skipped = 0 }) tally).pages ≡ 0
all_spent = refl

abbrev waiting : Balloon
waiting = record {
  device = new_device (record {
    memory_end = 262144;
    offered = 0x100000027;
    reserved_pages = 16;
    needs_must_tell = 0;
    skips_bad_pages = 0;
    holds_deflates = 0;
    discards_hints = 0;
  });
  held = record { statistics = 4; deflate = 9; pages = 3 };
}

held_back : may_look Statistics waiting ≡ false
held_back = refl

deflates_held_back : may_look Deflate waiting ≡ false
deflates_held_back = refl

others_look : may_look Inflate waiting ≡ true
others_look = refl

forgotten : (after_status 0 waiting).held ≡ nothing_held
forgotten = refl

kept : (after_status 1 waiting).held ≡ waiting.held
kept = refl

now_ready : becomes_ready 15 (record waiting { device = record (waiting.device) { status = 11 } }) ≡ true
now_ready = refl

ready_before : becomes_ready 79 (record waiting { device = record (waiting.device) { status = 15 } }) ≡
    false
ready_before = refl

-- ---- what isn't done

abbrev at : ℕ → Spot
at n = record { region = 0; offset = n }

-- an index that isn't read, one that is read elsewhere
no_index : (next : Then) (d : Device) (t : Tally) → AsksIndex next d t (at 258) [] → ⊥
no_index next d t h = let e = h.asks in absurd cc

-- an entry that is read without a fence
no_acquire : (w : Whole) (next : Then) (d : Device) (t : Tally) (head : ℕ) (rest : List Access) →
    AsksEntry w next d t (at 260) (ReadWord (at 260) head ∷ rest) → ⊥
no_acquire w next d t head rest h = let e = h.asks in absurd cc

-- flags that are read without a full fence, or after a weaker one
no_fence : (w : Whole) (d : Device) (t : Tally) (why : Option Denial) (flags : ℕ)
    (rest : List Access) → AsksFlags w d t why false (at 256) (ReadWord (at 256) flags ∷ rest) → ⊥
no_fence w d t why flags rest h = let e = h.asks in absurd cc

weaker_fence : (w : Whole) (d : Device) (t : Tally) (why : Option Denial) (flags : ℕ)
    (rest : List Access) →
    AsksFlags w d t why false (at 256) (Release ∷ ReadWord (at 256) flags ∷ rest) → ⊥
weaker_fence w d t why flags rest h = let e = h.asks in absurd cc

-- an index that is written before its element, and one without a fence
abbrev spots : UsedSpots
spots = record { id = at 516; length = at 520; index = at 514 }

index_first : (next : List Access → Type 0) (e : UsedEntry) (rest : List Access) →
    WritesUsed next spots e (WriteWord (at 514) e.index ∷ rest) → ⊥
index_first next e rest h = let same = h.asks in absurd cc

no_release : (next : List Access → Type 0) (e : UsedEntry) (rest : List Access) →
    WritesUsed next spots e
    (WriteNumber (at 516) e.id ∷ WriteNumber (at 520) e.length ∷ WriteWord (at 514) e.index ∷ rest) → ⊥
no_release next e rest h = let same = h.asks in absurd cc
