-- What the records of a ring's calls say of one ring: the answer, what is written, and what is left.
use Rattle.std.proofs.Common.{◌≡◌, ℕ, ◌+◌, ◌*◌, ◌%◌, ◌<◌, ◌≤◌, true, false, List, [], ◌∷◌, ◌++◌, refl}
use Rattle.std.proofs.Common.{arith}
use Rattle.std.specs.Prelude.{Option, Some, None, Result, Ok, Err, length, slice_get}
use Rattle.vb_ram.specs.Pages.{Pages, field}
use Rattle.vb_chain.specs.{declared.fault.ChainFault.ChainFault, declared.pieces.Piece.Piece}
use Rattle.vb_chain.specs.{Table.descriptor_at, Chain.{ChainGives, FaultGives}}
use Rattle.vb_ring.specs.declared.{driver.Full.Full, driver.RingBroken.RingBroken, device.Taken.Taken}
use Rattle.vb_ring.specs.declared.driver.Full.TheVariants.{TooFewFree}
use Rattle.vb_ring.specs.{Frame.{Extent, SameOutside}, Entries.next_entry}
use Rattle.vb_ring.specs.Ends.{DriverEnd, DeviceEnd, IsDriverEnd, IsDeviceEnd, after_add, after_take}
use Rattle.vb_ring.specs.{Ends.used_answer, Meaning.{UsedElem, ids, times, ShowsAvail}}
use Rattle.vb_ring.specs.Meaning.{ShowsEntries, Shows, Tracks}
use Rattle.vb_ring.specs.Calls.{PutsAvail, Publishes, Links, AddsBy, TakesUsedBy, PopsBy, PutsUsed}
use Rattle.vb_ring.{specs.Calls.AddsUsedBy, proofs.RingFacts.{busy, device}, specs.Numbers.numbers}
use Rattle.vb_ring.proofs.ShowFacts.{spread}

-- the ends of a ring whose parts are in pages of their own
abbrev driver : DriverEnd
driver = record busy { layout = spread }

abbrev popping : DeviceEnd
popping = record device { layout = spread }

-- ---- words that are written to a ring of 2: the entry, and the index, which goes round

abbrev bytes : ℕ → ℕ → ℕ → Extent
bytes page from to = record { page = page; from = from; to = to }

puts_avail : (old new : Pages) → PutsAvail old new spread 2 65535 7
    → (field 2 new 4 38 ≡ 7) × (field 2 new 4 34 ≡ 0)
    × SameOutside old new (bytes 4 38 40 ∷ bytes 4 34 36 ∷ [])
puts_avail old new puts = (puts.entry, puts.index, puts.rest)

publishes : (old new : Pages) → Publishes old new spread 2 65535 7
    → (field 2 new 4 38 ≡ 7) × (field 2 new 4 34 ≡ 0)
    × SameOutside old new (bytes 3 0 32 ∷ bytes 4 38 40 ∷ bytes 4 34 36 ∷ [])
publishes old new puts = (puts.entry, puts.index, puts.rest)

puts_used : (old new : Pages) → PutsUsed old new spread 2 65535 7 9
    → (field 4 new 5 56 ≡ 7) × (field 4 new 5 60 ≡ 9) × (field 2 new 5 46 ≡ 0)
    × SameOutside old new (bytes 5 56 64 ∷ bytes 5 46 48 ∷ [])
puts_used old new puts = (puts.id, puts.len, puts.index, puts.rest)

-- ---- a chain of two pieces, of which the second is writable

abbrev two : List Piece
two = record { addr = 4096; len = 5; writable = false }
    ∷ record { addr = 8192; len = 6; writable = true } ∷ []

links : (old new : Pages) → Links old new spread 8 (1 ∷ 4 ∷ []) two
    → (descriptor_at new 3 1 ≡ record { addr = 4096; len = 5; flags = 1; next = 4 })
    × (descriptor_at new 3 4 ≡ record { addr = 8192; len = 6; flags = 2; next = 0 })
    × (descriptor_at new 3 0 ≡ descriptor_at old 3 0)
    × (descriptor_at new 3 2 ≡ descriptor_at old 3 2)
    × (descriptor_at new 3 7 ≡ descriptor_at old 3 7)
links old new is = (
  is.put 0 (omega arith),
  is.put 1 (omega arith),
  is.others 0 (omega arith) refl,
  is.others 2 (omega arith) refl,
  is.others 7 (omega arith) refl,
)

adds : (old new : Pages) (r2 : DriverEnd) (result : Result ℕ Full)
    → (AddsBy old new driver r2 two result → IsDriverEnd driver × (result ≡ Ok 1))
    × (AddsBy old new driver r2 (two ++ (two ++ two)) result → result ≡ Err TooFewFree)
unfolding numbers
adds old new r2 result = (λ by. (by.is_end, by.value), λ by. by.value)

adds_one_head : (old new : Pages) (r2 : DriverEnd) → AddsBy old new driver r2 two (Ok 1)
    → (r2 ≡ after_add driver 2 (Ok 1)) × Links old new spread 8 (1 ∷ 4 ∷ []) two
    × Publishes old new spread 8 65535 1
    × ((heads : List ℕ) (elems : List UsedElem) → length heads % 65536 ≡ 65535
    → ShowsEntries old spread 8 heads elems
    → ShowsEntries new spread 8 (heads ++ 1 ∷ []) elems)
    × ((heads : List ℕ) (elems : List UsedElem) (s : ℕ) → Tracks old driver heads elems s
    → Shows old spread 8 heads elems
    → Shows new spread 8 (heads ++ 1 ∷ []) elems × Tracks new r2 (heads ++ 1 ∷ []) elems s)
unfolding numbers
adds_one_head old new r2 by = (by.state, by.links, by.publishes, by.entries, by.shown)

adds_nothing : (old new : Pages) (r2 : DriverEnd) (pieces : List Piece)
    → AddsBy old new driver r2 pieces (Err TooFewFree) → (r2 ≡ driver) × (new ≡ old)
adds_nothing old new r2 pieces by = (by.state, by.full)

-- ---- a used chain that is taken back

takes_used : (m : Pages) (r2 : DriverEnd) (result : Result (Option ℕ) RingBroken)
    → TakesUsedBy m driver r2 result
    → IsDriverEnd driver × (result ≡ used_answer m driver) × (r2 ≡ after_take driver result)
    × ((heads : List ℕ) (elems : List UsedElem) (s : ℕ) → Tracks m driver heads elems s
    → Shows m spread 8 heads elems → result ≡ Ok (slice_get (ids elems) s))
    × ((heads : List ℕ) (elems : List UsedElem) (s : ℕ) → Tracks m driver heads elems s
    → Shows m spread 8 heads elems → s < length elems → Tracks m r2 heads elems (s + 1))
takes_used m r2 result by = (by.is_end, by.value, by.state, by.shown, by.tracks)

-- ---- a pop of a device that has taken 65,535 chains

pops : (m : Pages) (q2 : DeviceEnd) (result : Result (Option Taken) ChainFault) (fault : ChainFault)
    → PopsBy m popping q2 result
    → IsDeviceEnd popping
    × (next_entry m spread 8 65535 ≡ Ok None → result ≡ Ok None)
    × (next_entry m spread 8 65535 ≡ Err fault → result ≡ Err fault)
    × (next_entry m spread 8 65535 ≡ Ok (Some 5)
    → FaultGives (descriptor_at m 3) 8 (4096 * length m) 5 fault → result ≡ Err fault)
    × ((heads : List ℕ) → ShowsAvail m spread 8 heads → 65535 ≤ length heads
    → length heads ≤ 65543 → next_entry m spread 8 65535 ≡ Ok (slice_get heads 65535))
pops m q2 result fault by = (
  by.is_end,
  by.none refl,
  by.jump fault refl,
  by.fault 5 fault refl,
  λ heads shows some few. by.shown heads 65535 shows refl some few,
)

-- what is popped is the chain that is next, and nothing is where the queue isn't ready
pops_a_chain : (m : Pages) (q2 : DeviceEnd) (taken : Taken) → PopsBy m popping q2 (Ok (Some taken))
    → (q2 ≡ record popping { next_avail = 0 })
    × (next_entry m spread 8 65535 ≡ Ok (Some taken.head))
    × ChainGives (descriptor_at m 3) 8 (4096 * length m) taken.head taken.chain
    × ((h : ℕ) (pieces : List Piece) → next_entry m spread 8 65535 ≡ Ok (Some h)
    → ChainGives (descriptor_at m 3) 8 (4096 * length m) h pieces
    → (taken.head ≡ h) × (taken.chain ≡ pieces))
pops_a_chain m q2 taken by =
    (by.state, by.found.1, by.found.2, λ h pieces next chain. by.chain h pieces refl next chain)

pops_none : (m : Pages) (q2 : DeviceEnd) (taken : Taken) (result : Result (Option Taken) ChainFault)
    → (PopsBy m (record popping { ready = false }) q2 result → result ≡ Ok None)
    × (PopsBy m (record popping { ready = false }) q2 (Ok (Some taken)) → false ≡ true)
    × (PopsBy m popping q2 (Ok None) → q2 ≡ popping)
pops_none m q2 taken result = (λ by. by.not_ready refl, λ by. by.found.0, λ by. by.state)

-- ---- a used element that is added

uses : (old new : Pages) (q2 : DeviceEnd) → AddsUsedBy old new popping q2 3 9
    → IsDeviceEnd popping × (q2 ≡ record popping { next_used = 5 })
    × PutsUsed old new spread 8 4 3 9
    × ((i : ℕ) → i < 8 → descriptor_at new 3 i ≡ descriptor_at old 3 i)
    × ((heads : List ℕ) (elems : List UsedElem) → length elems % 65536 ≡ 4
    → ShowsEntries old spread 8 heads elems
    → ShowsEntries new spread 8 heads (elems ++ record { id = 3; len = 9 } ∷ []))
    × ((heads : List ℕ) (elems : List UsedElem) → length elems % 65536 ≡ 4
    → times 3 (ids elems) < times 3 heads → Shows old spread 8 heads elems
    → Shows new spread 8 heads (elems ++ record { id = 3; len = 9 } ∷ []))
uses old new q2 by = (by.is_end, by.state, by.puts, by.descriptors, by.entries, by.shown)

uses_go_round : (old new : Pages) (q2 : DeviceEnd)
    → AddsUsedBy old new (record popping { next_used = 65535 }) q2 3 9
    → q2 ≡ record popping { next_used = 0 }
uses_go_round old new q2 by = by.state
