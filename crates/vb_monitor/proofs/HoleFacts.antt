-- Parts of a ring that lie in a hole of memory, worked out: what is there isn't read or written,
-- and the guest broke a rule.
use Rattle.std.proofs.Common.{◌≡◌, refl, ℕ, ap, arith, true, false, List, [], ◌∷◌, None, Some, Bool}
use Rattle.vb_chain.specs.declared.fault.ChainFault.{ChainFault}
use Rattle.vb_chain.specs.declared.fault.ChainFault.TheVariants.{BadHead, BadNext, BadLength, TooLong, OutOfRam}
use Rattle.vb_chain.specs.declared.pieces.Piece.{Piece}
use Rattle.vb_core.specs.declared.kinds.Kind.TheVariants.{Inflate, Statistics}
use Rattle.vb_core.specs.declared.ring.Virtqueue.{Virtqueue}
use Rattle.vb_core.specs.declared.device.{Device.Device, Denial.TheVariants.{Broken, BadArgument, NotReady}}
use Rattle.vb_core.specs.{Rings.used_entry, Devices.needing_reset}
use Rattle.vb_monitor.specs.declared.parts.Part.{Part}
use Rattle.vb_monitor.specs.declared.outcome.{Tally.Tally, Outcome.Outcome}
use Rattle.vb_monitor.specs.Accesses.{Access, ReadWord, CopyBytes, Acquire, Full, WriteNumber}
use Rattle.vb_monitor.specs.{Ends.{Whole, Ends, FlagsAt}, Pieces.PartAt, Portions.{CopiesParts, CopiesFurther, ServesPortion}}
use Rattle.vb_monitor.specs.Giving.{Then, with_given, after_use, UsedAt, GivesBack, GivesBackBy}
use Rattle.vb_monitor.specs.Chains.{TableRow, RowAt, TakesRow}
use Rattle.vb_monitor.specs.Notices.{LooksBy, EntryAt, TakesChain, AfterEntry}
use Rattle.vb_monitor.proofs.Samples.{flags_are_read, Same, two, at, ring, ready, tally, descriptor, naming, last_descriptor, part, id, used_length}
use Rattle.vb_monitor.proofs.AheadFacts.{over, ends}

abbrev none : Then
none = λ d t log. ⊥

-- a device whose inflate queue is this one
abbrev with : Virtqueue → Device
with r = record ready { inflate = r }

abbrev broken : Device → ChainFault → Whole
broken d fault = over Inflate (needing_reset d) (ends tally (Some (Broken fault)) false false)

-- ---- the flags: the one part whose hole breaks no rule, since no interrupt is wanted then

-- the last two bytes before the hole, and those after them
abbrev given : Tally
given = with_given tally

abbrev in_the_hole : Device
in_the_hole = with (record ring { avail = 0x15000 })

flags_before_it : Ends (over Inflate (with (record ring { avail = 0x14ffe })) (ends given None true false))
    (with (record ring { avail = 0x14ffe })) given None false (Full ∷ ReadWord (at 0x14ffe) 0 ∷ [])
flags_before_it = flags_are_read refl refl

no_flags : Ends (over Inflate in_the_hole (ends given (Some NotReady) false true)) in_the_hole given (Some NotReady) true []
no_flags = record { nothing = refl; device = refl; outcome = refl }

flags_all_the_same : (w : Whole) (x : Access) (rest : List Access) → FlagsAt w ready given None false None (x ∷ rest) → ⊥
flags_all_the_same w x rest h = let e = h.nothing in absurd cc

interrupts_all_the_same : FlagsAt (over Inflate ready (ends given None true false)) ready given None false None [] → ⊥
interrupts_all_the_same h = let e = ap (λ (o : Outcome). o.interrupt) h.outcome in absurd cc

breaks_all_the_same : (o : Outcome) → FlagsAt (over Inflate (needing_reset ready) o) ready given None false None [] → ⊥
breaks_all_the_same o h = let e : Same 79 15 = ap (λ (d : Device). d.status) h.device in omega arith

says_why : FlagsAt (over Inflate ready (ends given None false false)) ready given (Some NotReady) false None [] → ⊥
says_why h = let e = ap (λ (o : Outcome). o.why) h.outcome in absurd cc

says_more : FlagsAt (over Inflate ready (ends given None false false)) ready given None true None [] → ⊥
says_more h = let e = ap (λ (o : Outcome). o.more) h.outcome in absurd cc

-- ---- the index: it is last before the hole

looks : (d : Device) (o : Outcome) → LooksBy None (over Inflate d o) (λ d t log. log ≡ [])
    (with (record ring { avail = 0x14ffc })) tally (ReadWord (at 0x14ffe) 1 ∷ [])
looks d o = record { index = 1; rest = []; asks = refl; goes_on = refl }

-- ---- the entry

-- an entry that is last before the hole, and one after it
abbrev eighth : Virtqueue
eighth = record ring { avail = 0x14fec; next_avail = 7 }

last_entry : TakesChain (broken (with eighth) BadHead) none (with eighth) tally (Acquire ∷ ReadWord (at 0x14ffe) 8 ∷ [])
last_entry = record {
  head = 8;
  rest = [];
  asks = refl;
  goes_on = record { nothing = refl; device = refl; outcome = refl };
}

abbrev further : Virtqueue
further = record eighth { avail = 0x14fee }

no_entry : TakesChain (broken (with further) OutOfRam) none (with further) tally []
no_entry = record { nothing = refl; device = refl; outcome = refl }

entry_all_the_same : (w : Whole) (next : Then) (x : Access) (rest : List Access) →
    EntryAt w next ready tally None (x ∷ rest) → ⊥
entry_all_the_same w next x rest h = let e = h.nothing in absurd cc

-- ---- heads: 7 is the last one of eight

seventh : AfterEntry (broken ready BadNext) none ready tally 7
    (CopyBytes (at 0x70) (0 ∷ 4 ∷ 0 ∷ 0 ∷ 0 ∷ 0 ∷ 0 ∷ 0 ∷ 4 ∷ 0 ∷ 0 ∷ 0 ∷ 1 ∷ 0 ∷ 8 ∷ 0 ∷ []) ∷ [])
seventh = record {
  bytes = 0 ∷ 4 ∷ 0 ∷ 0 ∷ 0 ∷ 0 ∷ 0 ∷ 0 ∷ 4 ∷ 0 ∷ 0 ∷ 0 ∷ 1 ∷ 0 ∷ 8 ∷ 0 ∷ [];
  rest = [];
  asks = refl;
  long = refl;
  goes_on = record { nothing = refl; device = refl; outcome = refl };
}

seventh_refused : (w : Whole) → AfterEntry (record w { regions = two; kind = Inflate }) none ready tally 7 [] → ⊥
seventh_refused w h = let e = h.asks in absurd cc

eighth_followed : (w : Whole) (x : Access) (rest : List Access) →
    AfterEntry (record w { regions = two; kind = Inflate }) none ready tally 8 (x ∷ rest) → ⊥
eighth_followed w x rest h = let e = h.nothing in absurd cc

-- in a ring of 512 the head 256 is one, and 512 is none; its descriptor names none either
abbrev large : Device
large = with (record ring { size = 512 })

two_hundred_fifty_sixth : AfterEntry (broken large BadNext) none large tally 256
    (CopyBytes (at 0x1000) (0 ∷ 4 ∷ 0 ∷ 0 ∷ 0 ∷ 0 ∷ 0 ∷ 0 ∷ 4 ∷ 0 ∷ 0 ∷ 0 ∷ 1 ∷ 0 ∷ 0 ∷ 2 ∷ []) ∷ [])
two_hundred_fifty_sixth = record {
  bytes = 0 ∷ 4 ∷ 0 ∷ 0 ∷ 0 ∷ 0 ∷ 0 ∷ 0 ∷ 4 ∷ 0 ∷ 0 ∷ 0 ∷ 1 ∷ 0 ∷ 0 ∷ 2 ∷ [];
  rest = [];
  asks = refl;
  long = refl;
  goes_on = record { nothing = refl; device = refl; outcome = refl };
}

five_hundred_twelfth : AfterEntry (broken large BadHead) none large tally 512 []
five_hundred_twelfth = record { nothing = refl; device = refl; outcome = refl }

two_hundred_fifty_sixth_refused : (w : Whole) →
    AfterEntry (record w { regions = two; kind = Inflate }) none large tally 256 [] → ⊥
two_hundred_fifty_sixth_refused w h = let e = h.asks in absurd cc

-- of a table of two descriptors none is read for a third time
abbrev two_descriptors : Device
two_descriptors = with (record ring { size = 2 })

around : AfterEntry (broken two_descriptors TooLong) none two_descriptors tally 0
    (CopyBytes (at 0) (naming 1) ∷ CopyBytes (at 0x10) (naming 0) ∷ [])
around = record {
  bytes = naming 1;
  rest = CopyBytes (at 0x10) (naming 0) ∷ [];
  asks = refl;
  long = refl;
  goes_on = record {
    bytes = naming 0;
    rest = [];
    asks = refl;
    long = refl;
    goes_on = record { nothing = refl; device = refl; outcome = refl };
  };
}

-- ---- descriptors and parts

abbrev On : TableRow → ℕ → Bool → List Piece → List Access → Type 0
On row n writing pieces log = ⊥

no_descriptor : RowAt (broken ready OutOfRam) ready tally On (λ pieces log. ⊥) 3 0 false [] None []
no_descriptor = record { nothing = refl; device = refl; outcome = refl }

descriptor_all_the_same : (w : Whole) (rest : List Access) →
    RowAt w ready tally On (λ pieces log. ⊥) 3 0 false [] None (descriptor ∷ rest) → ⊥
descriptor_all_the_same w rest h = let e = h.nothing in absurd cc

-- the table's first descriptor is last before the hole: it is a row, and with another one it isn't
abbrev before_the_hole : Device
before_the_hole = with (record ring { table = 0x14ff0 })

row_of_one : TakesRow (over Inflate before_the_hole (ends tally None false false)) before_the_hole tally
    (λ row n writing pieces log. ⊥) (λ pieces log. log ≡ []) 0 0 false [] (CopyBytes (at 0x14ff0) last_descriptor ∷ [])
row_of_one = record { bytes = last_descriptor; rest = []; asks = refl; long = refl; goes_on = refl }

row_of_two : TakesRow (broken before_the_hole OutOfRam) before_the_hole tally On (λ pieces log. ⊥) 0 1 false [] []
row_of_two = record { nothing = refl; device = refl; outcome = refl }

abbrev a_part : Part
a_part = record { address = 0x400; plus = 0; length = 4 }

-- a part that goes over the end of a region
over_the_end : CopiesParts (broken ready OutOfRam) (λ d t bytes log. ⊥) ready tally (record a_part { address = 0x14ffe } ∷ []) [] []
over_the_end = record { nothing = refl; device = refl; outcome = refl }

-- a second portion of what has none, and none where no part is left
of_statistics : ServesPortion Statistics (broken ready BadLength) (λ d t log. ⊥) ready tally [] []
of_statistics = record { nothing = refl; device = refl; outcome = refl }

nothing_further : CopiesFurther (broken ready BadLength) (λ d t bytes log. ⊥) ready tally [] []
nothing_further = record { nothing = refl; device = refl; outcome = refl }

part_all_the_same : (w : Whole) (rest : List Access) →
    PartAt w (λ bytes log. Unit {0}) ready tally a_part [] None (part ∷ rest) → ⊥
part_all_the_same w rest h = let e = h.nothing in absurd cc

no_part : PartAt (broken ready OutOfRam) (λ bytes log. ⊥) ready tally a_part [] None []
no_part = record { nothing = refl; device = refl; outcome = refl }

part_of_another_rule : PartAt (broken ready BadNext) (λ bytes log. ⊥) ready tally a_part [] None [] → ⊥
part_of_another_rule h = let e = ap (λ (o : Outcome). o.why) h.outcome in absurd cc

-- ---- used elements: the chain was used up, though nothing is written

abbrev used_after : Device
used_after = with (record ring { used = 0x14ff8 })

not_given : GivesBack (broken (after_use Inflate used_after) OutOfRam) none used_after tally 3 []
unfolding lib.Count.ones
not_given = record { nothing = refl; device = refl; outcome = refl }

written_all_the_same : (w : Whole) (x : Access) (rest : List Access) →
    UsedAt w (λ log. Unit {0}) ready tally (used_entry ring 3) None (x ∷ rest) → ⊥
written_all_the_same w x rest h = let e = h.nothing in absurd cc

given_all_the_same : (d : Device) →
    UsedAt (over Inflate d (ends given (Some (Broken OutOfRam)) false false)) (λ log. Unit {0}) ready tally (used_entry ring 3) None [] → ⊥
given_all_the_same d h = let e = ap (λ (o : Outcome). o.tally.given) h.outcome in absurd cc

-- ---- uses that are refused

refused : GivesBackBy (Some NotReady) (over Inflate ready (ends tally (Some NotReady) false false)) none ready tally 3 []
refused = record { nothing = refl; device = refl; outcome = refl }

refused_and_written : (w : Whole) → GivesBackBy (Some NotReady) w none ready tally 3 (id ∷ used_length ∷ []) → ⊥
refused_and_written w h = let e = h.nothing in absurd cc

for_another_reason : GivesBackBy (Some NotReady) (over Inflate ready (ends tally (Some BadArgument) false false)) none ready tally 3 [] → ⊥
for_another_reason h = let e = ap (λ (o : Outcome). o.why) h.outcome in absurd cc

abbrev written_at : List Access → ℕ
written_at (WriteNumber at n ∷ xs) = at.offset
written_at xs = 0

-- the second element's place for the first
second_element : (w : Whole) (rest : List Access) → GivesBackBy None (record w { regions = two; kind = Inflate }) none ready
    tally 3 (WriteNumber (at 0x20c) 3 ∷ rest) → ⊥
second_element w rest h = let e : Same 0x20c 0x204 = ap written_at h.asks in omega arith

nothing_written : (w : Whole) → GivesBackBy None (record w { regions = two; kind = Inflate }) none ready tally 3 [] → ⊥
nothing_written w h = let e = h.asks in absurd cc
