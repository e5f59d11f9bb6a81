-- How a notice ends, how a chain is followed, and how its pieces are copied, worked out.
use Rattle.std.proofs.Common.{◌≡◌, refl, sym, ap, arith, ℕ, Bool, true, false, List, [], ◌∷◌, length, map, replicate, Some, None}
use Rattle.vb_chain.specs.declared.descriptor.Descriptor.{Descriptor}
use Rattle.vb_chain.specs.declared.pieces.Piece.{Piece}
use Rattle.vb_chain.specs.declared.fault.ChainFault.TheVariants.{BadNext, TooLong, Indirect, WrongDirection, OutOfRam, BadLength}
use Rattle.vb_core.specs.declared.kinds.Kind.TheVariants.{Inflate, Deflate}
use Rattle.vb_core.specs.declared.device.{Denial.TheVariants.Broken, Device.Device}
use Rattle.vb_monitor.specs.declared.parts.Part.{Part}
use Rattle.vb_monitor.specs.declared.outcome.Outcome.{Outcome}
use Rattle.vb_monitor.specs.Accesses.{Access, ReadWord, CopyBytes, Full}
use Rattle.vb_monitor.specs.Ends.{Whole, wants_interrupt, Ends, Breaks}
use Rattle.vb_monitor.specs.{Pieces.{all_parts, PartAt}, Portions.{CopiesParts, is_full}, Regions.spot}
use Rattle.vb_monitor.specs.declared.outcome.Tally.{Tally}
use Rattle.vb_core.specs.Pieces.{pieces_in}
use Rattle.vb_monitor.specs.Giving.{Then}
use Rattle.vb_monitor.specs.Chains.{descriptor_of, memory_end, longest, table_fault, GoesOn, no_row, Follows, ServesPieces}
use Rattle.vb_monitor.proofs.Samples.{flags_are_read, Same, two, at, ready, tally, piece, first_descriptor, last_descriptor, with_two, number, descriptor, part, discard, flags}

-- ---- how a notice ends

abbrev whole : Device → Outcome → Whole
whole d outcome = record { regions = two; kind = Inflate; device = d; outcome = outcome }

abbrev ends_so : Bool → Bool → Outcome
ends_so given interrupt =
    record { tally = record tally { given = given }; why = None; interrupt = interrupt; more = false }

-- where a chain was given back the flags are read, and else nothing is
flags_read : Ends (whole ready (ends_so true true)) ready (record tally { given = true }) None false (Full ∷ flags ∷ [])
flags_read = flags_are_read refl refl

nothing_given : Ends (whole ready (ends_so false false)) ready tally None false []
nothing_given = record { nothing = refl; device = refl; outcome = refl }

flags_unasked : Ends (whole ready (ends_so true false)) ready (record tally { given = true }) None false [] → ⊥
flags_unasked h = let e = h.asks in absurd cc

flags_for_nothing : Ends (whole ready (ends_so false true)) ready tally None false (Full ∷ flags ∷ []) → ⊥
flags_for_nothing h = let e = h.nothing in absurd cc

-- an interrupt that isn't wanted, and one that is and is left out
abbrev interrupts : Outcome → Bool
interrupts outcome = outcome.interrupt

abbrev flags_in : List Access → ℕ
flags_in (Full ∷ ReadWord at answer ∷ xs) = answer
flags_in xs = 0

unwanted : Ends (whole ready (ends_so true true)) ready (record tally { given = true }) None false
    (Full ∷ ReadWord (at 0x100) 1 ∷ []) → ⊥
unwanted h =
    let e : Same 1 h.flags = ap flags_in h.asks in
    let says : true ≡ wants_interrupt h.flags = ap interrupts h.then_stops.outcome in
    let no : wants_interrupt h.flags ≡ false = ap wants_interrupt (sym e) in
    absurd cc

left_out : Ends (whole ready (ends_so true false)) ready (record tally { given = true }) None false (Full ∷ flags ∷ []) → ⊥
left_out h =
    let e : Same 0 h.flags = ap flags_in h.asks in
    let says : false ≡ wants_interrupt h.flags = ap interrupts h.then_stops.outcome in
    let yes : wants_interrupt h.flags ≡ true = ap wants_interrupt (sym e) in
    absurd cc

of_all_bits : wants_interrupt 0xffff ≡ false
of_all_bits = refl

-- a broken rule: the device needs a reset, and the outcome says which rule
breaks : Breaks (whole (record ready { status = 79 })
    (record { tally = tally; why = Some (Broken TooLong); interrupt = false; more = false })) ready tally TooLong []
breaks = record { nothing = refl; device = refl; outcome = refl }

no_reset_wanted : (outcome : Outcome) → Breaks (whole ready outcome) ready tally TooLong [] → ⊥
no_reset_wanted outcome h = let e : Same 15 79 = ap (λ (d : Device). d.status) h.device in omega arith

another_rule : Breaks (whole (record ready { status = 79 })
    (record { tally = tally; why = Some (Broken BadNext); interrupt = false; more = false })) ready tally TooLong [] → ⊥
another_rule h = let e = ap (λ (o : Outcome). o.why) h.outcome in absurd cc

says_more : Breaks (whole (record ready { status = 79 })
    (record { tally = tally; why = Some (Broken TooLong); interrupt = false; more = true })) ready tally TooLong [] → ⊥
says_more h = let e = ap (λ (o : Outcome). o.more) h.outcome in absurd cc

-- ---- descriptors

abbrev bytes : List ℕ
bytes = 1 ∷ 2 ∷ 3 ∷ 4 ∷ 5 ∷ 6 ∷ 7 ∷ 8 ∷ 9 ∷ 10 ∷ 11 ∷ 12 ∷ 13 ∷ 14 ∷ 15 ∷ 16 ∷ []

each_byte : descriptor_of bytes ≡
    record { addr = 0x0807060504030201; len = 0x0c0b0a09; flags = 0x0e0d; next = 0x100f }
each_byte = refl

-- as many as the table, and never more than 256
of_each : map longest (1 ∷ 8 ∷ 256 ∷ 512 ∷ 1024 ∷ []) ≡ 1 ∷ 8 ∷ 256 ∷ 256 ∷ 256 ∷ []
of_each = refl

end_of_memory : memory_end ready ≡ 0x20000
end_of_memory = refl

abbrev faulty : ℕ → ℕ → ℕ → Descriptor
faulty len flags next = record { addr = 0x400; len = len; flags = flags; next = next }

-- the table's end comes before all rules, then each in its order
past_the_table : table_fault 8 0x20000 true 8 (faulty 0x20000 5 8) ≡ Some TooLong
past_the_table = refl

indirect : table_fault 8 0x20000 true 7 (faulty 0x20000 5 8) ≡ Some Indirect
indirect = refl

past_memory : table_fault 8 0x20000 true 7 (faulty 0x20000 1 8) ≡ Some OutOfRam
past_memory = refl

to_read_once_written : table_fault 8 0x20000 true 7 (faulty 4 1 8) ≡ Some WrongDirection
to_read_once_written = refl

no_such_descriptor : table_fault 8 0x20000 false 7 (faulty 4 1 8) ≡ Some BadNext
no_such_descriptor = refl

one_too_many : table_fault 8 0x20000 false 7 (faulty 4 1 7) ≡ Some TooLong
one_too_many = refl

last_of_all : table_fault 8 0x20000 false 7 (faulty 4 0 8) ≡ None
last_of_all = refl

-- in a table of 1,024 the 256th descriptor of a chain is its last one: it doesn't go on
last_of_256 : table_fault 1024 0x20000 false 255 (faulty 4 0 8) ≡ None
last_of_256 = refl

one_before_it : table_fault 1024 0x20000 false 254 (faulty 4 1 1023) ≡ None
one_before_it = refl

more_than_256 : table_fault 1024 0x20000 false 255 (faulty 4 1 8) ≡ Some TooLong
more_than_256 = refl

another_one : table_fault 1024 0x20000 false 256 (faulty 4 0 8) ≡ Some TooLong
another_one = refl

-- and each of the table may be named, which is tested before the chain's length
last_of_1024 : table_fault 1024 0x20000 false 0 (faulty 4 1 1023) ≡ None
last_of_1024 = refl

past_1024 : table_fault 1024 0x20000 false 255 (faulty 4 1 1024) ≡ Some BadNext
past_1024 = refl

past_512 : table_fault 512 0x20000 false 0 (faulty 4 1 1000) ≡ Some BadNext
past_512 = refl

-- ---- the walk

-- a chain goes on by the number that its descriptor names, and is whole after its last one
abbrev On : ℕ → Bool → List Piece → List Access → Type 0
On number writing pieces log = (number ≡ 5) × ((writing ≡ true) × ((pieces ≡ piece ∷ record piece { writable = true } ∷ []) × (log ≡ [])))

abbrev Done : List Piece → List Access → Type 0
Done pieces log = (pieces ≡ piece ∷ record piece { writable = true } ∷ []) × (log ≡ discard ∷ [])

goes_on : GoesOn true On Done false (faulty 4 3 5) (piece ∷ []) []
goes_on = (refl, (refl, (refl, refl)))

is_whole : GoesOn false On Done false (faulty 4 2 5) (piece ∷ []) (discard ∷ [])
is_whole = (refl, refl)

-- once one was the device's to write, it stays so
still_writing : GoesOn true (λ number writing pieces log. writing ≡ true) Done true (faulty 4 1 5) [] []
still_writing = refl

another_number : GoesOn true On Done true (faulty 4 3 6) (piece ∷ []) [] → ⊥
another_number h = let e : Same 6 5 = h.0 in omega arith

-- the descriptor of that number, 16 bytes each
abbrev Ended : List Piece → List Access → Type 0
Ended pieces log = (pieces ≡ piece ∷ []) × (log ≡ [])

followed : Follows 8 (whole ready (ends_so false false)) ready tally Ended no_row 3 false [] (descriptor ∷ [])
followed = record { bytes = last_descriptor; rest = []; asks = refl; long = refl; goes_on = (refl, refl) }

both_followed : Follows 8 (whole ready (ends_so false false)) ready tally (λ pieces log. pieces ≡ piece ∷ piece ∷ []) no_row 3 false []
    (CopyBytes (at 0x30) first_descriptor ∷ CopyBytes (at 0x50) (with_two last_descriptor) ∷ [])
both_followed = record {
  bytes = first_descriptor;
  rest = CopyBytes (at 0x50) (with_two last_descriptor) ∷ [];
  asks = refl;
  long = refl;
  goes_on = record {
    bytes = with_two last_descriptor;
    rest = [];
    asks = refl;
    long = refl;
    goes_on = refl;
  };
}

abbrev copied_at : List Access → ℕ
copied_at (CopyBytes at answer ∷ xs) = at.offset
copied_at xs = 0

another_descriptor : Follows 8 (whole ready (ends_so false false)) ready tally Ended no_row 3 false []
    (CopyBytes (at 0x40) last_descriptor ∷ []) → ⊥
another_descriptor h = let e : Same 0x40 0x30 = ap copied_at h.asks in omega arith

-- no more of them than the table has
too_many : Follows 0 (whole ready (ends_so false false)) ready tally Ended no_row 3 false [] (descriptor ∷ []) → ⊥
too_many h = let e = h.nothing in absurd cc

-- ---- parts of pieces

abbrev of_address : ℕ → ℕ → Piece
of_address addr len = record { addr = addr; len = len; writable = false }

abbrev part_of : ℕ → ℕ → ℕ → Part
part_of address plus len = record { address = address; plus = plus; length = len }

-- up to the end of a page, and over it by one
up_to_the_end : all_parts (of_address 4080 16 ∷ []) ≡ part_of 4080 0 16 ∷ []
up_to_the_end = refl

one_over : all_parts (of_address 4080 17 ∷ []) ≡ part_of 4080 0 16 ∷ part_of 4080 16 1 ∷ []
one_over = refl

-- up to the end of a portion, and over it by one
a_portion : all_parts (of_address 4096 1024 ∷ []) ≡ part_of 4096 0 1024 ∷ []
a_portion = refl

one_more : all_parts (of_address 4096 1025 ∷ []) ≡ part_of 4096 0 1024 ∷ part_of 4096 1024 1 ∷ []
one_more = refl

-- 257 numbers over two pages: a part ends with its page and another one with its portion
both_ends : all_parts (of_address 4000 1028 ∷ []) ≡ part_of 4000 0 96 ∷ part_of 4000 96 928 ∷ part_of 4000 1024 4 ∷ []
both_ends = refl

-- a portion goes over pieces, and a number over their border
over_a_border : all_parts (of_address 0 1022 ∷ of_address 4096 6 ∷ []) ≡
    part_of 0 0 1022 ∷ part_of 4096 0 2 ∷ part_of 4096 2 4 ∷ []
over_a_border = refl

-- the next portion begins with the next piece
with_a_piece : all_parts (of_address 0 1024 ∷ of_address 4096 4 ∷ []) ≡ part_of 0 0 1024 ∷ part_of 4096 0 4 ∷ []
with_a_piece = refl

no_byte : all_parts (of_address 4095 0 ∷ []) ≡ []
no_byte = refl

none_of_empty_ones : all_parts (of_address 0 0 ∷ of_address 4095 0 ∷ []) ≡ []
none_of_empty_ones = refl

buffers : pieces_in (record { address = 7; length = 9; writable = 0 } ∷ record { address = 8; length = 0; writable = 2 } ∷ []) ≡
    of_address 7 9 ∷ record { addr = 8; len = 0; writable = true } ∷ []
unfolding pieces_in
buffers = refl

-- ---- copies

-- a portion has 1,024 bytes
not_full_yet : is_full (replicate 1023 5) ≡ false
not_full_yet = refl

full_then : is_full (replicate 1024 5) ≡ true
full_then = refl

-- the parts in their order, and their bytes in a row
abbrev Four : Device → Tally → List ℕ → List Access → Type 0
Four d t bytes log = (bytes ≡ 9 ∷ 8 ∷ 7 ∷ []) × (log ≡ [])

abbrev over_an_end : List Part
over_an_end = all_parts (of_address 4095 3 ∷ [])

copied : CopiesParts (whole ready (ends_so false false)) Four ready tally over_an_end []
    (CopyBytes (at 4095) (9 ∷ []) ∷ CopyBytes (at 4096) (8 ∷ 7 ∷ []) ∷ [])
copied = record {
  bytes = 9 ∷ [];
  rest = CopyBytes (at 4096) (8 ∷ 7 ∷ []) ∷ [];
  asks = refl;
  long = refl;
  goes_on = record { bytes = 8 ∷ 7 ∷ []; rest = []; asks = refl; long = refl; goes_on = (refl, refl) };
}

second_first : CopiesParts (whole ready (ends_so false false)) Four ready tally over_an_end []
    (CopyBytes (at 4096) (8 ∷ 7 ∷ []) ∷ CopyBytes (at 4095) (9 ∷ []) ∷ []) → ⊥
second_first h = let e : Same 4096 4095 = ap copied_at h.asks in omega arith

abbrev copied_bytes : List Access → ℕ
copied_bytes (CopyBytes at answer ∷ xs) = length answer
copied_bytes xs = 0

in_one_copy : CopiesParts (whole ready (ends_so false false)) Four ready tally over_an_end []
    (CopyBytes (at 4095) (9 ∷ 8 ∷ 7 ∷ []) ∷ []) → ⊥
in_one_copy h = let e : Same 3 (length h.bytes) = ap copied_bytes h.asks in omega (arith, e, h.long)

-- a part in a hole breaks the rule of memory's end
in_the_hole : CopiesParts (whole (record ready { status = 79 })
    (record { tally = tally; why = Some (Broken OutOfRam); interrupt = false; more = false })) Four ready tally
    (all_parts (of_address 0x15000 4 ∷ [])) [] []
in_the_hole = record { nothing = refl; device = refl; outcome = refl }

-- one part alone, after what was copied, n bytes after its piece's begin
abbrev second_part : Part
second_part = record { address = 4095; plus = 1; length = 2 }

abbrev of_it : Whole → List Access → Type 0
of_it w log = PartAt w (Four ready tally) ready tally second_part (9 ∷ []) (spot two 4096 2) log

its_bytes : of_it (whole ready (ends_so false false)) (CopyBytes (at 4096) (8 ∷ 7 ∷ []) ∷ [])
its_bytes = record { bytes = 8 ∷ 7 ∷ []; rest = []; asks = refl; long = refl; goes_on = (refl, refl) }

those_of_the_first : of_it (whole ready (ends_so false false)) (CopyBytes (at 4095) (8 ∷ 7 ∷ []) ∷ []) → ⊥
those_of_the_first h = let e : Same 4095 4096 = ap copied_at h.asks in omega arith

one_byte_more : of_it (whole ready (ends_so false false)) (CopyBytes (at 4096) (8 ∷ 7 ∷ 6 ∷ []) ∷ []) → ⊥
one_byte_more h =
    let e : Same 3 (length h.bytes) = ap copied_bytes h.asks in
    omega (arith, e, h.long)

-- ---- what is copied of which kind

abbrev of_none : Then
of_none = λ d t log. ⊥

-- a request whose pieces are the device's to write breaks a rule before any is copied
to_write : ServesPieces Inflate (whole (record ready { status = 79 })
    (record { tally = tally; why = Some (Broken WrongDirection); interrupt = false; more = false })) of_none ready tally 3
    (record piece { writable = true } ∷ []) []
to_write = record { nothing = refl; device = refl; outcome = refl }

three_bytes : ServesPieces Deflate (record (whole (record ready { status = 79 })
    (record { tally = tally; why = Some (Broken BadLength); interrupt = false; more = false })) { kind = Deflate }) of_none ready tally 3
    (record piece { len = 3 } ∷ []) []
three_bytes = record { nothing = refl; device = refl; outcome = refl }

copied_although_broken : (d : Device) (outcome : Outcome) → ServesPieces Inflate (whole d outcome) of_none ready tally 3
    (record piece { len = 3 } ∷ []) (part ∷ []) → ⊥
copied_although_broken d outcome h = let e = h.nothing in absurd cc
