-- The rules that a descriptor may break, in the order in which they are tested (VIRTIO 1.1, 2.6.5;
-- the order is the profile's).
use Rattle.std.specs.Prelude.{ℕ, ◌+◌, Bool, not, ◌&&◌, ◌==◌, nat_lt, nat_le, bit_and, List, [], ◌∷◌}
use Rattle.std.specs.Prelude.{Option, Some, None, if◌then◌else◌}
use Rattle.vb_chain.specs.declared.descriptor.Descriptor.{Descriptor}
use Rattle.vb_chain.specs.declared.pieces.Piece.{Piece}
use Rattle.vb_chain.specs.declared.fault.ChainFault.{ChainFault}
use Rattle.vb_chain.specs.declared.fault.ChainFault.TheVariants.{BadNext, TooLong, Indirect}
use Rattle.vb_chain.specs.declared.fault.ChainFault.TheVariants.{WrongDirection, OutOfRam}
use Rattle.vb_chain.specs.declared.descriptor.TheConstants.{VIRTQ_DESC_F_NEXT, VIRTQ_DESC_F_WRITE}
use Rattle.vb_chain.specs.declared.descriptor.TheConstants.{VIRTQ_DESC_F_INDIRECT}

-- A flag is set.
abbrev pub flag : Descriptor → ℕ → Bool
flag d bit = not (bit_and d.flags bit == 0)

-- The chain goes on.
abbrev pub has_next : Descriptor → Bool
has_next d = flag d VIRTQ_DESC_F_NEXT

-- The buffer is the device's to write.
abbrev pub is_writable : Descriptor → Bool
is_writable d = flag d VIRTQ_DESC_F_WRITE

-- The buffer is a table of descriptors.
abbrev pub is_indirect : Descriptor → Bool
is_indirect d = flag d VIRTQ_DESC_F_INDIRECT

-- What a descriptor says of its buffer.
abbrev pub piece_of : Descriptor → Piece
piece_of d = record { addr = d.addr; len = d.len; writable = is_writable d }

-- The rules for a descriptor after k others, each as whether it is broken and with which fault: the
-- table has q descriptors, memory ends at end, and writing says that a writable one came before.
abbrev pub rules : ℕ → ℕ → Bool → ℕ → Descriptor → List (Bool × ChainFault)
rules q end writing k d =
    (is_indirect d, Indirect)
    ∷ (nat_lt end (d.addr + d.len), OutOfRam)
    ∷ (writing && not (is_writable d), WrongDirection)
    ∷ (has_next d && nat_le q d.next, BadNext)
    ∷ (has_next d && nat_le q (k + 1), TooLong)
    ∷ []

-- The fault of the first rule that is broken.
abbrev pub first_broken : List (Bool × ChainFault) → Option ChainFault
first_broken [] = None
first_broken ((is_broken, fault) ∷ others) = if is_broken then Some fault else first_broken others

-- The first rule that a descriptor breaks.
abbrev pub first_fault : ℕ → ℕ → Bool → ℕ → Descriptor → Option ChainFault
first_fault q end writing k d = first_broken (rules q end writing k d)
