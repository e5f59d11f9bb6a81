-- The flags and sizes of descriptors as plain numbers (VIRTIO 1.1, 2.6.5), and what the flags say.
use Rattle.std.specs.Prelude.{◌≡◌, ℕ, Bool, true, false, List, [], ◌∷◌, refl}
use Rattle.vb_chain.specs.declared.descriptor.TheConstants.{VIRTQ_DESC_F_NEXT, VIRTQ_DESC_F_WRITE}
use Rattle.vb_chain.specs.declared.descriptor.TheConstants.{VIRTQ_DESC_F_INDIRECT, DESCRIPTOR_SIZE}
use Rattle.vb_chain.{specs.declared.descriptor.Descriptor.Descriptor, specs.Written.flags_of}
use Rattle.vb_chain.specs.declared.descriptor.TheConstants.{DESCRIPTORS_IN_A_PAGE}
use Rattle.vb_chain.specs.declared.pieces.TheConstants.{MAX_DESCRIPTORS}
use Rattle.vb_chain.specs.Rules.{has_next, is_writable, is_indirect}

-- NEXT, WRITE and INDIRECT
flags_are : VIRTQ_DESC_F_NEXT ∷ VIRTQ_DESC_F_WRITE ∷ VIRTQ_DESC_F_INDIRECT ∷ [] ≡ 1 ∷ 2 ∷ 4 ∷ []
flags_are = refl

-- bytes of a descriptor, and how many a page and a queue have room for
sizes_are : DESCRIPTOR_SIZE ∷ DESCRIPTORS_IN_A_PAGE ∷ MAX_DESCRIPTORS ∷ [] ≡ 16 ∷ 256 ∷ 256 ∷ []
sizes_are = refl

-- whether a descriptor of these flags goes on, is writable, and is a table of descriptors
abbrev says : ℕ → List Bool
says flags = let d : Descriptor = record { addr = 0; len = 0; flags = flags; next = 0 } in
    has_next d ∷ is_writable d ∷ is_indirect d ∷ []

next_goes_on : says 1 ≡ true ∷ false ∷ false ∷ []
next_goes_on = refl

write_is_writable : says 2 ≡ false ∷ true ∷ false ∷ []
write_is_writable = refl

indirect_is_a_table : says 4 ≡ false ∷ false ∷ true ∷ []
indirect_is_a_table = refl

-- what a driver writes: last to be read, last to be written, and the same where the chain goes on
written_flags_are : flags_of false false ∷ flags_of false true ∷ flags_of true false
    ∷ flags_of true true ∷ [] ≡ 0 ∷ 2 ∷ 1 ∷ 3 ∷ []
written_flags_are = refl
