-- A table of descriptors in guest memory.
use Rattle.std.specs.Prelude.{ℕ, ◌+◌, ◌*◌, ◌^◌, ◌<◌, List, ◌++◌}
use Rattle.byteorder.specs.Endian.{little_bytes}
use Rattle.vb_ram.specs.Pages.{Pages, field}
use Rattle.vb_chain.specs.declared.descriptor.Descriptor.{Descriptor}
use Rattle.vb_chain.specs.declared.descriptor.TheConstants.{DESCRIPTOR_SIZE}

-- The descriptor of a number, in the table at the start of a page
unfoldable pub descriptor_at : Pages → ℕ → ℕ → Descriptor
descriptor_at mem p i =
    record {
      addr = field 8 mem p (DESCRIPTOR_SIZE * i);
      len = field 4 mem p (DESCRIPTOR_SIZE * i + 8);
      flags = field 2 mem p (DESCRIPTOR_SIZE * i + 12);
      next = field 2 mem p (DESCRIPTOR_SIZE * i + 14);
    }

-- The fields of a descriptor fit their bytes.
pub record FitsBytes (d : Descriptor) : Type 0 where
  pub addr : d.addr < 256 ^ 8
  pub len : d.len < 256 ^ 4
  pub flags : d.flags < 256 ^ 2
  pub next : d.next < 256 ^ 2

-- The bytes of a descriptor.
abbrev pub bytes_of : Descriptor → List ℕ
bytes_of d =
    little_bytes 8 d.addr
    ++ (little_bytes 4 d.len ++ (little_bytes 2 d.flags ++ little_bytes 2 d.next))
