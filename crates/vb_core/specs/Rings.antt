-- Where a queue's ring lies, by addresses of guest memory, and how far the device is in it (VIRTIO
-- 1.1, 2.6).
use Rattle.std.specs.Prelude.{ℕ, ◌+◌, ◌-◌, ◌*◌, ◌%◌, Bool, ◌==◌, ◌&&◌, nat_le}
use Rattle.std.specs.Int.{is_power_of_two}
use Rattle.vb_core.specs.declared.ring.TheConstants.{MAX_RING_SIZE}
use Rattle.vb_core.specs.declared.ring.Virtqueue.{Virtqueue}
use Rattle.vb_core.specs.declared.ring.UsedEntry.{UsedEntry}

-- The ring of a queue that has no place.
abbrev pub no_ring : Virtqueue
no_ring =
    record { table = 0; avail = 0; used = 0; size = 0; next_avail = 0; next_used = 0 }

-- A number of descriptors that a queue may have.
abbrev pub is_size : ℕ → Bool
is_size size = is_power_of_two size && nat_le size MAX_RING_SIZE

-- n bytes from an address on are aligned so, and lie in memory that ends there.
abbrev pub is_part : ℕ → ℕ → ℕ → ℕ → Bool
is_part end at align len = (at % align == 0) && nat_le at end && nat_le len (end - at)

-- The parts of a ring have a place in memory that ends there.
abbrev pub has_place : ℕ → Virtqueue → Bool
has_place end r =
    is_size r.size
    && is_part end r.table 16 (16 * r.size)
    && is_part end r.avail 2 (6 + 2 * r.size)
    && is_part end r.used 4 (6 + 8 * r.size)

-- One more available entry is taken.
abbrev pub with_taken : Virtqueue → Virtqueue
with_taken r = record r { next_avail = (r.next_avail + 1) % 65536 }

-- One more used element is told.
abbrev pub with_used : Virtqueue → Virtqueue
with_used r = record r { next_used = (r.next_used + 1) % 65536 }

-- The element of 8 bytes after those told, for a chain of this head, and the index after it.
abbrev pub used_entry : Virtqueue → ℕ → UsedEntry
used_entry r head = record {
  element_at = r.used + 4 + 8 * (r.next_used % r.size);
  index_at = r.used + 2;
  id = head;
  length = 0;
  index = (r.next_used + 1) % 65536;
}
