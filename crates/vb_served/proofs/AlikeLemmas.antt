-- Devices that are alike stay so.
use Rattle.std.proofs.Common.{◌≡◌, ap, sym, subst, inl, inr, ◌⊎◌, ℕ, ◌<◌, ◌≤◌}
use Rattle.std.proofs.Common.{List, length, Option, Some, None}
use Rattle.std.specs.Prelude.{IsSome, All, bit_or}
use Rattle.std.proofs.lemmas.{Bool.cases_lt, List.get_or_past}
use Rattle.vb_virtio.specs.Layout.{reserved_pages}
use Rattle.vb_ram.specs.{Pages.{Page, Pages, page_at, frame_at, number_of}, Part.{Part}}
use Rattle.vb_ring.specs.{Layout.{IsSize, IsBacked}}
use Rattle.vb_core.specs.declared.kinds.Kind.{Kind}
use Rattle.vb_core.specs.declared.kinds.Kind.TheVariants.{Inflate, Deflate, Statistics, Hint, Report}
use Rattle.vb_core.specs.declared.device.Device.{Device}
use Rattle.vb_core.specs.Kinds.{queue_of}
use Rattle.vb_core.specs.Devices.{needing_reset, ring_of}
use Rattle.vb_device.specs.Discards.{discarded}
use Rattle.vb_device.specs.Faults.{needing_reset as part_needing_reset}
use Rattle.vb_device.specs.Queues.{queue_layout}
use Rattle.vb_device.proofs.{Discards.reserved_still, Rings.backed_still}
use Rattle.vb_served.specs.{Store.Store, Alike.{IsAlike, AreRings}}

-- a rule is broken
reset_ring : (kind : Kind) (d : Device) (p : Part) → AreRings (ring_of kind d) (queue_of kind) p →
    AreRings (ring_of kind (needing_reset d)) (queue_of kind) (part_needing_reset p)
reset_ring Inflate d p r = record {
  size = r.size;
  next_avail = r.next_avail;
  next_used = r.next_used;
  table = r.table;
  avail = r.avail;
  used = r.used;
}
reset_ring Deflate d p r = record {
  size = r.size;
  next_avail = r.next_avail;
  next_used = r.next_used;
  table = r.table;
  avail = r.avail;
  used = r.used;
}
reset_ring Statistics d p r = record {
  size = r.size;
  next_avail = r.next_avail;
  next_used = r.next_used;
  table = r.table;
  avail = r.avail;
  used = r.used;
}
reset_ring Hint d p r = record {
  size = r.size;
  next_avail = r.next_avail;
  next_used = r.next_used;
  table = r.table;
  avail = r.avail;
  used = r.used;
}
reset_ring Report d p r = record {
  size = r.size;
  next_avail = r.next_avail;
  next_used = r.next_used;
  table = r.table;
  avail = r.avail;
  used = r.used;
}

pub reset_alike : (kind : Kind) (d : Device) (p : Part) (s : Store) → IsAlike kind d p s →
    IsAlike kind (needing_reset d) (part_needing_reset p) s
reset_alike kind d p s a = record {
  loose = a.loose;
  ballooned = a.ballooned;
  last = a.last;
  settings = a.settings;
  end = a.end;
  reserved = a.reserved;
  strict = a.strict;
  keeps = a.keeps;
  status = ap (λ (x : ℕ). bit_or x 64) a.status;
  features = a.features;
  ring = reset_ring kind d p a.ring;
}

-- ---- memory

-- a page with a frame is a page of memory
pub backed_inside : (mem : Pages) (page : ℕ) → IsSome (frame_at mem page) → page < length mem
backed_inside mem page is = by (cases_lt page (length mem)) where
  none_so : (o : Option Page) → o ≡ None → IsSome (number_of o) → ⊥
  none_so None e some = absurd cc
  none_so (Some x) e some = absurd cc

  by : (page < length mem) ⊎ (length mem ≤ page) → page < length mem
  by (inl lt) = lt
  by (inr le) = absurd (none_so (page_at mem page) (get_or_past mem page None le) is)

-- the ring's pages keep their frames where no reserved page is named
pub ring_still : (q reserved : ℕ) (p : Part) (pages : List ℕ) (mem new : Pages) →
    IsSize p.queue_size → reserved ≡ reserved_pages p.queue_size →
    All (λ page. reserved ≤ page) pages → new ≡ discarded pages mem →
    IsBacked mem (queue_layout q p) → IsBacked new (queue_layout q p)
ring_still q reserved p pages mem new size e above is backed =
    backed_still mem new p.queue_size q size (λ page lt.
    ap number_of (reserved_still reserved page pages mem new (subst (λ (n : ℕ). page < n) (sym e) lt)
    above is)) backed
