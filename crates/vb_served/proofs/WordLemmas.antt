-- Words and descriptors by addresses are those of the pages that they lie in.
use Rattle.std.proofs.Common.{◌≡◌, ◌∙◌, ap, sym, refl, arith, ℕ, ◌+◌, ◌*◌, ◌/◌, ◌%◌, ◌<◌, ◌≤◌}
use Rattle.std.proofs.Common.{take, drop, Result, Bool}
use Rattle.std.specs.Prelude.{slice_index, ◌==◌, nat_le}
use Rattle.std.specs.Int.{w16, from_le_bytes}
use Rattle.std.proofs.lemmas.List.{get_or-take, get_or-drop, FromFn.get_or-map-range_with_len}
use Rattle.vb_virtio.specs.Layout.{ring_page}
use Rattle.vb_ram.{specs.Pages.{Pages, byte_at, field}, specs.Part.Part}
use Rattle.vb_ram.proofs.FieldLaws.{field_2, field_4, field_8}
use Rattle.vb_chain.{specs.declared.descriptor.Descriptor.Descriptor, specs.Table.descriptor_at}
use Rattle.vb_chain.specs.declared.fault.ChainFault.{ChainFault}
use Rattle.vb_request.specs.Request.{byte_of_address}
use Rattle.vb_ring.specs.{Entries.{ahead, avail_index, avail_place}, Layout.{IsSize, Fits}}
use Rattle.vb_ring.{proofs.Shapes.fits_at}
use Rattle.vb_core.specs.declared.ring.Virtqueue.{Virtqueue}
use Rattle.vb_served.proofs.ChainAgreement.{Agree}
use Rattle.vb_device.specs.Queues.{queue_part, queue_layout, next_available}
use Rattle.vb_monitor.specs.Chains.{descriptor_of}
use Rattle.vb_monitor.specs.Notices.{entry_offset, stands, stands_by}
use Rattle.vb_monitor.specs.Still.{bytes_from, index_in}
use Rattle.vb_monitor.proofs.StillFound.{found_by, tests_alike, offset_so}
use Rattle.vb_served.specs.One.{head_in, descriptor_in}
use Rattle.vb_served.specs.Alike.{AreRings}

-- ---- bytes

byte_in : (byte : ℕ → ℕ) (a len k : ℕ) → k < len →
    slice_index (bytes_from byte a len) k ≡ byte (a + k)
byte_in byte a len k lt = get_or-map-range_with_len byte a len k (a + k) 0 lt refl

byte_there : (mem : Pages) (page off : ℕ) → off < 4096 →
    byte_of_address mem (4096 * page + off) ≡ byte_at mem page off
byte_there mem page off lt =
    let at : (4096 * page + off) / 4096 ≡ page = omega (arith, lt) in
    let rest : (4096 * page + off) % 4096 ≡ off = omega (arith, lt) in
    ap (λ (p : ℕ). byte_at mem p ((4096 * page + off) % 4096)) at
    ∙ ap (λ (o : ℕ). byte_at mem page o) rest

-- a word at an address, in one page
word_there : (mem : Pages) (page off a : ℕ) → a ≡ 4096 * page + off → off + 2 ≤ 4096 →
    from_le_bytes w16 (bytes_from (byte_of_address mem) a 2) ≡ field 2 mem page off
word_there mem page off a e fits = sym (field_2 mem page off
    (bytes_from (byte_of_address mem) a 2) (λ k lt.
    let same : a + k ≡ 4096 * page + (off + k) = omega (arith, e) in
    byte_in (byte_of_address mem) a 2 k lt ∙ (ap (byte_of_address mem) same
    ∙ byte_there mem page (off + k) (omega (arith, fits, lt)))))

-- ---- descriptors

part_there : (mem : Pages) (page i from len k : ℕ) → 16 * i + 16 ≤ 4096 → from + len ≤ 16 → k < len →
    slice_index (take len (drop from (bytes_from (byte_of_address mem) (4096 * page + 16 * i) 16))) k
    ≡ byte_at mem page (16 * i + from + k)
part_there mem page i from len k within fits below =
    let bytes = bytes_from (byte_of_address mem) (4096 * page + 16 * i) 16 in
    let same : 4096 * page + 16 * i + (from + k) ≡ 4096 * page + (16 * i + from + k) = omega arith in
    get_or-take len (drop from bytes) k 0 below ∙ (get_or-drop from bytes k 0
    ∙ (byte_in (byte_of_address mem) (4096 * page + 16 * i) 16 (from + k) (omega (arith, fits, below))
    ∙ (ap (byte_of_address mem) same
    ∙ byte_there mem page (16 * i + from + k) (omega (arith, within, fits, below)))))

same_descriptor : (a b : Descriptor) → a.addr ≡ b.addr → a.len ≡ b.len → a.flags ≡ b.flags →
    a.next ≡ b.next → a ≡ b
same_descriptor a b e f g h =
    ap (λ (n : ℕ). record { addr = n; len = a.len; flags = a.flags; next = a.next }) e
    ∙ (ap (λ (n : ℕ). record { addr = b.addr; len = n; flags = a.flags; next = a.next }) f
    ∙ (ap (λ (n : ℕ). record { addr = b.addr; len = b.len; flags = n; next = a.next }) g
    ∙ ap (λ (n : ℕ). record { addr = b.addr; len = b.len; flags = b.flags; next = n }) h))

descriptor_there : (mem : Pages) (page i : ℕ) → 16 * i + 16 ≤ 4096 → descriptor_at mem page i ≡
    descriptor_of (bytes_from (byte_of_address mem) (4096 * page + 16 * i) 16)
unfolding descriptor_at
descriptor_there mem page i within =
    let bytes = bytes_from (byte_of_address mem) (4096 * page + 16 * i) 16 in
    let begin : 16 * i + 0 ≡ 16 * i = omega arith in
    same_descriptor (descriptor_at mem page i) (descriptor_of bytes)
    (field_8 mem page (16 * i) (take 8 bytes) (λ k below.
    part_there mem page i 0 8 k within (omega arith) below
    ∙ ap (λ (o : ℕ). byte_at mem page (o + k)) begin))
    (field_4 mem page (16 * i + 8) (take 4 (drop 8 bytes)) (λ k below.
    part_there mem page i 8 4 k within (omega arith) below))
    (field_2 mem page (16 * i + 12) (take 2 (drop 12 bytes)) (λ k below.
    part_there mem page i 12 2 k within (omega arith) below))
    (field_2 mem page (16 * i + 14) (take 2 (drop 14 bytes)) (λ k below.
    part_there mem page i 14 2 k within (omega arith) below))

-- ---- a ring

pub fits_so : (q : ℕ) (part : Part) → IsSize part.queue_size →
    Fits (queue_layout q part) part.queue_size
fits_so q part size = fits_at (ring_page part.queue_size q) part.queue_size size

pub same_index : (mem : Pages) (r : Virtqueue) (q : ℕ) (part : Part) → IsSize part.queue_size →
    AreRings r q part → index_in (byte_of_address mem) r
    ≡ field 2 mem (queue_layout q part).avail.page (avail_index (queue_layout q part))
same_index mem r q part size alike =
    let l = queue_layout q part in
    let fits = fits_so q part size in
    word_there mem l.avail.page (l.avail.offset + 2) (r.avail + 2) (omega (arith, alike.avail))
    (omega (arith, fits.avail))

place_so : (r : Virtqueue) (q : ℕ) (part : Part) → IsSize part.queue_size → AreRings r q part →
    entry_offset r ≡ 4 + 2 * ((queue_part q part).next_avail % part.queue_size)
place_so r q part size alike =
    let some : 0 < r.size = omega (arith, alike.size, size.least) in
    offset_so r some
    ∙ (ap (λ (n : ℕ). 4 + 2 * (n % r.size)) alike.next_avail
    ∙ ap (λ (n : ℕ). 4 + 2 * ((queue_part q part).next_avail % n)) alike.size)

pub same_head : (mem : Pages) (r : Virtqueue) (q : ℕ) (part : Part) → IsSize part.queue_size →
    AreRings r q part → head_in (byte_of_address mem) r
    ≡ field 2 mem (queue_layout q part).avail.page
    (avail_place (queue_layout q part) part.queue_size (queue_part q part).next_avail)
same_head mem r q part size alike =
    let l = queue_layout q part in
    let fits = fits_so q part size in
    let n = (queue_part q part).next_avail in
    let below : n % part.queue_size < part.queue_size = below_so n part.queue_size size.least in
    let at : entry_offset r ≡ 4 + 2 * (n % part.queue_size) = place_so r q part size alike in
    word_there mem l.avail.page (l.avail.offset + 4 + 2 * (n % part.queue_size))
    (r.avail + entry_offset r) (omega (arith, alike.avail, at))
    (omega (arith, fits.avail, below))
  where
    below_so : (n size : ℕ) → 2 ≤ size → n % size < size
    below_so n size least = grind arith

-- what is next is the same
pub same_next : (mem : Pages) (r : Virtqueue) (q : ℕ) (part : Part) → IsSize part.queue_size →
    AreRings r q part → next_available q mem part ≡
    found_by (stands r (index_in (byte_of_address mem) r)) (head_in (byte_of_address mem) r)
same_next mem r q part size alike =
    let l = queue_layout q part in
    let n = (queue_part q part).next_avail in
    let index = field 2 mem l.avail.page (avail_index l) in
    let head = field 2 mem l.avail.page (avail_place l part.queue_size n) in
    let a = ahead index n in
    tests_alike (a == 0) (nat_le a part.queue_size) head
    ∙ (ap (λ (x : ℕ). found_by (stands_at (ahead index n) part.queue_size) x)
    (sym (same_head mem r q part size alike))
    ∙ (ap (λ (i : ℕ). found_by (stands_at (ahead i n) part.queue_size) (head_in (byte_of_address mem)
    r)) (sym (same_index mem r q part size alike))
    ∙ (ap (λ (m : ℕ). found_by (stands_at (ahead (index_in (byte_of_address mem) r) m)
    part.queue_size) (head_in (byte_of_address mem) r)) (sym alike.next_avail)
    ∙ ap (λ (m : ℕ). found_by (stands_at (ahead (index_in (byte_of_address mem) r) r.next_avail) m)
    (head_in (byte_of_address mem) r)) (sym alike.size))))
  where
    stands_at : ℕ → ℕ → Result Bool ChainFault
    stands_at ahead size = stands_by ahead size

-- and so is each descriptor
pub same_table : (mem : Pages) (r : Virtqueue) (q : ℕ) (part : Part) → IsSize part.queue_size →
    AreRings r q part → Agree part.queue_size (descriptor_in (byte_of_address mem) r)
    (descriptor_at mem (queue_layout q part).table)
same_table mem r q part size alike i lt =
    let l = queue_layout q part in
    let within : 16 * i + 16 ≤ 4096 = omega (arith, size.most, lt) in
    ap (λ (a : ℕ). descriptor_of (bytes_from (byte_of_address mem) (a + 16 * i) 16)) alike.table
    ∙ sym (descriptor_there mem l.table i within)
