-- A used element that is written by addresses is one that a queue adds.
use Rattle.std.proofs.Common.{◌≡◌, ◌∙◌, ap, sym, subst, arith, ℕ, ◌+◌, ◌*◌, ◌/◌, ◌%◌, ◌<◌, ◌≤◌}
use Rattle.std.proofs.Common.{List, length}
use Rattle.std.specs.Prelude.{IsSome, ◌^◌}
use Rattle.std.specs.Int.{w16, w32, to_le_bytes}
use Rattle.vb_ram.specs.Pages.{Pages, frame_at, Wrote, PutField}
use Rattle.vb_ram.{specs.Part.Part, proofs.FieldLaws.{put_2, put_4}}
use Rattle.vb_ring.specs.{Ends.IsDeviceEnd, Calls.{AddsUsedBy, PutsUsed}, Layout.{IsSize}}
use Rattle.vb_ring.specs.Entries.{used_index, used_place}
use Rattle.vb_ring.proofs.{Puts.puts_used, Assemble.adds_used_by}
use Rattle.vb_core.specs.declared.ring.{Virtqueue.Virtqueue}
use Rattle.vb_core.specs.Rings.{used_entry}
use Rattle.vb_device.specs.Queues.{queue_part, queue_layout, queue_end}
use Rattle.vb_served.specs.{Store.{Store, Puts}, One.Gives, Alike.AreRings}
use Rattle.vb_served.proofs.WordLemmas.{fits_so}

-- where a page has a frame, what is put there is written
wrote : (a page off : ℕ) (bytes : List ℕ) (s t : Store) → a ≡ 4096 * page + off →
    off + length bytes ≤ 4096 → 0 < length bytes → page < length s.mem →
    IsSome (frame_at s.mem page) → Puts a bytes s t → Wrote s.mem t.mem page off bytes
wrote a page off bytes s t e fits some inside backed put =
    let at : a / 4096 ≡ page = omega (arith, e, fits, some) in
    let rest : a % 4096 ≡ off = omega (arith, e, fits, some) in
    subst (λ (p : ℕ). Wrote s.mem t.mem p off bytes) at
    (subst (λ (o : ℕ). Wrote s.mem t.mem (a / 4096) o bytes) rest
    (put.put (record {
      page = omega (arith, at, inside);
      bytes = omega (arith, rest, fits);
    }) (subst (λ (p : ℕ). IsSome (frame_at s.mem p)) (sym at) backed)))

abbrev has_frame : Pages → ℕ → Type 0
has_frame mem page = IsSome (frame_at mem page)

pub element_so : (r : Virtqueue) (q head : ℕ) (part : Part) (s t : Store) →
    IsSize part.queue_size → AreRings r q part → IsDeviceEnd (queue_end q part) → head < 65536 →
    (queue_layout q part).used.page < length s.mem →
    IsSome (frame_at s.mem (queue_layout q part).used.page) → Gives (used_entry r head) s t →
    PutsUsed s.mem t.mem (queue_layout q part) part.queue_size (queue_part q part).next_used head 0
element_so r q head part s t size alike is_end few inside backed gives =
    let l = queue_layout q part in
    let fits = fits_so q part size in
    let n = (queue_part q part).next_used in
    let m = part.queue_size in
    let e = used_entry r head in
    let below : n % m < m = below_so n m size.least in
    let same : r.next_used % r.size ≡ n % m =
    ap (λ (x : ℕ). x % r.size) alike.next_used ∙ ap (λ (x : ℕ). n % x) alike.size in
    let place : e.element_at ≡ 4096 * l.used.page + used_place l m n =
    omega (arith, alike.used, same) in
    let id = wrote e.element_at l.used.page (used_place l m n) (to_le_bytes w32 head) s gives.with_id
    place (omega (arith, fits.used, below)) (omega arith) inside backed gives.id in
    let long = wrote (e.element_at + 4) l.used.page (used_place l m n + 4) (to_le_bytes w32 0)
    gives.with_id gives.with_length (omega (arith, place)) (omega (arith, fits.used, below))
    (omega arith) (subst (λ (k : ℕ). l.used.page < k) (sym id.rest.count) inside)
    (subst IsSome (sym (id.rest.backing l.used.page)) backed) gives.long in
    let count : length gives.with_length.mem ≡ length s.mem = long.rest.count ∙ id.rest.count in
    let frame : frame_at gives.with_length.mem l.used.page ≡ frame_at s.mem l.used.page =
    long.rest.backing l.used.page ∙ id.rest.backing l.used.page in
    let next : (r.next_used + 1) % 65536 ≡ (n + 1) % 65536 =
    ap (λ (x : ℕ). (x + 1) % 65536) alike.next_used in
    let index = wrote e.index_at l.used.page (used_index l) (to_le_bytes w16 e.index)
    gives.with_length t (omega (arith, alike.used)) (omega (arith, fits.used))
    (omega arith) (subst (λ (k : ℕ). l.used.page < k) (sym count) inside)
    (subst IsSome (sym frame) backed) gives.index in
    puts_used s.mem gives.with_id.mem gives.with_length.mem t.mem l m n head 0
    (put_4 s.mem gives.with_id.mem l.used.page (used_place l m n) head (omega (arith, few)) id)
    (put_4 gives.with_id.mem gives.with_length.mem l.used.page (used_place l m n + 4) 0
    (omega arith) long)
    (subst (λ (x : ℕ). PutField 2 gives.with_length.mem t.mem l.used.page (used_index l) x) next
    (put_2 gives.with_length.mem t.mem l.used.page (used_index l) e.index
    (below_index r.next_used) index))
  where
    below_so : (n size : ℕ) → 2 ≤ size → n % size < size
    below_so n size least = grind arith

    below_index : (n : ℕ) → (n + 1) % 65536 < 2 ^ 16
    below_index n = grind arith

pub adds_so : (r : Virtqueue) (q head : ℕ) (part : Part) (s t : Store) → IsSize part.queue_size →
    AreRings r q part → IsDeviceEnd (queue_end q part) → head < 65536 →
    (queue_layout q part).used.page < length s.mem →
    IsSome (frame_at s.mem (queue_layout q part).used.page) → Gives (used_entry r head) s t →
    AddsUsedBy s.mem t.mem (queue_end q part) (record (queue_end q part)
    { next_used = ((queue_part q part).next_used + 1) % 65536 }) head 0
adds_so r q head part s t size alike is_end few inside backed gives =
    adds_used_by s.mem t.mem (queue_end q part) head 0 is_end
    (element_so r q head part s t size alike is_end few inside backed gives)
