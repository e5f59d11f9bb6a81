-- What calls make of the statistics buffer.
use Rattle.std.specs.Prelude.{◌≡◌, ℕ, ◌+◌, ◌%◌, true, List, [], ◌∷◌, ◌++◌, remove, Some, Ok, refl}
use Rattle.vb_virtio.specs.Queues.{Request}
use Rattle.vb_virtio.specs.Layout.{ring_page}
use Rattle.std.proofs.Common.{ap, arith, inl}
use Rattle.vb_model.specs.Requests.{BufferDone}
use Rattle.vb_model.specs.Requests.{Figures, StatisticsBuffer, NoBuffer, BufferPosted, BufferTaken}
use Rattle.vb_guest.specs.Buffer.{BufferLine, HasFigures}
use Rattle.vb_ram.{specs.{Pages.{Pages, page_at}, Part.QueuePart}, proofs.FieldLaws.field_in}
use Rattle.{vb_ram.proofs.FieldLaws.same_page, vb_chain.proofs.TableLaws.descriptor_apart}
use Rattle.vb_ring.specs.{Ends.{DriverEnd, DeviceEnd}, Calls.{AddsUsedBy, TakesUsedBy}}
use Rattle.vb_driver.specs.{Coding.{AreFigures, IsStatistic}, Calls.{PostsBuffer, emptied}}
use Rattle.vb_guest.proofs.{RingApart.{SameRing, ring_apart}, RingPosted.ring_posted}
use Rattle.vb_guest.proofs.{RingTaken.ring_taken, RingUsed.ring_used, RingReaped.ring_reaped}

-- ---- memory changes elsewhere

statistic_kept : {old new : Pages} {offset tag value : ℕ} → page_at new 12 ≡ page_at old 12
    → IsStatistic old offset tag value → IsStatistic new offset tag value
statistic_kept same is = grind (arith, field_in, same_page)

figures_kept : {old new : Pages} {table : ℕ} {figures : Figures}
    → page_at new table ≡ page_at old table
    → page_at new 12 ≡ page_at old 12 → AreFigures old table figures → AreFigures new table figures
figures_kept ring buffer are = grind (arith, descriptor_apart, statistic_kept)

-- the pages of the ring and of the buffer are as before
pub buffer_apart : {old new : Pages} {ring : DriverEnd} {part : QueuePart}
    {buffer : StatisticsBuffer} → SameRing old new ring.size 2 → page_at new 12 ≡ page_at old 12
    → BufferLine old ring part buffer → BufferLine new ring part buffer
buffer_apart {old} {new} {ring} {buffer} same_ring same_buffer line = record {
  stands = ring_apart same_ring line.stands;
  figures = by buffer line.figures;
  remembers = line.remembers;
} where
  by : (buffer : StatisticsBuffer)
      → HasFigures ring.size old buffer → HasFigures ring.size new buffer
  by (BufferPosted figures) has = let table : ℕ = ring_page ring.size 2 in
      figures_kept (same_ring table (inl refl)) same_buffer has
  by NoBuffer has = tt
  by (BufferTaken figures) has = tt
  by (BufferDone figures) has = tt

-- ---- the buffer goes round

-- the device takes it
pub buffer_taken : {mem : Pages} {ring : DriverEnd} {part : QueuePart} (figures : Figures)
    → BufferLine mem ring part (BufferPosted figures) → BufferLine mem ring (record part {
      next_avail = (part.next_avail + 1) % 65536;
      taken = part.taken ++ (record { head = 0; pages = []; visited = 0 } ∷ []);
    }) (BufferTaken figures)
buffer_taken figures line = grind (arith, ring_taken 0 line.stands)

-- the device uses it
pub buffer_used : {m1 m2 : Pages} {ring : DriverEnd} {part : QueuePart} (figures : Figures)
    {after : DeviceEnd} → BufferLine m1 ring part (BufferTaken figures) → AddsUsedBy m1 m2 (record {
      layout = ring.layout;
      size = ring.size;
      ready = true;
      next_avail = part.next_avail;
      next_used = part.next_used;
    }) after 0 0 → BufferLine m2 ring
    (record part { next_used = (part.next_used + 1) % 65536; taken = remove part.taken 0 })
    (BufferDone figures)
buffer_used figures line adds = record {
  stands = ring_used 0 line.stands refl adds;
  figures = tt;
  remembers = ap (λ (l : List Request). remove l 0) line.remembers;
}

-- the driver posts it
pub buffer_posted : {m1 m2 : Pages} {r1 r2 : DriverEnd} {part : QueuePart} {figures : Figures}
    → BufferLine m1 r1 part NoBuffer
    → PostsBuffer m1 m2 r1 r2 figures → BufferLine m2 r2 part (BufferPosted figures)
buffer_posted line posts = grind (arith, ring_posted 1 line.stands posts.state posts.announces)

-- the driver sees that it was used
pub buffer_emptied : {mem : Pages} {ring : DriverEnd} {part : QueuePart} (figures : Figures)
    → BufferLine mem ring part (BufferDone figures) → TakesUsedBy mem ring
    (emptied ring) (Ok (Some 0)) → BufferLine mem (emptied ring) part NoBuffer
buffer_emptied figures line takes = grind (arith, ring_reaped 0 line.stands takes)
