-- What leaves the queues of a running guest alone.
use Rattle.{std.specs.Prelude.{◌≡◌, ◌≢◌, ℕ, ◌+◌, ◌<◌, ◌≤◌, length}, vb_guest.proofs.Apart.SameBut}
use Rattle.vb_virtio.proofs.Shapes.{InRing, rings_apart}
use Rattle.vb_virtio.specs.Layout.{reserved_pages, ring_number, ring_page, buffers_page}
use Rattle.std.proofs.Common.{sym, subst, arith}
use Rattle.{vb_model.specs.Guest.Guest, vb_ram.specs.{Pages.{Pages, page_at, frame_at}, Part.Part}}
use Rattle.vb_ring.specs.{declared.layout.Layout.Layout, Layout.{IsSize, layout_of}, Ends.DriverEnd}
use Rattle.vb_driver.{specs.State.DriverState, proofs.Shapes.buffers_between}
use Rattle.vb_guest.proofs.Apart.{SameLine, SameReserved, no_buffer, other_ring, other_line}
use Rattle.vb_guest.{proofs.{RingApart.SameRing, PagesKept.SamePages}, specs.Stands.IsRunning}

-- all four rings have n descriptors
pub record AreSized (d : DriverState) (size : ℕ) : Type 0 where
  pub inflate : d.inflate.ring.size ≡ size
  pub deflate : d.deflate.ring.size ≡ size
  pub statistics : d.statistics.size ≡ size
  pub report : d.report.ring.size ≡ size

pub sizes_of : {m : Pages} {p : Part} {d : DriverState} {g : Guest}
    → IsRunning m p d g → AreSized d g.config.queue_size
sizes_of run = grind arith

-- ---- reserved pages are as before, and so are all queues

pub record QueuesSame (old new : Pages) (d : DriverState) : Type 0 where
  pub inflate : SameLine old new d.inflate.ring.size 0
  pub deflate : SameLine old new d.deflate.ring.size 1
  pub statistics : SameRing old new d.statistics.size 2
  pub buffer : page_at new 12 ≡ page_at old 12
  pub report : SameRing old new d.report.ring.size 4

pub queues_same : {old new : Pages} {d : DriverState} {size : ℕ}
    → AreSized d size → SameReserved old new size → QueuesSame old new d
queues_same sized same = grind arith

-- ---- a page of one ring has changed, and no other: all other queues are as before

pub record OthersSame (old new : Pages) (d : DriverState) (q : ℕ) : Type 0 where
  pub inflate : 0 ≢ ring_number q → SameLine old new d.inflate.ring.size 0
  pub deflate : 1 ≢ ring_number q → SameLine old new d.deflate.ring.size 1
  pub statistics : 2 ≢ ring_number q → SameRing old new d.statistics.size 2
  pub buffer : 2 ≢ ring_number q → page_at new 12 ≡ page_at old 12
  pub report : 3 ≢ ring_number q → SameRing old new d.report.ring.size 4

pub others_same : {old new : Pages} {d : DriverState} {size q : ℕ} (ring : ℕ)
    → AreSized d size → InRing size q ring → SameBut old new ring → OthersSame old new d q
others_same {old} {new} {size} {q} ring sized at rest = record {
  inflate = λ ne. other_line q ring sized.inflate ne at rest;
  deflate = λ ne. other_line q ring sized.deflate ne at rest;
  statistics = λ ne. other_ring old new q 2 ring sized.statistics ne at rest;
  buffer = λ ne. rest 12 (no_buffer size q ring 12 at (omega arith) (omega arith));
  report = λ ne. other_ring old new q 4 ring sized.report ne at rest;
}

-- a ring's page is reserved
pub ring_low : {size k : ℕ} (q page : ℕ) → k ≡ size → InRing k q page → page < reserved_pages size
ring_low q page same at = grind arith

pub ring_as : {size k : ℕ} (q page : ℕ) → k ≡ size → InRing k q page → InRing size q page
ring_as q page same at = subst (λ (s : ℕ). InRing s q page) same at

-- ---- a driver has written to one ring, to its table and its available ring, and to a buffer

pub record IsRingOf (size q : ℕ) (l : Layout) : Type 0 where
  pub table : InRing size q l.table
  pub avail : InRing size q l.avail.page

pub ring_of : {size : ℕ} (q : ℕ) (ring : DriverEnd) → IsSize ring.size → ring.layout
    ≡ layout_of (ring_page ring.size q) ring.size → ring.size ≡ size → IsRingOf size q ring.layout
ring_of q ring sized layout same = grind arith

-- no other page has changed
abbrev pub SameButThese : Pages → Pages → Layout → ℕ → Type 0
SameButThese old new l buffer = (p : ℕ) → p ≢ l.table → p ≢ l.avail.page → p ≢ buffer
    → page_at new p ≡ page_at old p

-- the buffer's page is none of another ring
abbrev pub IsClear : ℕ → ℕ → ℕ → Type 0
IsClear size q buffer = (other page : ℕ) → ring_number other ≢ ring_number q
    → InRing size other page → page ≢ buffer

pub buffer_clear : (size q buffer : ℕ) → 4 ≤ buffer → buffer ≤ 12 → IsClear size q buffer
buffer_clear size q buffer low high other page ne at same =
    no_buffer size other page buffer at low high (sym same)

pub table_clear : (size q table : ℕ) → InRing size q table → IsClear size q table
table_clear size q table at other page ne there = rings_apart size other q page table ne there at

posted_ring : (old new : Pages) {size k q : ℕ} (other buffer : ℕ) {l : Layout}
    → k ≡ size → ring_number other ≢ ring_number q → IsRingOf size q l
    → IsClear size q buffer → SameButThese old new l buffer → SameRing old new k other
posted_ring old new {size} {q} other buffer {l} same ne ring clear rest page there =
    let here : InRing size other page = subst (λ (s : ℕ). InRing s other page) same there in
    rest page (rings_apart size other q page l.table ne here ring.table)
    (rings_apart size other q page l.avail.page ne here ring.avail) (clear other page ne here)

posted_line : {old new : Pages} {size k q other : ℕ} (buffer : ℕ) {l : Layout}
    → k ≡ size → ring_number other ≢ ring_number q → IsRingOf size q l → IsClear size q buffer
    → ((p : ℕ) → buffers_page other ≤ p → p < buffers_page other + 4 → p ≢ buffer)
    → SameButThese old new l buffer → SameLine old new k other
posted_line {old} {new} {size} {q} {other} buffer {l} same ne ring clear far rest = record {
  ring = posted_ring old new other buffer same ne ring clear rest;
  buffers = λ p from to.
      let between = buffers_between other in let low : 4 ≤ p = omega (arith, between.0, from) in
      let high : p ≤ 12 = omega (arith, between.1, to) in
      rest p (no_buffer size q l.table p ring.table low high)
      (no_buffer size q l.avail.page p ring.avail low high) (far p from to);
}

-- all other queues are as before
pub record PostLeaves (old new : Pages) (d : DriverState) (q written : ℕ) : Type 0 where
  pub inflate : 0 ≢ ring_number q → ((p : ℕ) → 4 ≤ p → p < 8 → p ≢ written)
      → SameLine old new d.inflate.ring.size 0
  pub deflate : 1 ≢ ring_number q → ((p : ℕ) → 8 ≤ p → p < 12 → p ≢ written)
      → SameLine old new d.deflate.ring.size 1
  pub statistics : 2 ≢ ring_number q → SameRing old new d.statistics.size 2
  pub buffer : 12 ≢ written → page_at new 12 ≡ page_at old 12
  pub report : 3 ≢ ring_number q → SameRing old new d.report.ring.size 4

pub post_leaves : {old new : Pages} {d : DriverState} {size q buffer : ℕ} {l : Layout}
    → AreSized d size → IsRingOf size q l
    → IsClear size q buffer → SameButThese old new l buffer → PostLeaves old new d q buffer
post_leaves {old} {new} {size} {q} {buffer} {l} sized ring clear rest = record {
  inflate = λ ne far. posted_line buffer sized.inflate ne ring clear far rest;
  deflate = λ ne far. posted_line buffer sized.deflate ne ring clear far rest;
  statistics = λ ne. posted_ring old new 2 buffer sized.statistics ne ring clear rest;
  buffer = λ ne. rest 12 (no_buffer size q l.table 12 ring.table (omega arith) (omega arith))
      (no_buffer size q l.avail.page 12 ring.avail (omega arith) (omega arith)) ne;
  report = λ ne. posted_ring old new 4 buffer sized.report ne ring clear rest;
}

-- and so are unreserved pages
pub post_same : {old new : Pages} {size q : ℕ} (buffer : ℕ) {l : Layout} → IsRingOf size q l
    → buffer < reserved_pages size → length new ≡ length old → ((p : ℕ) → frame_at new p
    ≡ frame_at old p) → SameButThese old new l buffer → SamePages (reserved_pages size) old new
post_same buffer ring low count behind rest = search arith
