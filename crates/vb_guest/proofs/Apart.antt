-- What leaves a queue alone.
use Rattle.std.specs.Prelude.{◌≡◌, ◌≢◌, ℕ, ◌+◌, ◌*◌, ◌<◌, ◌≤◌, List, length, slice_index_or}
use Rattle.vb_virtio.specs.Layout.{reserved_pages, ring_number, ring_page, buffers_page}
use Rattle.vb_virtio.specs.Layout.{buffer_page, buffer_offset}
use Rattle.vb_virtio.specs.Queues.{Request}
use Rattle.vb_virtio.proofs.Shapes.{InRing, rings_apart}
use Rattle.std.proofs.Common.{◌∙◌, arith, inl, refl, subst}
use Rattle.vb_model.specs.Requests.{Requests}
use Rattle.vb_ram.{specs.{Pages.{Pages, page_at}, Part.QueuePart}, proofs.FieldLaws.same_page}
use Rattle.vb_chain.{specs.Table.descriptor_at, proofs.TableLaws.descriptor_apart}
use Rattle.{vb_ring.specs.Ends.DriverEnd, vb_driver.specs.Coding.IsCoded}
use Rattle.vb_driver.{specs.State.RequestSide, proofs.Buffers.names_kept}
use Rattle.vb_guest.{specs.Line.{Line, IsRequest, RingOf}, proofs.RingApart.{SameRing, ring_apart}}

-- the pages of a queue's ring, and those of its buffers, are as before
pub record SameLine (old new : Pages) (size q : ℕ) : Type 0 where
  pub ring : SameRing old new size q
  pub buffers : (p : ℕ) → buffers_page q ≤ p → p < buffers_page q + 4
      → page_at new p ≡ page_at old p

-- a coded request whose descriptor and buffer are as before
pub coded_kept : {old new : Pages} (q : ℕ) {n size : ℕ} {sent : List (List ℕ)} {r : Request}
    → IsRequest size n sent r → descriptor_at new (ring_page size q) r.head ≡ descriptor_at old
    (ring_page size q) r.head → page_at new (buffer_page (buffers_page q) r.head)
    ≡ page_at old (buffer_page (buffers_page q) r.head) → IsCoded old (ring_page size q)
    (buffers_page q) r.head r.pages → IsCoded new (ring_page size q) (buffers_page q) r.head r.pages
coded_kept {old} {new} q {r} is descriptor page code = record {
  descriptor = descriptor ∙ code.descriptor;
  names = names_kept old new (buffer_page (buffers_page q) r.head) (buffer_offset r.head) r.pages
      (buffer_offset r.head + 4 * length r.pages) (same_page old new _ _ _ page) (omega arith)
      code.names;
}

-- the ring of a queue whose pages are as before
pub requests_apart : (old new : Pages) (q : ℕ) (ring : DriverEnd) (part : QueuePart) (rs : Requests)
    → SameRing old new ring.size q → RingOf old q ring part rs → RingOf new q ring part rs
requests_apart old new q ring part rs same stands = grind (arith, ring_apart same stands)

pub line_apart : {old new : Pages}
    {q : ℕ} (n : ℕ) (side : RequestSide) (part : QueuePart) (rs : Requests)
    → SameLine old new side.ring.size q → Line old q n side part rs → Line new q n side part rs
line_apart {old} {new} {q} n side part rs same line = record {
  ring = requests_apart old new q side.ring part rs same.ring line.ring;
  keeps = line.keeps;
  posted = line.posted;
  taken = line.taken;
  done = line.done;
  coded = λ k d lt.
      let x = slice_index_or rs.posted k d in let is = line.posted k d lt in
      coded_kept q is (descriptor_apart old new
      (ring_page side.ring.size q) x.head (same.ring (ring_page side.ring.size q) (inl refl)))
      (same.buffers _ (omega arith) (omega (arith, is.few))) (line.coded k d lt);
  remembers = line.remembers;
}

-- a page of a ring is none of a buffer, and no page of another ring
pub no_buffer : (size q ring page : ℕ) → InRing size q ring → 4 ≤ page → page ≤ 12 → page ≢ ring
no_buffer size q ring page at low high same = grind arith

pub buffer_apart_page : (size q other ring head : ℕ) → head < 16 → InRing size q ring
    → buffer_page (buffers_page other) head ≢ ring
buffer_apart_page size q other ring head few at = grind arith

-- only a page of one ring has changed: the rings of other queues are as before, and so are buffers
abbrev pub SameBut : Pages → Pages → ℕ → Type 0
SameBut old new ring = (p : ℕ) → p ≢ ring → page_at new p ≡ page_at old p

pub other_ring : (old new : Pages) {size k : ℕ} (q other ring : ℕ)
    → k ≡ size → ring_number other ≢ ring_number q
    → InRing size q ring → SameBut old new ring → SameRing old new k other
other_ring old new {size} q other ring same ne at rest page there = grind (
  arith,
  rings_apart size other q page ring ne (subst (λ (s : ℕ). InRing s other page) same there) at,
)

pub other_line : {old new : Pages} {size k : ℕ} (q : ℕ) {other : ℕ} (ring : ℕ)
    → k ≡ size → ring_number other ≢ ring_number q
    → InRing size q ring → SameBut old new ring → SameLine old new k other
other_line q ring same ne at rest = search arith

-- the reserved pages of a guest whose queues have this size are as before
abbrev pub SameReserved : Pages → Pages → ℕ → Type 0
SameReserved old new size = (p : ℕ) → p < reserved_pages size → page_at new p ≡ page_at old p
