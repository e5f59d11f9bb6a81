-- The device uses a taken request.
use Rattle.std.specs.Prelude.{◌≡◌, ℕ, ◌%◌, List, [], ◌∷◌, remove, Some, slice_get, slice_index_or}
use Rattle.{std.specs.Prelude.{◌≢◌, ◌+◌, ◌<◌, true, ◌++◌}, vb_chain.specs.Table.descriptor_at}
use Rattle.std.proofs.{lemmas.List.Elements.All-push, Common.{sym, ◌∙◌, ap, subst, arith}}
use Rattle.vb_virtio.specs.Layout.{ring_page, buffers_page, buffer_page}
use Rattle.vb_virtio.specs.Queues.{Request}
use Rattle.vb_model.specs.Requests.{Requests}
use Rattle.vb_guest.proofs.Apart.{buffer_apart_page, coded_kept}
use Rattle.{vb_ram.specs.{Part.QueuePart, Pages.Pages}, vb_ring.specs.declared.layout.Layout.Layout}
use Rattle.vb_ring.specs.{Ends.{DriverEnd, DeviceEnd}, Layout.{IsSize, layout_of}, Calls.AddsUsedBy}
use Rattle.vb_driver.specs.{State.{RequestSide, ReportSide}, Coding.{IsCoded, AreReported}}
use Rattle.vb_guest.proofs.{Heads.{heads-push, heads-remove, heads-get, one_of}, RingUsed.ring_used}
use Rattle.vb_guest.{proofs.{Heads.all_remove, RingApart.ring_parts}, specs.Reported.IsReport}
use Rattle.vb_guest.specs.{Line.{QueueLine, IsRequest, RingOf, heads_of}, Ring.RingStands}

-- the device's end of a queue
abbrev pub end_of : DriverEnd → QueuePart → DeviceEnd
end_of ring part = record {
  layout = ring.layout;
  size = ring.size;
  ready = true;
  next_avail = part.next_avail;
  next_used = part.next_used;
}

-- the head of the taken request goes to the used ones
pub requests_used : {m1 m2 : Pages} (q : ℕ) (ring : DriverEnd) (part : QueuePart) (rs : Requests)
    (i : ℕ) (r : Request) {after : DeviceEnd} → RingOf m1 q ring part rs → slice_get rs.taken i
    ≡ Some r → AddsUsedBy m1 m2 (end_of ring part) after r.head 0 → RingOf m2 q ring
    (record part { next_used = (part.next_used + 1) % 65536; taken = remove part.taken i })
    (record rs { taken = remove rs.taken i; done = rs.done ++ (r ∷ []) })
requests_used {m2} q ring part rs i r stands is adds =
    let R : List ℕ → List ℕ → Type 0 = λ taken done. RingStands m2 q ring part.next_avail
    ((part.next_used + 1) % 65536) (heads_of rs.posted) taken done in
    subst (λ l. R l (heads_of (rs.done ++ r ∷ []))) (sym (heads-remove rs.taken i))
    (subst (λ l. R (remove (heads_of rs.taken) i) l) (sym (heads-push rs.done r))
    (ring_used i stands (heads-get rs.taken i r is) adds))

pub line_used : {m1 m2 : Pages} {q : ℕ} {ring : DriverEnd} {part : QueuePart} {rs : Requests}
    (i : ℕ) (r : Request) {after : DeviceEnd} {K : Type 0} {P C D : Request → Type 0}
    → QueueLine m1 q ring part rs K P C → slice_get rs.taken i ≡ Some r → AddsUsedBy m1 m2
    (end_of ring part) after r.head 0 → ((x : Request) → P x → C x → D x) → QueueLine m2 q ring
    (record part { next_used = (part.next_used + 1) % 65536; taken = remove part.taken i })
    (record rs { taken = remove rs.taken i; done = rs.done ++ (r ∷ []) }) K P D
line_used {q} {ring} {part} {rs} i r {P} line is adds stays = record {
  ring = requests_used q ring part rs i r line.ring is adds;
  keeps = line.keeps;
  posted = line.posted;
  taken = all_remove P rs.taken i line.taken;
  done = All-push P rs.done r line.done (one_of P rs.taken i r line.taken is);
  coded = λ k d lt. stays (slice_index_or rs.posted k d) (line.posted k d lt) (line.coded k d lt);
  remembers = ap (λ (x : List Request). remove x i) line.remembers;
}

-- the bytes of posted requests are as before
pub coded_stays : {m1 m2 : Pages} (q : ℕ) {n : ℕ} (side : RequestSide)
    (part : QueuePart) {r : Request} {head : ℕ} {after : DeviceEnd} → IsSize side.ring.size
    → side.ring.layout ≡ layout_of (ring_page side.ring.size q) side.ring.size
    → AddsUsedBy m1 m2 (end_of side.ring part) after head 0 → IsRequest side.ring.size n side.sent r
    → IsCoded m1 (ring_page side.ring.size q) (buffers_page q) r.head r.pages
    → IsCoded m2 (ring_page side.ring.size q) (buffers_page q) r.head r.pages
coded_stays {m1} {m2} q side part {r} sized layout adds is code = let l = side.ring.layout in
    let size = side.ring.size in
    let table : l.table ≡ ring_page size q = ap (λ (x : Layout). x.table) layout in
    let apart : buffer_page (buffers_page q) r.head ≢ l.used.page = buffer_apart_page
    size q q l.used.page r.head is.few (ring_parts q side.ring sized layout).used in
    coded_kept q is (ap (λ (p : ℕ). descriptor_at m2 p r.head) (sym table)
    ∙ adds.descriptors r.head is.inside ∙ ap (λ (p : ℕ). descriptor_at m1 p r.head) table)
    (adds.puts.rest.others _ (apart, (apart, tt))) code

pub report_stays : {m1 m2 : Pages}
    {n : ℕ} (side : ReportSide) (part : QueuePart) {r : Request} {head : ℕ} {after : DeviceEnd}
    → side.ring.layout ≡ layout_of (ring_page side.ring.size 4) side.ring.size → AddsUsedBy m1 m2
    (end_of side.ring part) after head 0 → IsReport side.ring.size n side.blocks r
    → AreReported m1 (ring_page side.ring.size 4) side.blocks
    → AreReported m2 (ring_page side.ring.size 4) side.blocks
report_stays {m1} {m2} side part layout adds is code =
    let A : ℕ → Type 0 = λ t. (k : ℕ) → k < side.ring.size
    → descriptor_at m2 t k ≡ descriptor_at m1 t k in
    let same : A (ring_page side.ring.size 4) = search arith in
    record { chain = λ j below. same j (omega (arith, below, is.inside)) ∙ code.chain j below }
