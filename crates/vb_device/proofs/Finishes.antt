-- A finish by a device, from the end of its queue.
use Rattle.std.{specs.Prelude.{◌≡◌, remove, OnSome, slice_get, All}, proofs.lemmas.Bool.cases_eq}
use Rattle.std.specs.Prelude.{ℕ, ◌+◌, ◌%◌, ◌<◌, Bool, List, [], length, Option, Some, None, refl}
use Rattle.vb_virtio.specs.Queues.{Request, has_chains}
use Rattle.vb_virtio.specs.declared.statistics.LastStatistics.{LastStatistics}
use Rattle.vb_virtio.specs.Layout.{reserved_pages, ring_page}
use Rattle.vb_virtio.specs.Status.{contains, driver_ok}
use Rattle.std.specs.Prelude.{◌≤◌, true}
use Rattle.std.proofs.{Common.{sym, ◌∙◌, ap, arith, rules}, Math.ListN.set}
use Rattle.vb_model.specs.Device.{next_page}
use Rattle.vb_ram.specs.{Pages.{Page, Pages, page_at}, Part.QueuePart}
use Rattle.vb_ring.specs.{declared.layout.Layout.Layout, Ends.DeviceEnd, Calls.AddsUsedBy}
use Rattle.{vb_ring.specs.Layout.{layout_of, IsBacked}, vb_request.specs.Refusals.readiness_refusal}
use Rattle.vb_device.specs.{Queues.{queue_end, with_queue}, Calls.without_frames}
use Rattle.vb_device.specs.Base.{index_of, queue_at, base_part, IsDeviceQueue, IsBase}
use Rattle.vb_device.specs.{QueueState.{QueueState, part_of}, BaseCalls.{UsesChain, CanUse}}
use Rattle.vb_device.proofs.{Rings.backed_still, Discards.{discarded-length, reserved_still}}
use Rattle.vb_device.proofs.{FourQueues.{part_get, part_set, set_here, base_set}, TakesBy.status_ok}

abbrev pub without_taken : QueueState → ℕ → QueueState
without_taken x index = record x { taken = remove x.taken index }

-- an end whose queue is ready, by its parts
end_is : (r : DeviceEnd) (l : Layout) (n : ℕ) → r.layout ≡ l → r.size ≡ n → r.ready ≡ true →
    r ≡ record {
      layout = l;
      size = n;
      ready = true;
      next_avail = r.next_avail;
      next_used = r.next_used;
    }
end_is r l n a b c = search (arith)

ends_so : (m1 m2 : Pages) (a b c d : DeviceEnd) (h : ℕ) → a ≡ c → b ≡ d → AddsUsedBy m1 m2 a b h 0 →
    AddsUsedBy m1 m2 c d h 0
ends_so m1 m2 a b c d h e f adds = search (arith)

part_is : (x y : QueueState) → x.ring ≡ y.ring → x.taken ≡ y.taken → part_of x ≡ part_of y
part_is x y e f = search (arith)

-- the device's end of a queue
end_of_queue : (q : ℕ) (mem : Pages) (s f t a n : ℕ) (qs : List QueueState) (l : LastStatistics)
    (loose : List Page) (flags : List Bool) (paced : Bool) (x : QueueState) → has_chains q ≡ true →
    queue_at q qs ≡ x → x.ring.layout ≡ layout_of (ring_page n q) n → x.ring.size ≡ n →
    x.ring.ready ≡ true → x.ring ≡ queue_end q (base_part s f t a n qs l loose flags paced)
end_of_queue q mem s f t a n qs l loose flags paced x known at ring size ready =
    search (arith, end_is, part_get)

-- a chain of one queue is used
pub used_at : (q h : ℕ) (m1 m2 : Pages) (s f t a n c : ℕ) (qs : List QueueState)
    (x2 : QueueState) (l : LastStatistics) (loose : List Page) (flags : List Bool) (paced : Bool) → IsBase m1 s n qs c → has_chains q
    ≡ true → contains s driver_ok ≡ true → AddsUsedBy m1 m2 (queue_at q qs).ring x2.ring h 0
    → x2.taken ≡ (queue_at q qs).taken → UsesChain q h m1 m2 (base_part s f t a n qs l loose flags paced)
    (base_part s f t a n (set qs (index_of q) x2) l loose flags paced)
used_at q h m1 m2 s f t a n c qs x2 l loose flags paced is known ok adds left =
    let x : QueueState = queue_at q qs in
    let now : IsDeviceQueue m1 s n q x = is.each q known in record {
      part = part_set q s f t a n qs x2 l loose flags paced is.four known
          ∙ (ap (λ (k : QueuePart). with_queue q k (base_part s f t a n qs l loose flags paced))
          (part_is x2 (record x {
            ring = record x.ring { next_used = (x.ring.next_used + 1) % 65536 };
          }) adds.state left)
          ∙ ap (λ (k : QueuePart). with_queue q (record k { next_used = (k.next_used + 1) % 65536 })
          (base_part s f t a n qs l loose flags paced)) (sym (part_get q s f t a n qs l loose flags paced known)));
      memory = ends_so m1 m2 x.ring x2.ring (queue_end q (base_part s f t a n qs l loose flags paced))
          (queue_end q (base_part s f t a n (set qs (index_of q) x2) l loose flags paced)) h
          (end_of_queue q m1 s f t a n qs l loose flags paced x known refl now.ring now.size (now.ready ok))
          (end_of_queue q m1 s f t a n (set qs (index_of q) x2) l loose flags paced x2 known
          (set_here q qs x2 is.four known) (ap (λ (e : DeviceEnd). e.layout) adds.state ∙ now.ring)
          (ap (λ (e : DeviceEnd). e.size) adds.state ∙ now.size)
          (ap (λ (e : DeviceEnd). e.ready) adds.state ∙ now.ready ok)) adds;
    }

-- ---- what stays true

empty_gets : (index : ℕ) (r : Request) → slice_get [] index ≡ Some r → ⊥
empty_gets index r e = cc

nothing_taken : (ts : List Request) (index : ℕ) (r : Request) → ts ≡ [] →
    slice_get ts index ≡ Some r → ⊥
nothing_taken ts index r e at =
    empty_gets index r (sym (ap (λ (xs : List Request). slice_get xs index) e) ∙ at)

pub has_pages : (mem : Pages) (ts : List Request) (index : ℕ) (r : Request) →
    (length mem ≡ 0 → ts ≡ []) → slice_get ts index ≡ Some r → 0 < length mem
has_pages mem ts index r none at = grind (arith, cases_eq, nothing_taken)

-- one queue's ring and memory's frames may have changed, and no count of pages
pub base_used : (q : ℕ) (m1 m2 : Pages) (s n c1 c2 : ℕ) (qs : List QueueState) (x2 : QueueState) →
    IsBase m1 s n qs c1 → has_chains q ≡ true → length m2 ≡ length m1 → c2 ≡ c1 → 0 < length m1
    → x2.number ≡ (queue_at q qs).number
    → x2.ring.layout ≡ (queue_at q qs).ring.layout → x2.ring.size ≡ (queue_at q qs).ring.size →
    x2.ring.ready ≡ (queue_at q qs).ring.ready → IsBase m2 s n (set qs (index_of q) x2) c2
base_used q m1 m2 s n c1 c2 qs x2 b known len same pos number layout size ready =
    let large : 64 ≤ length m1 = b.large pos in
    let fits : length m1 ≤ c1 = b.room in base_set q m1 m2 s s n c1 c2 qs x2 b known
    (λ k x is. record {
      number = is.number;
      ring = is.ring;
      size = is.size;
      ready = is.ready;
      idle = λ z. absurd (omega (arith, len, pos, z));
      none = λ z. absurd (omega (arith, len, pos, z));
    }) (λ is. record {
      number = number ∙ is.number;
      ring = layout ∙ is.ring;
      size = size ∙ is.size;
      ready = λ e. ready ∙ is.ready e;
      idle = λ z. absurd (omega (arith, len, pos, z));
      none = λ z. absurd (omega (arith, len, pos, z));
    }) (λ l. omega (arith, len, large)) (omega (arith, len, same, fits))

-- the same where no queue is changed
pub base_same : (m1 m2 : Pages) (s n c1 c2 : ℕ) (qs : List QueueState) → IsBase m1 s n qs c1 →
    length m2 ≡ length m1 → c2 ≡ c1 → 0 < length m1 → IsBase m2 s n qs c2
base_same m1 m2 s n c1 c2 qs b len same pos = search (arith)

-- what can be used after a request was taken out
pub kept_length : (q : ℕ) (pages : List ℕ) (mem : Pages) →
    length (without_frames q pages mem) ≡ length mem
kept_length q pages mem = grind (arith, discarded-length)

kept_page : (reserved q p : ℕ) (pages : List ℕ) (mem : Pages) → p < reserved
    → All (λ page. reserved ≤ page) pages → page_at (without_frames q pages mem) p ≡ page_at mem p
kept_page reserved q p pages mem low above = grind (arith, reserved_still)

pub can_use : (q h : ℕ) (pages : List ℕ) (m1 m2 : Pages) (s f t a n c : ℕ) (qs : List QueueState)
    (x2 : QueueState) (l : LastStatistics) (loose : List Page) (flags : List Bool) (paced : Bool) → IsBase m1 s n qs c
    → has_chains q ≡ true → readiness_refusal s ≡ None → h < (queue_at q qs).ring.size
    → All (λ page. reserved_pages (queue_at q qs).ring.size ≤ page) pages
    → m2 ≡ without_frames q pages m1 → IsBacked m1 (layout_of (ring_page n q) n)
    → CanUse q h m2 (base_part s f t a n (set qs (index_of q) x2) l loose flags paced)
can_use q h pages m1 m2 s f t a n c qs x2 l loose flags paced is known ok lt above mem backed =
    grind (arith, status_ok, backed_still, kept_page)

-- a request whose next page is visited is in memory that has pages
pub visits_attached : (mem : Pages) (ts : List Request) (page : ℕ) →
    (length mem ≡ 0 → ts ≡ []) → next_page ts ≡ Some page → 0 < length mem
visits_attached mem ts page none at = grind (arith, cases_eq)

pub visits_some : (mem : Pages) (ts : List Request) (found : Option ℕ) →
    (length mem ≡ 0 → ts ≡ []) → found ≡ next_page ts → OnSome found (0 < length mem)
visits_some mem ts None none at = search rules
visits_some mem ts (Some page) none at = visits_attached mem ts page none (sym at)
