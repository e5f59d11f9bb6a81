-- The driver posts a request.
use Rattle.std.specs.Prelude.{◌≡◌, ◌≢◌, ℕ, ◌+◌, ◌<◌, ◌==◌, true, false, cond, List, [], All, length}
use Rattle.std.specs.Prelude.{Option, Some, None, Ok, slice_set, slice_index, slice_index_or}
use Rattle.std.{specs.Prelude.{is_none, refl}, proofs.Common.{sym, ◌∙◌, ap, subst, arith, inl, inr}}
use Rattle.std.proofs.lemmas.Bool.{cases_eq, cases_Bool, Decides.nat_tests}
use Rattle.{std.proofs.lemmas.List.{length-set, get_or-set_same}, vb_ram.specs.Part.QueuePart}
use Rattle.std.proofs.lemmas.List.{get_or-set_other, Elements.All-push, Sums.get_or-le-sum_by}
use Rattle.std.proofs.lemmas.Option.{get_or_from_slice_get, slice_get_within}
use Rattle.vb_virtio.specs.Queues.{Request}
use Rattle.vb_virtio.specs.Tests.{one_if}
use Rattle.vb_virtio.specs.Layout.{ring_page, buffers_page, buffer_page, buffer_offset}
use Rattle.vb_model.specs.Requests.{Requests, all_requests, headed, outstanding, posting}
use Rattle.vb_model.specs.Requests.{IsLeastHead}
use Rattle.vb_chain.specs.Table.{descriptor_at}
use Rattle.{vb_ram.specs.Pages.Pages, vb_driver.{specs.Calls.Posts, proofs.Buffers.names_kept}}
use Rattle.vb_ring.proofs.Numbers.{numbers_pass, numbers_has, numbers_rise}
use Rattle.vb_ring.specs.{Entries.{is_own, is_head}, Ends.{DriverEnd, is_unused, free_descriptors}}
use Rattle.vb_ring.specs.Ends.{next_head, after_add, outstanding as outstanding_in}
use Rattle.vb_driver.specs.{Coding.IsCoded, State.{RequestSide, AreRequests}, Calls.Announces}
use Rattle.vb_guest.specs.Line.{AreRequested, Line, IsRequest, RingOf}
use Rattle.vb_guest.proofs.{RingHeads.{ring_once, ring_count}, RingPosted.ring_posted}
use Rattle.vb_guest.proofs.Heads.{times-heads, length-heads, heads-push, headed-all}

-- the requests that have a head are one exactly where the driver's table has the head
pub headed_once : (mem : Pages) (q : ℕ) (ring : DriverEnd) (part : QueuePart) (rs : Requests)
    (h : ℕ) → RingOf mem q ring part rs → headed h (all_requests rs) ≡ one_if (is_head ring.owner h)
headed_once mem q ring part rs h stands =
    grind (
      arith,
      ring_once h stands,
      times-heads h rs.posted,
      times-heads h rs.taken,
      times-heads h rs.done,
      headed-all h rs,
    )

-- as many chains are out as there are requests
pub outstanding_are : (mem : Pages) (q : ℕ) (ring : DriverEnd) (part : QueuePart) (rs : Requests)
    → RingOf mem q ring part rs → outstanding_in ring ≡ outstanding rs
outstanding_are mem q ring part rs stands =
    grind (
      arith,
      ring_count stands,
      length-heads rs.posted,
      length-heads rs.taken,
      length-heads rs.done,
    )

none_own : (h : ℕ) (o : Option ℕ) → is_none o ≡ true → is_own h o ≡ false
none_own h y e = grind arith

-- the lowest free descriptor is free, and none below it is
pub record IsLowest (r : DriverEnd) (h : ℕ) : Type 0 where
  pub inside : h < r.size
  pub free : is_unused r.owner h ≡ true
  pub below : (k : ℕ) → k < h → is_unused r.owner k ≡ false

pub lowest_is : (r : DriverEnd) {h : ℕ} → next_head r ≡ Some h → IsLowest r h
lowest_is r {h} is = let free = free_descriptors r in
    let some : 0 < length free = slice_get_within free 0 h is in
    let first : slice_index free 0 ≡ h = get_or_from_slice_get free 0 h 0 is in
    let pass = numbers_pass (is_unused r.owner) r.size 0 some in
    record {
      inside = omega (arith, first, pass.0);
      free = ap (is_unused r.owner) (sym first) ∙ pass.1;
      below = λ k lt. elim (cases_Bool (is_unused r.owner k)) [
        | inr not ↦ not
        | inl too ↦
            let found = numbers_has (is_unused r.owner) r.size k (omega (arith, first, pass.0))
            too in elim (cases_eq found.0 0) [
              | inl e ↦ (let same : slice_index free 0 ≡ k = search arith in absurd (omega (arith, same, first)))
              | inr ne ↦ absurd (omega (
                arith,
                numbers_rise (is_unused r.owner) r.size 0 found.0 (omega (arith, ne)) found.1,
                first,
                found.2,
              ))
            ]
      ];
    }

-- the new head is the least that no request has
pub least_head : (mem : Pages) (q : ℕ)
    {side : RequestSide} (part : QueuePart) {rs : Requests} {h : ℕ} → RingOf mem q side.ring part rs
    → AreRequests side → next_head side.ring ≡ Some h → IsLeastHead rs h
least_head mem q {side} part {rs} {h} stands single is =
    let lowest = lowest_is side.ring is in record {
      new = headed_once mem q side.ring part rs h stands
          ∙ ap one_if (none_own h (slice_index_or side.ring.owner h None) lowest.free);
      least = λ k lt.
          let one : headed k (all_requests rs) ≡ 1 = headed_once mem q side.ring part rs k stands
          ∙ ap one_if (single.single k (lowest.below k lt)) in omega (arith, one);
    }

is_same : {h k : ℕ} → h ≡ k → cond {A = ℕ} (h == k) 1 0 ≡ 1
is_same e = grind (arith, nat_tests)

-- a head that no request has is not that of one of them
pub not_headed : (rs : List Request) (h k : ℕ) (d : Request) → headed h rs ≡ 0 → k < length rs
    → (slice_index_or rs k d).head ≢ h
not_headed rs h k d none lt e = grind (arith, get_or-le-sum_by)

-- a request that was out is still remembered
pub still_out : (size n : ℕ) (sent : List (List ℕ)) (h : ℕ) (pages : List ℕ) (rs : List Request)
    → headed h rs ≡ 0 → All (IsRequest size n sent) rs
    → All (IsRequest size n (slice_set sent h pages)) rs
still_out size n sent h pages rs none all k d lt = grind (arith, get_or-set_other, not_headed)

-- the head of the new request is the last of the posted ones
pub requests_posted : {m1 m2 : Pages} (q : ℕ)
    {ring after : DriverEnd} (part : QueuePart) (rs : Requests) (n : ℕ) {head : ℕ} (pages : List ℕ)
    → RingOf m1 q ring part rs → after ≡ after_add ring n (Ok head)
    → Announces m1 m2 ring after head → RingOf m2 q after part (posting head pages rs)
requests_posted q part rs n pages stands state did = grind (arith, heads-push, ring_posted)

-- the queue's side once the request is out
abbrev pub posted_side : RequestSide → ℕ → List ℕ → RequestSide
posted_side s head pages =
    record s { ring = after_add s.ring 1 (Ok head); sent = slice_set s.sent head pages }

pub line_posted : {m1 m2 : Pages} (q : ℕ) {n : ℕ} {side after : RequestSide}
    (part : QueuePart) (rs : Requests) {head : ℕ} {pages : List ℕ} → AreRequests side
    → AreRequested side.ring.size n pages → Line m1 q n side part rs → Posts m1 m2 side after
    (buffers_page q) pages head → Line m2 q n after part (posting head pages rs)
line_posted {m1} {m2} q {n} {side} part rs {head} {pages} single fine line did =
    let L : RequestSide → Type 0 = λ s. Line m2 q n s part (posting head pages rs) in
    subst L (sym did.state)
    (now (subst (λ s. Posts m1 m2 side s (buffers_page q) pages head) did.state did)) where
      now : Posts m1 m2 side (posted_side side head pages) (buffers_page q) pages head
          → Line m2 q n (posted_side side head pages) part (posting head pages rs)
      now did = let r : Request = record { head = head; pages = pages; visited = 0 } in
          let l = side.ring.layout in let sent = slice_set side.sent head pages in
          let P : Request → Type 0 = IsRequest side.ring.size n sent in
          let lowest = lowest_is side.ring did.lowest in
          let none : headed head (all_requests rs) ≡ 0 =
          (least_head m1 q part line.ring single did.lowest).new in
          let parts = headed-all head rs in
          let table : l.table ≡ ring_page side.ring.size q = ap (λ x. x.table) line.ring.layout in
          let now : P r = assumption
          (get_or-set_same side.sent head pages [] (omega (arith, did.small, line.keeps))) in
          let C : ℕ → Type 0 = λ p. IsCoded m2 p (buffers_page q) head pages in
          record {
            ring = requests_posted q part rs 1 pages line.ring refl did.announces;
            keeps = length-set side.sent head pages ∙ line.keeps;
            posted = All-push P rs.posted r (still_out side.ring.size n side.sent head pages rs.posted
                (omega arith) line.posted) now;
            taken = still_out side.ring.size n side.sent head pages rs.taken (omega arith) line.taken;
            done = still_out side.ring.size n side.sent head pages rs.done (omega arith) line.done;
            coded = All-push (λ (x : Request). IsCoded m2
                (ring_page side.ring.size q) (buffers_page q) x.head x.pages) rs.posted r (λ k d lt.
                let x = slice_index_or rs.posted k d in let known = line.posted k d lt in
                let code = line.coded k d lt in
                let apart : x.head ≢ head = not_headed rs.posted head k d (omega arith) lt in
                record {
                  descriptor = ap (λ (p : ℕ). descriptor_at m2 p x.head) (sym table)
                      ∙ did.descriptors x.head known.inside apart
                      ∙ ap (λ (p : ℕ). descriptor_at m1 p x.head) table ∙ code.descriptor;
                  names = names_kept m1 m2 (buffer_page (buffers_page q) x.head)
                      (buffer_offset x.head) x.pages (buffer_offset x.head + 1024) (did.rest.buffers
                      x.head known.few apart) (omega (arith, known.pages.few)) code.names;
                }) (subst C table did.coded);
            remembers = line.remembers;
          }
