-- A queue that another hand served over a device's memory.
use Rattle.std.proofs.Common.{◌≡◌, ◌∙◌, sym, refl, arith, ℕ, ◌<◌, ◌≤◌, Bool, true, List, [], ◌∷◌, length}
use Rattle.std.proofs.Common.{Option, Some, None, Result, false, nat_lt}
use Rattle.std.specs.Prelude.{IsSome, not}
use Rattle.std.proofs.Math.ListN.{set}
use Rattle.vb_virtio.specs.Queues.{has_chains}
use Rattle.vb_virtio.specs.Queues.{lacks_feature}
use Rattle.vb_virtio.specs.Status.{contains, driver_ok, has_fault, is_not_ready}
use Rattle.vb_ring.specs.declared.layout.Layout.{Layout}
use Rattle.vb_ring.specs.Layout.{IsBacked}
use Rattle.vb_ram.specs.Part.{Part}
use Rattle.vb_device.specs.Queues.{queue_part}
use Rattle.vb_request.specs.Refusals.{take_refusal_by}
use Rattle.vb_device.specs.Conditions.{serve_refusal}
use Rattle.vb_device.proofs.Serves.{none_before, serve_refused}
use Rattle.vb_virtio.specs.declared.refusals.Refusal.{Refusal}
use Rattle.vb_virtio.specs.declared.statistics.LastStatistics.{LastStatistics}
use Rattle.vb_ram.specs.Pages.{Page, Pages, frame_at}
use Rattle.vb_device.specs.Base.{IsBase, IsDeviceQueue, base_part, index_of, numbers_of_frames}
use Rattle.vb_device.specs.Base.{queue_at}
use Rattle.vb_device.specs.QueueState.{QueueState, status_after}
use Rattle.vb_device.specs.ServedChains.{gone_on, advanced}
use Rattle.vb_device.specs.declared.serving.ServedChain.{ServedChain}
use Rattle.vb_device.proofs.FourQueues.{base_set, at_each, of_four}

ready_so : (s : ℕ) → is_not_ready s ≡ false → contains s driver_ok ≡ true
ready_so s e = grind arith

nothing : (p : ℕ) → IsSome (frame_at [] p) → ⊥
nothing p some = grind arith

-- memory with the pages of a ring has a page
pub some_memory : (m : Pages) (l : Layout) → IsBacked m l → 0 < length m
some_memory [] l backed = absurd (nothing l.table backed.table)
some_memory (page ∷ m) l backed = omega arith

-- what a serve that isn't refused is of
pub serve_known : (q : ℕ) (part : Part) → serve_refusal q part ≡ None
    → (has_chains q ≡ true) × (contains part.status driver_ok ≡ true)
serve_known q part e =
    let none = none_before (not (has_chains q)) (is_not_ready part.status) (has_fault part.status)
    (lacks_feature part.features q) (nat_lt 0 (length (queue_part q part).taken)) e in
    (grind arith, ready_so part.status none.1)

-- and is open to takes, but for those that were taken
pub serve_takes : (q : ℕ) (part : Part) → serve_refusal q part ≡ None
    → take_refusal_by q part.status part.features ≡ None
serve_takes q part none = by (take_refusal_by q part.status part.features) refl where
  by : (o : Option Refusal) → take_refusal_by q part.status part.features ≡ o → o ≡ None
  by None e = refl
  by (Some why) e = absurd (let bad : None ≡ Some why = sym none ∙ serve_refused q part why e in cc)

-- what is always true of a device holds still
pub base_served : (q x u : ℕ) (held : Option ℕ) (m1 m2 : Pages) (s1 s2 n c1 c2 : ℕ)
    (qs : List QueueState) (y : QueueState) → IsBase m1 s1 n qs c1 → has_chains q ≡ true →
    contains s1 driver_ok ≡ true → 0 < length m1 → length m2 ≡ length m1 → length m2 ≤ c2 →
    y ≡ gone_on x u held (queue_at q qs) → IsBase m2 s2 n (set qs (index_of q) y) c2
base_served q x u held m1 m2 s1 s2 n c1 c2 qs y b known driver some same room e =
    rw e (base_set q m1 m2 s1 s2 n c1 c2 qs (gone_on x u held (queue_at q qs)) b known
    (λ k z is. record {
      number = is.number;
      ring = is.ring;
      size = is.size;
      ready = λ r. is.ready driver;
      idle = λ l. is.idle (sym same ∙ l);
      none = λ l. is.none (sym same ∙ l);
    }) (λ is. record {
      number = is.number;
      ring = is.ring;
      size = is.size;
      ready = λ r. is.ready driver;
      idle = λ l. absurd (omega (arith, l, same, some));
      none = λ l. absurd (omega (arith, l, same, some));
    }) (λ l. omega (arith, same, b.large some)) room)

-- the part of its fields then
pub advanced_is : (q s s2 f t a n : ℕ) (served : ServedChain) (qs : List QueueState) (y : QueueState)
    (last1 last2 : LastStatistics) (loose1 loose2 : List Page) (flags1 flags2 : List Bool)
    (paced : Bool) → length qs ≡ 4 → has_chains q ≡ true →
    y ≡ gone_on served.next_avail served.next_used served.held (queue_at q qs) →
    s2 ≡ status_after served.answer s →
    base_part s2 f t a n (set qs (index_of q) y) last2 loose2 flags2 paced
    ≡ advanced q served (record {
      loose = numbers_of_frames loose2;
      ballooned = flags2;
      last = last2;
    }) (base_part s f t a n qs last1 loose1 flags1 paced)
advanced_is q s s2 f t a n served qs y last1 last2 loose1 loose2 flags1 flags2 paced four known e z =
    rw e (rw z (
    of_four (λ l. base_part (status_after served.answer s) f t a n (set l (index_of q)
    (gone_on served.next_avail served.next_used served.held (queue_at q l))) last2 loose2 flags2 paced
    ≡ advanced q served (record {
      loose = numbers_of_frames loose2;
      ballooned = flags2;
      last = last2;
    }) (base_part s f t a n l last1 loose1 flags1 paced)) (λ i j v w. at_each (λ k.
    base_part (status_after served.answer s) f t a n (set (i ∷ j ∷ v ∷ w ∷ []) (index_of k)
    (gone_on served.next_avail served.next_used served.held (queue_at k (i ∷ j ∷ v ∷ w ∷ [])))) last2
    loose2 flags2 paced
    ≡ advanced k served (record {
      loose = numbers_of_frames loose2;
      ballooned = flags2;
      last = last2;
    }) (base_part s f t a n (i ∷ j ∷ v ∷ w ∷ []) last1 loose1 flags1 paced))
    refl refl refl refl q known) qs four))
