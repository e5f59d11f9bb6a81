-- The four queues of a device, of which one is changed, or all.
use Rattle.std.specs.Prelude.{◌≡◌, ℕ, ◌<◌, ◌≤◌, Bool, true, false, List, [], ◌∷◌, length, map, refl}
use Rattle.vb_virtio.proofs.Queues.{queue_cases}
use Rattle.vb_virtio.specs.declared.statistics.LastStatistics.{LastStatistics}
use Rattle.vb_virtio.specs.Status.{contains, driver_ok}
use Rattle.vb_virtio.specs.Queues.{has_chains, is_queue_of_requests}
use Rattle.std.proofs.Common.{◌∙◌}
use Rattle.vb_ring.specs.Layout.{IsSize}
use Rattle.std.proofs.{Common.{arith, get_or}, lemmas.List.length-map, Math.ListN.{set, length-set}}
use Rattle.{vb_ram.specs.Pages.Page, vb_device.specs.QueueState.{QueueState, new_queue, restarted}}
use Rattle.vb_ram.specs.Pages.{Pages}
use Rattle.vb_device.specs.{Queues.{queue_part, with_queue}, Base.{queue_at, IsDeviceQueue}}
use Rattle.vb_device.specs.{QueueState.part_of, Base.{index_of, new_queues, base_part, IsBase}}

-- what holds of queues 0, 1, 2 and 4 holds of each queue
pub at_each : (P : ℕ → Type 0) → P 0 → P 1 → P 2 → P 4 → (q : ℕ) → has_chains q ≡ true → P q
at_each P a b c d q known = grind (arith, queue_cases q)

-- the same of the queues on which requests are finished
pub at_requests : (P : ℕ → Type 0) → P 0 → P 1 → P 4 → (q : ℕ) → is_queue_of_requests q ≡ true → P q
at_requests P a b d q known = grind (arith, queue_cases q)

-- what holds of four queues holds of a list of that length
pub of_four : (P : List QueueState → Type 0) → ((a b c d : QueueState) → P (a ∷ b ∷ c ∷ d ∷ []))
    → (qs : List QueueState) → length qs ≡ 4 → P qs
of_four P each [] e = absurd (omega (arith, e))
of_four P each (a ∷ []) e = absurd (omega (arith, e))
of_four P each (a ∷ b ∷ []) e = absurd (omega (arith, e))
of_four P each (a ∷ b ∷ c ∷ []) e = absurd (omega (arith, e))
of_four P each (a ∷ b ∷ c ∷ d ∷ []) e = each a b c d
of_four P each (a ∷ b ∷ c ∷ d ∷ x ∷ xs) e = absurd (omega (arith, e))

-- an entry, whatever represents one that isn't there
pub entry_is : (q : ℕ) (qs : List QueueState) (x : QueueState) → length qs ≡ 4 →
    has_chains q ≡ true → get_or qs (index_of q) x ≡ queue_at q qs
entry_is q qs x four known = of_four (λ l. get_or l (index_of q) x ≡ queue_at q l)
    (λ a b c d. at_each (λ n. get_or (a ∷ b ∷ c ∷ d ∷ []) (index_of n) x ≡
    queue_at n (a ∷ b ∷ c ∷ d ∷ [])) refl refl refl refl q known) qs four

-- the last queue where the first was changed
pub last_entry : (qs : List QueueState) (x r : QueueState) → length qs ≡ 4 →
    get_or (set qs 0 x) 3 r ≡ queue_at 4 qs
last_entry qs x r four =
    of_four (λ l. get_or (set l 0 x) 3 r ≡ queue_at 4 l) (λ a b c d. refl) qs four

-- the queue that was put there
pub set_here : (q : ℕ) (qs : List QueueState) (x : QueueState) → length qs ≡ 4 →
    has_chains q ≡ true → queue_at q (set qs (index_of q) x) ≡ x
set_here q qs x four known = of_four (λ l. queue_at q (set l (index_of q) x) ≡ x)
    (λ a b c d. at_each (λ n. queue_at n (set (a ∷ b ∷ c ∷ d ∷ []) (index_of n) x) ≡ x)
    refl refl refl refl q known) qs four

-- a queue that is put back as it was
pub set_same : (q : ℕ) (qs : List QueueState) → length qs ≡ 4 → has_chains q ≡ true →
    set qs (index_of q) (queue_at q qs) ≡ qs
set_same q qs four known = of_four (λ l. set l (index_of q) (queue_at q l) ≡ l)
    (λ a b c d. at_each (λ n. set (a ∷ b ∷ c ∷ d ∷ []) (index_of n)
    (queue_at n (a ∷ b ∷ c ∷ d ∷ [])) ≡ a ∷ b ∷ c ∷ d ∷ []) refl refl refl refl q known) qs four

pub set_four : (qs : List QueueState) (i : ℕ) (x : QueueState) → length qs ≡ 4 →
    length (set qs i x) ≡ 4
set_four qs i x four = length-set qs i x ∙ four

-- a device's part of a queue
pub part_get : (q s f t a n : ℕ) (qs : List QueueState) (last : LastStatistics)
    (loose : List Page) (flags : List Bool) (paced : Bool) → has_chains q ≡ true →
    queue_part q (base_part s f t a n qs last loose flags paced) ≡ part_of (queue_at q qs)
part_get q s f t a n qs last loose flags paced known = grind (arith, at_each)

-- the part after one queue is changed
pub part_set : (q s f t a n : ℕ) (qs : List QueueState) (x : QueueState) (last : LastStatistics)
    (loose : List Page) (flags : List Bool) (paced : Bool) → length qs ≡ 4 → has_chains q ≡ true →
    base_part s f t a n (set qs (index_of q) x) last loose flags paced ≡
    with_queue q (part_of x) (base_part s f t a n qs last loose flags paced)
part_set q s f t a n qs x last loose flags paced four known =
    of_four (λ l. base_part s f t a n (set l (index_of q) x) last loose flags paced ≡
    with_queue q (part_of x) (base_part s f t a n l last loose flags paced)) (λ u v w z. at_each (λ k.
    base_part s f t a n (set (u ∷ v ∷ w ∷ z ∷ []) (index_of k) x) last loose flags paced ≡
    with_queue k (part_of x) (base_part s f t a n (u ∷ v ∷ w ∷ z ∷ []) last loose flags paced))
    refl refl refl refl q known) qs four

-- ---- what is always true of a device

-- what holds of the changed queue, and of each one still, holds of all
each_set : (P : ℕ → QueueState → Type 0) (q : ℕ) (qs : List QueueState) (x : QueueState) → length qs
    ≡ 4 → has_chains q ≡ true → P q x → ((n : ℕ) → has_chains n ≡ true → P n (queue_at n qs))
    → (n : ℕ) → has_chains n ≡ true → P n (queue_at n (set qs (index_of q) x))
each_set P q qs x four known here each =
    of_four (λ l. ((n : ℕ) → has_chains n ≡ true → P n (queue_at n l)) →
    (n : ℕ) → has_chains n ≡ true → P n (queue_at n (set l (index_of q) x)))
    (λ a b c d. λ all. at_each (λ k. P k x → (n : ℕ) → has_chains n ≡ true →
    P n (queue_at n (set (a ∷ b ∷ c ∷ d ∷ []) (index_of k) x)))
    (λ p. at_each (λ n. P n (queue_at n (x ∷ b ∷ c ∷ d ∷ [])))
    p (all 1 refl) (all 2 refl) (all 4 refl))
    (λ p. at_each (λ n. P n (queue_at n (a ∷ x ∷ c ∷ d ∷ [])))
    (all 0 refl) p (all 2 refl) (all 4 refl))
    (λ p. at_each (λ n. P n (queue_at n (a ∷ b ∷ x ∷ d ∷ [])))
    (all 0 refl) (all 1 refl) p (all 4 refl))
    (λ p. at_each (λ n. P n (queue_at n (a ∷ b ∷ c ∷ x ∷ [])))
    (all 0 refl) (all 1 refl) (all 2 refl) p) q known here) qs four each

-- one queue is changed; the others are as true as before
pub base_set : (q : ℕ) (m1 m2 : Pages) (s1 s2 n c1 c2 : ℕ) (qs : List QueueState)
    (x2 : QueueState) → IsBase m1 s1 n qs c1 → has_chains q ≡ true →
    ((k : ℕ) (x : QueueState) → IsDeviceQueue m1 s1 n k x → IsDeviceQueue m2 s2 n k x) →
    (IsDeviceQueue m1 s1 n q (queue_at q qs) → IsDeviceQueue m2 s2 n q x2) →
    (0 < length m2 → 64 ≤ length m2) → length m2 ≤ c2 → IsBase m2 s2 n (set qs (index_of q) x2) c2
base_set q m1 m2 s1 s2 n c1 c2 qs x2 b known other one large room = record {
  four = set_four qs (index_of q) x2 b.four;
  size = b.size;
  each = each_set (λ k x. IsDeviceQueue m2 s2 n k x) q qs x2 b.four known (one (b.each q known))
      (λ k is. other k (queue_at k qs) (b.each k is));
  large = large;
  room = room;
}

-- all queues are changed alike
map_four : (f : QueueState → QueueState) (qs : List QueueState) → length qs ≡ 4 → (q : ℕ) →
    has_chains q ≡ true → queue_at q (map f qs) ≡ f (queue_at q qs)
map_four f qs four q known = of_four (λ l. queue_at q (map f l) ≡ f (queue_at q l))
    (λ a b c d. at_each (λ n. queue_at n (map f (a ∷ b ∷ c ∷ d ∷ [])) ≡
    f (queue_at n (a ∷ b ∷ c ∷ d ∷ []))) refl refl refl refl q known) qs four

base_map : (f : QueueState → QueueState) (m1 m2 : Pages) (s1 s2 n c1 c2 : ℕ)
    (qs new : List QueueState) → IsBase m1 s1 n qs c1 → new ≡ map f qs →
    ((q : ℕ) (x : QueueState) → IsDeviceQueue m1 s1 n q x → IsDeviceQueue m2 s2 n q (f x)) →
    (0 < length m2 → 64 ≤ length m2) → length m2 ≤ c2 → IsBase m2 s2 n new c2
base_map f m1 m2 s1 s2 n c1 c2 qs new b e one large room = grind (arith, length-map, map_four)

-- a queue that begins anew
restarted_is : (mem : Pages) (s1 s2 n q : ℕ) (ready : Bool) (x : QueueState) →
    IsDeviceQueue mem s1 n q x → (contains s2 driver_ok ≡ true → ready ≡ true) →
    IsDeviceQueue mem s2 n q (restarted ready x)
restarted_is mem s1 s2 n q ready x is goes = search (arith)

-- the queues of a device that nobody started
new_is : (mem : Pages) (s n q : ℕ) → (contains s driver_ok ≡ true → false ≡ true)
    → IsDeviceQueue mem s n q (new_queue q n)
new_is mem s n q stopped = search (arith)

pub base_new : (mem : Pages) (s n c : ℕ) (qs : List QueueState) → qs ≡ new_queues n → IsSize n
    → (contains s driver_ok ≡ true → false ≡ true) → (0 < length mem → 64 ≤ length mem)
    → length mem ≤ c → IsBase mem s n qs c
base_new mem s n c qs e is stopped large room = rw e (record {
  four = refl;
  size = is;
  each = at_each (λ q. IsDeviceQueue mem s n q (queue_at q (new_queues n)))
      (new_is mem s n 0 stopped) (new_is mem s n 1 stopped) (new_is mem s n 2 stopped)
      (new_is mem s n 4 stopped);
  large = large;
  room = room;
})

pub base_restarted : (mem : Pages) (s1 s2 n c : ℕ) (ready : Bool) (qs new : List QueueState) →
    IsBase mem s1 n qs c → new ≡ map (restarted ready) qs →
    (contains s2 driver_ok ≡ true → ready ≡ true) → IsBase mem s2 n new c
base_restarted mem s1 s2 n c ready qs new b e goes = search (arith, base_map, restarted_is)
