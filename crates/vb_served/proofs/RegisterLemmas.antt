-- A device of plain data that has registers is alike to each device that has them.
use Rattle.std.proofs.Common.{◌≡◌, ◌∙◌, ap, sym, subst, refl, arith, inl, inr, ℕ, zero, suc, ◌+◌, ◌*◌, ◌/◌, ◌%◌, ◌<◌, ◌≤◌, ◌^◌, ◌-◌}
use Rattle.std.proofs.Common.{Bool, true, false, List, [], ◌∷◌, length, None}
use Rattle.std.proofs.lemmas.Bool.{ltb-false}
use Rattle.std.proofs.lemmas.Bool.{cases_eq, and_parts}
use Rattle.std.specs.Prelude.{not, ◌||◌, ◌&&◌, ◌==◌, nat_le, nat_lt}
use Rattle.std.specs.Int.{next_multiple_of}
use Rattle.vb_virtio.specs.declared.refusals.Refusal.TheVariants.{NoQueue, NotReady, NeedsReset, Busy}
use Rattle.vb_virtio.specs.FirstRefusal.{◌⇒◌, first_refusal}
use Rattle.vb_virtio.specs.Layout.{ring_page}
use Rattle.vb_virtio.specs.Queues.{has_chains, lacks_feature}
use Rattle.vb_virtio.specs.Status.{is_not_ready, has_fault}
use Rattle.vb_ram.specs.{Pages.Pages, Part.{Part}}
use Rattle.vb_status.specs.Bits.{feature_bits}
use Rattle.vb_ring.specs.Layout.{IsSize, IsBacked, Fits, layout_of}
use Rattle.vb_ring.proofs.Shapes.{fits_at}
use Rattle.vb_core.specs.declared.kinds.Kind.{Kind}
use Rattle.vb_core.specs.declared.kinds.Kind.TheVariants.{Inflate, Deflate, Statistics, Hint, Report}
use Rattle.vb_core.specs.declared.device.{Device.Device}
use Rattle.vb_core.specs.declared.device.Denial.TheVariants.{NoQueue as NoQueueDenied, BadArgument}
use Rattle.vb_core.specs.declared.device.Denial.TheVariants.{NotReady as NotReadyDenied}
use Rattle.vb_core.specs.declared.device.Denial.TheVariants.{NeedsReset as NeedsResetDenied, Misplaced}
use Rattle.vb_core.specs.declared.settings.TheConstants.{MEMORY_LIMIT}
use Rattle.vb_core.specs.{Kinds.{queue_of, lacks}, Settings.are_settings}
use Rattle.vb_core.specs.Rings.{has_place, is_part, is_size}
use Rattle.vb_core.specs.Devices.{ring_of, first_denial, ◌⇛◌}
use Rattle.vb_device.specs.Queues.{queue_part}
use Rattle.vb_device.specs.Conditions.{serve_refusal}
use Rattle.vb_device.specs.ServedChains.{HasRegisters, HasBeside}
use Rattle.vb_device.specs.declared.serving.{QueueRegisters.QueueRegisters}
use Rattle.vb_served.specs.{Store.Store, Alike.{AreRings}, Registers.{device_for, ring_for}}
use Rattle.vb_served.specs.Registers.{settings_for}
use Rattle.vb_served.specs.Tied.{beside}
use Rattle.vb_served.proofs.{TieLemmas.{IsTie}}
use Rattle.vb_served.proofs.AlikeLemmas.{backed_inside}
use Rattle.vb_core.specs.declared.ring.Virtqueue.{Virtqueue}
use Rattle.vb_core.specs.Settings.{page_poison}
use Rattle.vb_virtio.specs.Layout.{reserved_pages}
use Rattle.vb_virtio.specs.Queues.{Request}
use Rattle.vb_model.specs.Tables.{most_taken}
use Rattle.vb_served.specs.Alike.{address_of}
use lib.Count

-- ---- sizes

abbrev all_below : (ℕ → Bool) → ℕ → Bool
all_below p zero = true
all_below p (suc n) = p n && all_below p n

at_below : (p : ℕ → Bool) (n k : ℕ) → all_below p n ≡ true → k < n → p k ≡ true
at_below p zero k h lt = absurd (omega arith)
at_below p (suc n) k h lt = let parts = and_parts (p n) (all_below p n) h in elim (cases_eq k n) [
  | inl same ↦ ap p same ∙ parts.0
  | inr ne ↦ at_below p n k parts.1 (omega (arith, ne))
]

either : (a b : Bool) → (not a || b) ≡ true → a ≡ true → b ≡ true
either true b h e = h
either false b h e = cc

both : (a b : Bool) → a ≡ true → b ≡ true → (a && b) ≡ true
both true true x y = refl
both true false x y = absurd cc
both false b x y = absurd cc

three : (a b c : Bool) → a ≡ true → b ≡ true → c ≡ true → (a && b && c) ≡ true
three a b c x y z = both (a && b) c (both a b x y) z

all_four : (a b c d : Bool) → a ≡ true → b ≡ true → c ≡ true → d ≡ true →
    (a && b && c && d) ≡ true
all_four a b c d x y z w = both (a && b && c) d (three a b c x y z) w

-- what is computed for each size: it is one of the core's too, and the used ring is aligned
abbrev used_at : ℕ → ℕ
used_at k = next_multiple_of (16 * k + (6 + 2 * k)) 4

good : ℕ → Bool
good k = is_size k && (used_at k % 4 == 0)

test : ℕ → Bool
test k = not ((65536 % k == 0) && nat_le 2 k) || good k

tested : all_below test 257 ≡ true
unfolding test good lib.Count.ones
tested = refl

size_so : (q : ℕ) → IsSize q → (is_size q ≡ true) × ((used_at q % 4 == 0) ≡ true)
unfolding test good
size_so q is = and_parts (is_size q) (used_at q % 4 == 0) (either ((65536 % q == 0) && nat_le 2 q) (good q)
    (at_below test 257 q tested (omega (arith, is.most)))
    (both (65536 % q == 0) (nat_le 2 q) (grind (arith, is.divides)) (grind (arith, is.least))))

-- ---- the ring's place

part_so : (end at align len : ℕ) → (at % align == 0) ≡ true → at + len ≤ end →
    is_part end at align len ≡ true
part_so end at align len aligned fits =
    three (at % align == 0) (nat_le at end) (nat_le len (end - at)) aligned (grind (arith, fits))
    (grind (arith, fits))

is_zero : (n : ℕ) → n ≡ 0 → (n == 0) ≡ true
is_zero n e = grind arith

of_zero : (n : ℕ) → (n == 0) ≡ true → n ≡ 0
of_zero n e = grind arith

inside_so : (page at len n : ℕ) → page < n → at + len ≤ 4096 → 4096 * page + at + len ≤ 4096 * n
inside_so page at len n lt fits = omega (arith, lt, fits)

place_of : (r : QueueRegisters) (q : ℕ) (mem : Pages) → IsSize r.queue_size →
    IsBacked mem (layout_of (ring_page r.queue_size q) r.queue_size) →
    has_place (4096 * length mem) (ring_for r q) ≡ true
place_of r q mem size backed =
    let end = 4096 * length mem in
    let page = ring_page r.queue_size q in
    let l = layout_of page r.queue_size in
    let fits : Fits l r.queue_size = fits_at page r.queue_size size in
    let avail : ((4096 * l.avail.page + l.avail.offset) % 2 == 0) ≡ true =
    is_zero _ (even page r.queue_size) in
    let used : ((4096 * l.used.page + l.used.offset) % 4 == 0) ≡ true =
    is_zero _ (fourth page (used_at r.queue_size) (of_zero _ (size_so r.queue_size size).1)) in
    all_four (is_size r.queue_size) (is_part end (4096 * l.table) 16 (16 * r.queue_size))
    (is_part end (4096 * l.avail.page + l.avail.offset) 2 (6 + 2 * r.queue_size))
    (is_part end (4096 * l.used.page + l.used.offset) 4 (6 + 8 * r.queue_size))
    (size_so r.queue_size size).0
    (part_so end (4096 * l.table) 16 (16 * r.queue_size) (is_zero _ (sixteenth page))
    (omega (arith, backed_inside mem l.table backed.table, size.most)))
    (part_so end (4096 * l.avail.page + l.avail.offset) 2 (6 + 2 * r.queue_size) avail
    (inside_so l.avail.page l.avail.offset (6 + 2 * r.queue_size) (length mem)
    (backed_inside mem l.avail.page backed.avail) fits.avail))
    (part_so end (4096 * l.used.page + l.used.offset) 4 (6 + 8 * r.queue_size) used
    (inside_so l.used.page l.used.offset (6 + 8 * r.queue_size) (length mem)
    (backed_inside mem l.used.page backed.used) fits.used))
  where
    sixteenth : (page : ℕ) → (4096 * page) % 16 ≡ 0
    sixteenth page = omega arith

    even : (page size : ℕ) → (4096 * (page + 16 * size / 4096) + 16 * size % 4096) % 2 ≡ 0
    even page size = omega arith

    fourth : (page at : ℕ) → at % 4 ≡ 0 → (4096 * (page + at / 4096) + at % 4096) % 4 ≡ 0
    fourth page at e = omega (arith, e)

-- ---- refusals

five : (a b c d e : Bool)
    → first_refusal ((not a ⇒ NoQueue) ∷ (b ⇒ NotReady) ∷ (c ⇒ NeedsReset) ∷ (d ⇒ NoQueue) ∷ (e ⇒ Busy)
    ∷ []) ≡ None → (a ≡ true) × (b ≡ false) × (c ≡ false) × (d ≡ false) × (e ≡ false)
five true false false false false none = (refl, refl, refl, refl, refl)
five true false false false true none = absurd cc
five true false false true e none = absurd cc
five true false true d e none = absurd cc
five true true c d e none = absurd cc
five false b c d e none = absurd cc

five_so : (a b c d e : Bool) → a ≡ true → b ≡ false → c ≡ false → d ≡ false → e ≡ false →
    first_refusal ((not a ⇒ NoQueue) ∷ (b ⇒ NotReady) ∷ (c ⇒ NeedsReset) ∷ (d ⇒ NoQueue) ∷ (e ⇒ Busy)
    ∷ []) ≡ None
five_so a b c d e u v w x y = grind arith

four : (a b c d : Bool)
    → first_refusal ((not a ⇒ NoQueue) ∷ (b ⇒ NotReady) ∷ (c ⇒ NeedsReset) ∷ (d ⇒ NoQueue) ∷ []) ≡ None
    → (a ≡ true) × (b ≡ false) × (c ≡ false) × (d ≡ false)
four true false false false none = (refl, refl, refl, refl)
four true false false true none = absurd cc
four true false true d none = absurd cc
four true true c d none = absurd cc
four false b c d none = absurd cc

open_denial : (s n f l p : Bool) → s ≡ true → n ≡ false → f ≡ false → l ≡ false → p ≡ true →
    first_denial ((not true ⇛ NoQueueDenied) ∷ ((not true || not s) ⇛ BadArgument) ∷ (n ⇛ NotReadyDenied)
    ∷ (f ⇛ NeedsResetDenied) ∷ (l ⇛ NoQueueDenied) ∷ (not p ⇛ Misplaced) ∷ []) ≡ None
open_denial true false false false true a b c d e = refl
open_denial true false false false false a b c d e = absurd cc
open_denial true false false true p a b c d e = absurd cc
open_denial true false true l p a b c d e = absurd cc
open_denial true true f l p a b c d e = absurd cc
open_denial false n f l p a b c d e = absurd cc

settings_so : (size n : ℕ) → 4096 * n < MEMORY_LIMIT → are_settings (settings_for size n) ≡ true
settings_so size n lt = three (nat_lt (4096 * n) MEMORY_LIMIT) true true (grind (arith, lt)) refl refl

empty_so : {A : Type 0} (xs : List A) → nat_lt 0 (length xs) ≡ false → xs ≡ []
empty_so [] e = refl
empty_so (x ∷ xs) e = absurd (let few = ltb-false 0 (length (x ∷ xs)) e in omega (arith, few))

-- ---- the tie

-- a queue that a device of the model has is left out by the same features
lacks_so : (kind : Kind) (features : ℕ) → has_chains (queue_of kind) ≡ true →
    lacks features kind ≡ lacks_feature features (queue_of kind)
lacks_so Inflate features known = refl
lacks_so Deflate features known = refl
lacks_so Statistics features known = refl
lacks_so Hint features known = absurd cc
lacks_so Report features known = refl

-- a device is alike whose ring is the one of the registers, whatever the kind
pub ring_same : (kind : Kind) (r : QueueRegisters) (q n : ℕ) → ring_of kind (device_for r q n) ≡ ring_for r q
ring_same Inflate r q n = refl
ring_same Deflate r q n = refl
ring_same Statistics r q n = refl
ring_same Hint r q n = refl
ring_same Report r q n = refl

rings_so : (kind : Kind) (r : QueueRegisters) (p : Part) (n : ℕ) → HasRegisters r (queue_of kind) p →
    AreRings (ring_for r (queue_of kind)) (queue_of kind) p
rings_so kind r p n has =
    let q = queue_of kind in
    record {
      size = sym has.size;
      next_avail = sym has.next_avail;
      next_used = sym has.next_used;
      table = ap (λ (size : ℕ). 4096 * (layout_of (ring_page size q) size).table) (sym has.size);
      avail = ap (λ (size : ℕ). address_of (layout_of (ring_page size q) size).avail) (sym has.size);
      used = ap (λ (size : ℕ). address_of (layout_of (ring_page size q) size).used) (sym has.size);
    }

no_poison : (b : Bool) → (b && not (0 == 0)) ≡ false
no_poison true = refl
no_poison false = refl

low_ring_page : (size q : ℕ) → ring_page size q < 65536
low_ring_page size q = grind arith

pub tie_so : (kind : Kind) (r : QueueRegisters) (p : Part) (s : Store) → IsSize r.queue_size →
    IsBacked s.mem (layout_of (ring_page r.queue_size (queue_of kind)) r.queue_size) → s.loose ≡ [] →
    4096 * length s.mem < MEMORY_LIMIT → r.next_avail < 65536 → r.next_used < 65536 →
    HasRegisters r (queue_of kind) p → HasBeside (beside s) p →
    serve_refusal (queue_of kind) p ≡ None →
    IsTie kind (device_for r (queue_of kind) (length s.mem)) p s
tie_so kind r p s size backed none_loose few avail used has lie free =
    let q = queue_of kind in
    let d = device_for r q (length s.mem) in
    let (known, ready, right, there, idle) = five (has_chains q) (is_not_ready p.status)
    (has_fault p.status) (lacks_feature p.features q) (nat_lt 0 (length (queue_part q p).taken)) free in
    let none = empty_so (queue_part q p).taken idle in
    let rings : AreRings (ring_of kind d) q p =
    subst (λ (x : Virtqueue). AreRings x q p) (sym (ring_same kind r q (length s.mem)))
    (rings_so kind r p (length s.mem) has) in
    let sized : IsSize p.queue_size = subst (λ (n : ℕ). IsSize n) (sym has.size) size in
    record {
      alike = record {
        loose = sym lie.loose;
        ballooned = sym lie.ballooned;
        last = sym lie.last;
        settings = settings_so r.queue_size (length s.mem) few;
        end = refl;
        reserved = ap (λ (n : ℕ). reserved_pages n) (sym has.size);
        strict = refl;
        keeps = no_poison (page_poison (feature_bits r.features));
        status = sym has.status;
        features = sym has.features;
        ring = rings;
      };
      ready = record {
        size = sized;
        is_end = record {
          fits = fits_at (ring_page p.queue_size q) p.queue_size sized;
          page = low_ring_page p.queue_size q;
          next_avail = subst (λ (n : ℕ). n < 65536) (sym has.next_avail) avail;
          next_used = subst (λ (n : ℕ). n < 65536) (sym has.next_used) used;
        };
        backed = subst (λ (n : ℕ). IsBacked s.mem (layout_of (ring_page n q) n)) (sym has.size) backed;
        none_loose = none_loose;
        few = omega (arith, few);
      };
      open_so = open_denial (are_settings d.settings) (is_not_ready d.status) (has_fault d.status)
          (lacks d.features kind) (has_place d.settings.memory_end (ring_of kind d))
          (settings_so r.queue_size (length s.mem) few)
          (ap (λ (n : ℕ). is_not_ready n) (sym has.status) ∙ ready)
          (ap (λ (n : ℕ). has_fault n) (sym has.status) ∙ right)
          (lacks_so kind d.features known
          ∙ (ap (λ (n : ℕ). lacks_feature n q) (sym has.features) ∙ there))
          (ap (λ (x : Virtqueue). has_place (4096 * length s.mem) x) (ring_same kind r q (length s.mem))
          ∙ place_of r q s.mem size backed);
      may_take = five_so (has_chains q) (is_not_ready p.status) (has_fault p.status)
          (lacks_feature p.features q) (nat_le (most_taken q) (length (queue_part q p).taken)) known ready
          right there (ap (λ (xs : List Request). nat_le (most_taken q) (length xs)) none ∙ some_taken q);
      none_taken = none;
    }
  where
    some_taken : (q : ℕ) → nat_le (most_taken q) 0 ≡ false
    some_taken q = grind arith

-- the ring of the registers, by which the device was made
pub ring_is : (kind : Kind) (r : QueueRegisters) (q n : ℕ) (d : Device) (x : Virtqueue) →
    d ≡ device_for r q n → x ≡ ring_of kind d → x ≡ ring_for r q
ring_is kind r q n d x e f =
    f ∙ (ap (λ (y : Device). ring_of kind y) e ∙ ring_same kind r q n)

-- it is in the first pages
pub low_ring : (r : QueueRegisters) (q : ℕ) → IsSize r.queue_size → (ring_for r q).avail < 2 ^ 63
low_ring r q size = low (ring_page r.queue_size q) r.queue_size (low_ring_page r.queue_size q) size.most
  where
    low : (page size : ℕ) → page < 65536 → size ≤ 256 →
        4096 * (page + 16 * size / 4096) + 16 * size % 4096 < 2 ^ 63
    low page size lt most =
        let same : 4096 * (page + 16 * size / 4096) + 16 * size % 4096 ≡ 4096 * page + 16 * size = omega arith in
        let far : 4096 * page + 16 * size < 9223372036854775808 = omega (arith, lt, most) in
        subst (λ (n : ℕ). n < 2 ^ 63) (sym same) far
