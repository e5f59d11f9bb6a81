-- A device that serves the next chain of a queue: what refuses it, and what a take leaves for the use.
use Rattle.std.proofs.Common.{◌≡◌, ◌∙◌, ℕ, ◌+◌, ◌%◌, Bool, true, false, List, [], ◌∷◌, ◌++◌, ap, arith}
use Rattle.std.proofs.Common.{Option, Some, None, Ok, Err, refl, subst, sym, length}
use Rattle.std.proofs.lemmas.Bool.{ltb-false}
use Rattle.std.specs.Prelude.{MatchBool, if◌then◌else◌, ◌==◌, is_none, nat_lt, not, slice_get}
use Rattle.vb_virtio.specs.FirstRefusal.{◌⇒◌, first_refusal}
use Rattle.vb_virtio.specs.Layout.{ring_page}
use Rattle.vb_virtio.specs.Queues.{Request, has_chains, is_queue_of_requests, lacks_feature}
use Rattle.vb_virtio.specs.declared.layout.TheConstants.{STATISTICS_QUEUE}
use Rattle.vb_virtio.specs.declared.refusals.Refusal.{Refusal}
use Rattle.vb_virtio.specs.declared.refusals.Refusal.TheVariants.{Busy, NeedsReset, NoQueue}
use Rattle.vb_virtio.specs.declared.refusals.Refusal.TheVariants.{NotReady, NotTaken, NotWorked}
use Rattle.vb_virtio.specs.Status.{contains, driver_ok, has_fault, is_not_ready}
use Rattle.vb_ram.specs.{Pages.Pages, Part.{Part, QueuePart}}
use Rattle.{vb_request.specs.Refusals.take_refusal_by, vb_ring.specs.Layout.{IsBacked, layout_of}}
use Rattle.vb_device.proofs.{Settles.settled_uses, TakesBy.{first_causes, first_passes, first_stands}}
use Rattle.vb_device.specs.{BaseCalls.{SettlesBy, UsesChain}, Calls.{ServesBy, Uses, UsesFirst}}
use Rattle.vb_device.specs.{Conditions.{serve_refusal, taken_at, use_refusal}, Queues.queue_layout}
use Rattle.vb_device.specs.{Queues.{queue_part, with_queue}, Takes.{TakesBy, noting, taking}}

-- ---- refusals

pub serve_refused : (q : ℕ) (part : Part) (why : Refusal)
    → take_refusal_by q part.status part.features ≡ Some why → serve_refusal q part ≡ Some why
serve_refused q part why e = first_stands (first_causes q part.status part.features)
    ((nat_lt 0 (length (queue_part q part).taken) ⇒ Busy) ∷ []) why e

pub serve_open : (q : ℕ) (part : Part) → take_refusal_by q part.status part.features ≡ None
    → serve_refusal q part
    ≡ (if nat_lt 0 (length (queue_part q part).taken) then Some Busy else None)
serve_open q part e = first_passes (first_causes q part.status part.features)
    ((nat_lt 0 (length (queue_part q part).taken) ⇒ Busy) ∷ []) e

-- ---- what a take leaves

pub record Keeps (p1 p2 : Part) : Type 0 where
  pub status : p2.status ≡ p1.status
  pub size : p2.queue_size ≡ p1.queue_size
  pub loose : p2.loose ≡ p1.loose

with_kept : (q : ℕ) (x : QueuePart) (p : Part) → Keeps p (with_queue q x p)
with_kept q x p = grind arith

-- the queue that was put there
put_there : (q : ℕ) (x : QueuePart) (p : Part) → queue_part q (with_queue q x p) ≡ x
put_there q x p = grind arith

pub take_keeps : (q h : ℕ) (m1 m2 : Pages) (p1 p2 : Part)
    → TakesBy q m1 m2 p1 p2 (Ok (Some h)) → Keeps p1 p2
take_keeps q h m1 m2 p1 p2 takes =
    let (open_so, (pages, next, is)) = takes.means in
    let kept = with_kept q _ (noting q m1 next.pieces p1) in
    record {
      status = ap (λ (p : Part). p.status) is ∙ kept.status;
      size = ap (λ (p : Part). p.queue_size) is ∙ kept.size;
      loose = ap (λ (p : Part). p.loose) is ∙ kept.loose;
    }

-- the chain that was taken is the first one
one_taken : (ts : List Request) (r : Request) → nat_lt 0 (length ts) ≡ false
    → slice_get (ts ++ (r ∷ [])) 0 ≡ Some r
one_taken [] r none = refl
one_taken (t ∷ ts) r none =
    absurd (let few = ltb-false 0 (length (t ∷ ts)) none in omega (arith, few))

pub none_before : (a b c d e : Bool)
    → first_refusal ((a ⇒ NoQueue) ∷ (b ⇒ NotReady) ∷ (c ⇒ NeedsReset) ∷ (d ⇒ NoQueue) ∷ (e ⇒ Busy)
    ∷ []) ≡ None → (a ≡ false) × (b ≡ false) × (c ≡ false) × (e ≡ false)
none_before a b c d e none = grind arith

none_then : (a b c d : Bool) → a ≡ false → b ≡ false → c ≡ false → d ≡ false
    → first_refusal ((a ⇒ NoQueue) ∷ (b ⇒ NotReady) ∷ (c ⇒ NeedsReset) ∷ (d ⇒ NotTaken)
    ∷ (false ⇒ NotWorked) ∷ []) ≡ None
none_then a b c d e f g h = grind arith

of_requests : (q : ℕ) → not (has_chains q) ≡ false → (q == STATISTICS_QUEUE) ≡ false
    → not (is_queue_of_requests q) ≡ false
of_requests q has other = grind arith

pub take_finds : (q h : ℕ) (m1 m2 : Pages) (p1 p2 : Part) → serve_refusal q p1 ≡ None
    → TakesBy q m1 m2 p1 p2 (Ok (Some h)) → (r : Request) × (taken_at q 0 p2 ≡ Some r)
take_finds q h m1 m2 p1 p2 free takes =
    let (open_so, (pages, next, is)) = takes.means in
    let none = none_before (not (has_chains q)) (is_not_ready p1.status) (has_fault p1.status)
    (lacks_feature p1.features q) (nat_lt 0 (length (queue_part q p1).taken)) free in
    let noted : Part = noting q m1 next.pieces p1 in
    let r : Request = record { head = h; pages = pages; visited = 0 } in
    let x : QueuePart = record (queue_part q noted) {
      next_avail = ((queue_part q noted).next_avail + 1) % 65536;
      taken = (queue_part q noted).taken ++ (r ∷ []);
    } in
    let there : queue_part q p2 ≡ x = ap (queue_part q) is ∙ put_there q x noted in (
      r,
      ap (λ (y : QueuePart). slice_get y.taken 0) there
          ∙ one_taken (queue_part q p1).taken r none.3,
    )

pub ready_to_use : (q h : ℕ) (m1 m2 : Pages) (p1 p2 : Part) → serve_refusal q p1 ≡ None
    → TakesBy q m1 m2 p1 p2 (Ok (Some h)) → (q == STATISTICS_QUEUE) ≡ false
    → use_refusal false q 0 p2 ≡ None
ready_to_use q h m1 m2 p1 p2 free takes other =
    let none = none_before (not (has_chains q)) (is_not_ready p1.status) (has_fault p1.status)
    (lacks_feature p1.features q) (nat_lt 0 (length (queue_part q p1).taken)) free in
    let same = (take_keeps q h m1 m2 p1 p2 takes).status in
    let found = take_finds q h m1 m2 p1 p2 free takes in
    none_then (not (is_queue_of_requests q)) (is_not_ready p2.status) (has_fault p2.status)
    (is_none (taken_at q 0 p2)) (of_requests q none.0 other)
    (ap (λ (s : ℕ). is_not_ready s) same ∙ none.1) (ap (λ (s : ℕ). has_fault s) same ∙ none.2)
    (ap (λ (o : Option Request). is_none o) found.1)

pub still_backed : (q h : ℕ) (m1 m2 : Pages) (p1 p2 : Part) → TakesBy q m1 m2 p1 p2 (Ok (Some h))
    → (contains p1.status driver_ok ≡ true → IsBacked m1 (queue_layout q p1))
    → contains p2.status driver_ok ≡ true → IsBacked m2 (queue_layout q p2)
still_backed q h m1 m2 p1 p2 takes backed ready =
    let kept = take_keeps q h m1 m2 p1 p2 takes in
    subst (λ (m : Pages). IsBacked m (queue_layout q p2)) (sym takes.memory)
    (subst (λ (n : ℕ). IsBacked m1 (layout_of (ring_page n q) n)) (sym kept.size)
    (backed (ap (λ (n : ℕ). contains n driver_ok) (sym kept.status) ∙ ready)))

-- the whole of it
pub served : (q h : ℕ) (m1 m2 m3 : Pages) (p1 p2 p3 : Part) → serve_refusal q p1 ≡ None
    → TakesBy q m1 m2 p1 p2 (Ok (Some h)) → UsesFirst q m2 m3 p2 p3
    → ServesBy q m1 m3 p1 p3 (Ok (Some h))
served q h m1 m2 m3 p1 p2 p3 free takes uses = record {
  refused = λ why e. absurd (let bad = sym free ∙ e in cc);
  serves = λ open_so. (
    p2,
    subst (λ (m : Pages). TakesBy q m1 m p1 p2 (Ok (Some h))) takes.memory takes,
    subst (λ (m : Pages). UsesFirst q m m3 p2 p3) takes.memory uses,
  );
}

-- a queue other than that of statistics
pub used_first : (q : ℕ) (r : Request) (m1 m2 m3 : Pages) (p1 p2 p3 : Part)
    → (q == STATISTICS_QUEUE) ≡ false → use_refusal false q 0 p1 ≡ None
    → taken_at q 0 p1 ≡ Some r → p1.loose ≡ [] → (h : ℕ) → SettlesBy false q 0 m1 m2 p1 p2 (Ok h)
    → UsesChain q h m2 m3 p2 p3 → UsesFirst q m1 m3 p1 p3
used_first q r m1 m2 m3 p1 p2 p3 other free at none h did used =
    subst (λ (b : Bool). MatchBool b ((m3 ≡ m1) × (p3 ≡ p1))
    ((x : Request) × (taken_at q 0 p1 ≡ Some x) × Uses q 0 x m1 m3 p1 p3 (Ok x.head))) (sym other)
    (r, at, settled_uses q 0 r m1 m2 m3 p1 p2 p3 h free at none did used)

-- what isn't refused is one that was taken
found_of : (a b c d : Bool) (o : Option Request) → first_refusal ((a ⇒ NoQueue) ∷ (b ⇒ NotReady)
    ∷ (c ⇒ NeedsReset) ∷ (is_none o ⇒ NotTaken) ∷ (d ⇒ NotWorked) ∷ []) ≡ None
    → (r : Request) × (o ≡ Some r)
found_of true b c d o e = absurd cc
found_of false true c d o e = absurd cc
found_of false false true d o e = absurd cc
found_of false false false d None e = absurd cc
found_of false false false d (Some r) e = (r, refl)

pub first_found : (q : ℕ) (part : Part) → use_refusal false q 0 part ≡ None
    → (r : Request) × (taken_at q 0 part ≡ Some r)
first_found q part e = found_of (not (is_queue_of_requests q)) (is_not_ready part.status)
    (has_fault part.status) false (taken_at q 0 part) e

-- and is settled
pub settles_so : (q : ℕ) (m1 m2 : Pages) (p1 p2 : Part) (why : Refusal)
    → use_refusal false q 0 p1 ≡ None → SettlesBy false q 0 m1 m2 p1 p2 (Err why) → ⊥
settles_so q m1 m2 p1 p2 why free did =
    let found = first_found q p1 free in
    let bad = (did.settled found.0 free found.1).0 in cc
