-- Device and model refuse the same serves, and where neither does, no take is refused.
use Rattle.std.proofs.Common.{◌≡◌, ℕ, Bool, true, false, [], ◌∷◌, length, Option, Some, None}
use Rattle.std.proofs.Common.{refl, sym, ◌∙◌, ap, subst, arith}
use Rattle.std.specs.Prelude.{◌==◌, drop, if◌then◌else◌, nat_le, nat_lt, not}
use Rattle.vb_virtio.proofs.Queues.{IsNoQueue}
use Rattle.vb_virtio.specs.FirstRefusal.{◌⇒◌, first_refusal}
use Rattle.vb_virtio.specs.Queues.{Deflating, Inflating, Kind, Reporting_free, Request}
use Rattle.vb_virtio.specs.Queues.{kind_of_queue, queue_of, has_chains, lacks_feature}
use Rattle.vb_virtio.specs.Status.{has_fault, is_not_ready}
use Rattle.vb_virtio.specs.declared.refusals.Refusal.{Refusal}
use Rattle.vb_virtio.specs.declared.refusals.Refusal.TheVariants.{Busy, NotReady, NeedsReset}
use Rattle.vb_virtio.specs.declared.refusals.Refusal.TheVariants.{NoQueue}
use Rattle.std.proofs.Common.{List}
use Rattle.vb_model.specs.Guest.{Guest, requests}
use Rattle.vb_model.specs.Refusals.{causes, negotiated, refusal_of, taken_count}
use Rattle.vb_model.specs.Tables.{serve_causes}
use Rattle.vb_model.specs.declared.calls.Call.{TheVariants.{Serve, Take}}
use Rattle.{vb_device.specs.Conditions.serve_refusal, vb_ram.specs.Part.Part}
use Rattle.vb_device.specs.{Conditions.negotiated as part_negotiated, Queues.queue_part}
use Rattle.vb_guest.proofs.{Closing.first_holds, Refusing.no_chains}
use Rattle.vb_guest.proofs.SameRefusals.{IsIdleStatus, at_both}

pub serve_same : (q : ℕ) (part : Part) (g : Guest) → part.status ≡ g.status
    → part.features ≡ g.features → length (queue_part q part).taken ≡ taken_count g q
    → serve_refusal q part ≡ refusal_of g (Serve q)
serve_same q part g status features taken = let count : ℕ = length (queue_part q part).taken in
    ap (λ (s : ℕ). first_refusal
    (serve_causes q (record { status = s; features = part.features }) count)) status ∙ ap
    (λ (f : ℕ). first_refusal (serve_causes q (record { status = g.status; features = f }) count))
    features ∙ ap (λ (n : ℕ). first_refusal (serve_causes q (negotiated g) n)) taken

pub serve_idle : (q : ℕ) (part : Part) (g : Guest) → has_chains q ≡ true → part.status ≡ g.status
    → IsIdleStatus g.status
    → (serve_refusal q part ≡ Some NotReady) × (refusal_of g (Serve q) ≡ Some NotReady)
serve_idle q part g has same down =
    let first = ap (λ (b : Bool). if not b then Some NoQueue else Some NotReady) has in
    let P : ℕ → Type 0 = λ s. serve_refusal q (record part { status = s }) ≡ Some NotReady in
    let G : ℕ → Type 0 = λ s. refusal_of (record g { status = s }) (Serve q) ≡ Some NotReady in (
      at_both P part.status (subst IsIdleStatus (sym same) down) first first,
      at_both G g.status down first first,
    )

-- where no serve is refused, no take is
abbrev chain_tests : (a b c d e : Bool) → Option Refusal
chain_tests a b c d e = first_refusal ((a ⇒ NoQueue) ∷ (b ⇒ NotReady) ∷ (c ⇒ NeedsReset)
    ∷ (d ⇒ NoQueue) ∷ (e ⇒ Busy) ∷ [])

pub none_of_them : (a b c d e : Bool) → chain_tests a b c d e ≡ None
    → (a ≡ false) × (b ≡ false) × (c ≡ false) × (d ≡ false) × (e ≡ false)
none_of_them a b c d e none = grind arith

pub all_pass : (a b c d e : Bool) → a ≡ false → b ≡ false → c ≡ false → d ≡ false → e ≡ false
    → chain_tests a b c d e ≡ None
all_pass a b c d e f g h i j = grind arith

-- none is taken where a serve isn't refused
pub none_taken : (q : ℕ) (g : Guest) → refusal_of g (Serve q) ≡ None → taken_count g q ≡ 0
none_taken q g free =
    let none = (none_of_them (not (has_chains q)) (is_not_ready g.status) (has_fault g.status)
    (lacks_feature g.features q) (nat_lt 0 (taken_count g q)) free).4 in grind arith

not_full : (q n : ℕ) → n ≡ 0 → nat_le (if q == 2 then 1 else 16) n ≡ false
not_full q n e = grind arith

pub take_free : (q : ℕ) (g : Guest) → refusal_of g (Serve q) ≡ None → refusal_of g (Take q) ≡ None
take_free q g free =
    let none = none_of_them (not (has_chains q)) (is_not_ready g.status) (has_fault g.status)
    (lacks_feature g.features q) (nat_lt 0 (taken_count g q)) free in
    all_pass (not (has_chains q)) (is_not_ready g.status) (has_fault g.status)
    (lacks_feature g.features q) (nat_le (if q == 2 then 1 else 16) (taken_count g q))
    none.0 none.1 none.2 none.3 (not_full q (taken_count g q) (none_taken q g free))

pub serve_no_queue : {q : ℕ} (g : Guest) (part : Part) → IsNoQueue q
    → (serve_refusal q part ≡ Some NoQueue) × (refusal_of g (Serve q) ≡ Some NoQueue)
serve_no_queue {q} g part h = (
  first_holds NoQueue (drop 1 (serve_causes q (part_negotiated part)
      (length (queue_part q part).taken))) (no_chains h),
  first_holds NoQueue (drop 1 (causes g (Serve q))) (no_chains h),
)

-- ---- the queue of a kind of requests

pub kind_is : (kind : Kind) → kind_of_queue (queue_of kind) ≡ Some kind
kind_is Inflating = refl
kind_is Deflating = refl
kind_is Reporting_free = refl

queue_is : (q : ℕ) (kind : Kind) → kind_of_queue q ≡ Some kind → q ≡ queue_of kind
queue_is q kind e = grind arith

count_is : (kind : Kind) (g : Guest)
    → taken_count g (queue_of kind) ≡ length (requests kind g).taken
count_is Inflating g = refl
count_is Deflating g = refl
count_is Reporting_free g = refl

empty_of : (rs : List Request) → length rs ≡ 0 → rs ≡ []
empty_of [] e = refl
empty_of (r ∷ rs) e = absurd (omega (arith, e))

pub none_at : (q : ℕ) (kind : Kind) (g : Guest) → kind_of_queue q ≡ Some kind
    → (requests kind g).taken ≡ [] → taken_count g q ≡ 0
none_at q kind g e none = ap (taken_count g) (queue_is q kind e)
    ∙ (count_is kind g ∙ ap (λ (l : List Request). length l) none)

pub at_none : (q : ℕ) (kind : Kind) (g : Guest) → kind_of_queue q ≡ Some kind
    → taken_count g q ≡ 0 → (requests kind g).taken ≡ []
at_none q kind g e zero = empty_of (requests kind g).taken
    (sym (count_is kind g) ∙ (ap (taken_count g) (sym (queue_is q kind e)) ∙ zero))
