-- Notices in place of a device's own calls.
use Rattle.std.proofs.Common.{◌≡◌, ◌∙◌, ap, sym, subst, refl, arith, ℕ, ◌+◌, ◌*◌, ◌%◌, ◌<◌}
use Rattle.std.proofs.Common.{Bool, true, false, [], length, Option, Some, None, Result, Ok, Err, rules}
use Rattle.std.specs.Prelude.{◌==◌, if◌then◌else◌}
use Rattle.vb_virtio.specs.declared.refusals.Refusal.{Refusal}
use Rattle.vb_virtio.specs.declared.refusals.Refusal.TheVariants.{Broken}
use Rattle.vb_virtio.specs.Layout.{ring_page}
use Rattle.vb_ram.specs.{Part.{Part, no_part, no_queue}}
use Rattle.vb_status.specs.Bits.{status_bits, feature_bits}
use Rattle.vb_chain.specs.declared.fault.ChainFault.{ChainFault}
use Rattle.vb_ring.specs.Layout.{IsSize, IsBacked, layout_of}
use Rattle.vb_request.specs.Refusals.{rule_of, take_refusal_by}
use Rattle.vb_core.specs.declared.kinds.Kind.{Kind}
use Rattle.vb_core.specs.declared.kinds.Kind.TheVariants.{Inflate, Deflate, Statistics, Hint, Report}
use Rattle.vb_core.specs.declared.device.{Denial.Denial, Device.Device}
use Rattle.vb_core.specs.declared.settings.TheConstants.{MEMORY_LIMIT}
use Rattle.vb_core.specs.{Kinds.queue_of}
use Rattle.vb_core.specs.Devices.{ring_of}
use Rattle.vb_device.specs.Queues.{with_queue}
use Rattle.vb_device.specs.Conditions.{serve_refusal}
use Rattle.vb_device.specs.Calls.{ServesBy}
use Rattle.vb_device.specs.ServedChains.{HasRegisters, HasBeside, advanced}
use Rattle.vb_device.specs.declared.serving.{QueueRegisters.QueueRegisters, ServedChain.ServedChain}
use Rattle.vb_monitor.specs.declared.outcome.Outcome.{Outcome}
use Rattle.vb_monitor.specs.Notices.{stands}
use Rattle.vb_monitor.specs.Still.{index_in}
use Rattle.vb_monitor.proofs.StillFound.{found_by}
use Rattle.vb_served.specs.{Store.Store, Registers.{device_for, ring_for}}
use Rattle.vb_served.specs.One.{ServesNext, byte, head_in}
use Rattle.vb_served.specs.Tied.{IsServedAlike, ServesKind, answer_of, beside, chain_of, held_by}
use Rattle.vb_served.specs.Tied.{reason_of, taken_by}
use Rattle.vb_served.proofs.{TieLemmas.{IsTie, next_is}, TieQueues.served_alike}
use Rattle.vb_core.specs.declared.ring.Virtqueue.{Virtqueue}
use Rattle.std.specs.Prelude.{IfSome}
use Rattle.vb_device.proofs.Serves.{serve_open}
use Rattle.vb_served.proofs.RegisterLemmas.{tie_so, ring_same}

-- ---- what is answered

next_count : (n : ℕ) → n < 65536 → ((n + 1) % 65536 == n) ≡ false
next_count n lt = grind arith

same_count : (n : ℕ) → (n == n) ≡ true
same_count n = grind arith

-- the next head, where there is one
next_found : (o : Result Bool ChainFault) (h k : ℕ) → found_by o h ≡ Ok (Some k) → h ≡ k
next_found (Ok true) h k e = cc
next_found (Ok false) h k e = absurd cc
next_found (Err f) h k e = absurd cc

answer_so : (why : Option Denial) (result : Result (Option ℕ) Refusal) (fault : ChainFault)
    (before now head : ℕ) → why ≡ reason_of result fault →
    ((refusal : Refusal) → result ≡ Err refusal → refusal ≡ Broken (rule_of fault)) →
    now ≡ taken_by result before → before < 65536 →
    ((h : ℕ) → result ≡ Ok (Some h) → head ≡ h) → answer_of why before now head ≡ result
answer_so why (Err refusal) fault before now head ends broken taken few found =
    ap (λ (o : Option Denial). answer_of o before now head) ends ∙ ap Err (sym (broken refusal refl))
answer_so why (Ok None) fault before now head ends broken taken few found =
    ap (λ (o : Option Denial). answer_of o before now head) ends
    ∙ (ap (λ (n : ℕ). answer_of None before n head) taken
    ∙ ap (λ (b : Bool). if b then Ok None else Ok (Some head)) (same_count before))
answer_so why (Ok (Some h)) fault before now head ends broken taken few found =
    ap (λ (o : Option Denial). answer_of o before now head) ends
    ∙ (ap (λ (n : ℕ). answer_of None before n head) taken
    ∙ (ap (λ (b : Bool). if b then Ok None else Ok (Some head)) (next_count before few)
    ∙ ap (λ (n : ℕ). Ok (Some n)) (found h refl)))

-- ---- a part that has these registers

abbrev stand : Kind → QueueRegisters → Store → Part
stand kind r s =
    with_queue (queue_of kind) (record no_queue { next_avail = r.next_avail; next_used = r.next_used })
    (record no_part {
      status = status_bits r.status;
      features = feature_bits r.features;
      queue_size = r.queue_size;
      ballooned = s.ballooned;
      last = s.last;
    })

stand_has : (kind : Kind) (r : QueueRegisters) (s : Store) →
    HasRegisters r (queue_of kind) (stand kind r s)
stand_has Inflate r s =
    record { status = refl; features = refl; size = refl; next_avail = refl; next_used = refl }
stand_has Deflate r s =
    record { status = refl; features = refl; size = refl; next_avail = refl; next_used = refl }
stand_has Statistics r s =
    record { status = refl; features = refl; size = refl; next_avail = refl; next_used = refl }
stand_has Hint r s =
    record { status = refl; features = refl; size = refl; next_avail = refl; next_used = refl }
stand_has Report r s =
    record { status = refl; features = refl; size = refl; next_avail = refl; next_used = refl }

stand_lies : (kind : Kind) (r : QueueRegisters) (s : Store) → s.loose ≡ [] →
    HasBeside (beside s) (stand kind r s)
stand_lies Inflate r s e = record { loose = sym e; ballooned = refl; last = refl }
stand_lies Deflate r s e = record { loose = sym e; ballooned = refl; last = refl }
stand_lies Statistics r s e = record { loose = sym e; ballooned = refl; last = refl }
stand_lies Hint r s e = record { loose = sym e; ballooned = refl; last = refl }
stand_lies Report r s e = record { loose = sym e; ballooned = refl; last = refl }

stand_open : (kind : Kind) (r : QueueRegisters) (s : Store) →
    take_refusal_by (queue_of kind) (status_bits r.status) (feature_bits r.features) ≡ None →
    serve_refusal (queue_of kind) (stand kind r s) ≡ None
stand_open Inflate r s e = serve_open 0 (stand Inflate r s) e
stand_open Deflate r s e = serve_open 1 (stand Deflate r s) e
stand_open Statistics r s e = serve_open 2 (stand Statistics r s) e
stand_open Hint r s e = absurd cc
stand_open Report r s e = serve_open 4 (stand Report r s) e

-- ---- a notice in place of a device's calls

held_below : (kind : Kind) (result : Result (Option ℕ) Refusal) (n : ℕ) →
    ((h : ℕ) → kind ≡ Statistics → result ≡ Ok (Some h) → h < n) →
    IfSome (held_by kind result) (λ head. head < n)
held_below Inflate result n below = search rules
held_below Deflate result n below = search rules
held_below Hint result n below = search rules
held_below Report result n below = search rules
held_below Statistics (Ok None) n below = search rules
held_below Statistics (Err why) n below = search rules
held_below Statistics (Ok (Some h)) n below = let lt = below h refl refl in search rules

same_served : (kind : Kind) (d : Device) (served : ServedChain) (answer : Result (Option ℕ) Refusal) →
    served.next_avail ≡ (ring_of kind d).next_avail → served.next_used ≡ (ring_of kind d).next_used →
    served.held ≡ held_by kind answer → served.answer ≡ answer → chain_of kind d answer ≡ served
same_served kind d served answer e f g h =
    sym (ap (λ (n : ℕ). record { next_avail = n; next_used = served.next_used; held = served.held; answer = served.answer }) e
    ∙ (ap (λ (n : ℕ). record { next_avail = (ring_of kind d).next_avail; next_used = n; held = served.held; answer = served.answer }) f
    ∙ (ap (λ (o : Option ℕ). record { next_avail = (ring_of kind d).next_avail; next_used = (ring_of kind d).next_used; held = o; answer = served.answer }) g
    ∙ ap (λ (x : Result (Option ℕ) Refusal). record { next_avail = (ring_of kind d).next_avail; next_used = (ring_of kind d).next_used; held = held_by kind answer; answer = x }) h)))

-- what is known of the registers and of memory
pub record IsAsked (kind : Kind) (r : QueueRegisters) (s : Store) : Type 0 where
  pub size : IsSize r.queue_size
  pub backed : IsBacked s.mem (layout_of (ring_page r.queue_size (queue_of kind)) r.queue_size)
  pub loose : s.loose ≡ []
  pub few : 4096 * length s.mem < MEMORY_LIMIT
  pub avail : r.next_avail < 65536
  pub used : r.next_used < 65536
  pub open_so : take_refusal_by (queue_of kind) (status_bits r.status) (feature_bits r.features) ≡ None

abbrev pub device_of : Kind → QueueRegisters → Store → Device
device_of kind r s = device_for r (queue_of kind) (length s.mem)

abbrev pub head_for : Kind → QueueRegisters → Store → ℕ
head_for kind r s = head_in (byte s) (ring_for r (queue_of kind))

tied : (kind : Kind) (r : QueueRegisters) (s : Store) (p : Part) → IsAsked kind r s →
    HasRegisters r (queue_of kind) p → HasBeside (beside s) p → serve_refusal (queue_of kind) p ≡ None →
    IsTie kind (device_of kind r s) p s
tied kind r s p is has lie free =
    tie_so kind r p s is.size is.backed is.loose is.few is.avail is.used has lie free

answered : (kind : Kind) (r : QueueRegisters) (d2 : Device) (outcome : Outcome) (s t : Store) (p : Part) →
    IsAsked kind r s → IsTie kind (device_of kind r s) p s →
    (u : IsServedAlike kind (device_of kind r s) d2 outcome s t p) →
    answer_of outcome.why r.next_avail (ring_of kind d2).next_avail (head_for kind r s) ≡ u.result
answered kind r d2 outcome s t p is tie u =
    let d1 = device_of kind r s in
    let same = ring_same kind r (queue_of kind) (length s.mem) in
    answer_so outcome.why u.result u.fault r.next_avail (ring_of kind d2).next_avail (head_for kind r s)
    u.ends u.broken
    (u.taken ∙ ap (λ (x : Virtqueue). taken_by u.result x.next_avail) same) is.avail
    (λ h e. ap (λ (x : Virtqueue). head_in (byte s) x) (sym same)
    ∙ next_found (stands (ring_of kind d1) (index_in (byte s) (ring_of kind d1)))
    (head_in (byte s) (ring_of kind d1)) h (sym (next_is kind d1 p s tie) ∙ u.head h e))

pub serves_kind : (kind : Kind) (r : QueueRegisters) (d2 : Device) (outcome : Outcome) (s t : Store)
    (served : ServedChain) → IsAsked kind r s → ServesNext kind (device_of kind r s) d2 outcome s t →
    served.next_avail ≡ (ring_of kind d2).next_avail → served.next_used ≡ (ring_of kind d2).next_used →
    served.held ≡ held_by kind served.answer →
    served.answer ≡ answer_of outcome.why r.next_avail (ring_of kind d2).next_avail (head_for kind r s) →
    ServesKind r (queue_of kind) s t served
serves_kind kind r d2 outcome s t served is next e f g h =
    let q = queue_of kind in
    let d1 = device_of kind r s in
    let alike : (p : Part) → IsTie kind d1 p s → IsServedAlike kind d1 d2 outcome s t p =
    λ p tie. served_alike kind d1 d2 outcome s t p tie is.few next in
    let chain : chain_of kind d2 served.answer ≡ served =
    same_served kind d2 served served.answer e f g refl in
    let here = tied kind r s (stand kind r s) is (stand_has kind r s) (stand_lies kind r s is.loose)
    (stand_open kind r s is.open_so) in
    let there = alike (stand kind r s) here in
    record {
      serves = λ p has lie free. serve_at p free (alike p (tied kind r s p is has lie free))
          (h ∙ answered kind r d2 outcome s t p is (tied kind r s p is has lie free)
          (alike p (tied kind r s p is has lie free))) chain;
      pages = there.pages;
      held = subst (λ (o : Option ℕ). IfSome o (λ head. head < r.queue_size)) (sym g)
          (held_below kind served.answer r.queue_size (λ k is_kind ok. subst (λ (n : ℕ). k < n)
          (stand_has kind r s).size (there.below k is_kind
          (sym (h ∙ answered kind r d2 outcome s t (stand kind r s) is here there) ∙ ok))));
    }
  where
    serve_at : (p : Part) → serve_refusal (queue_of kind) p ≡ None →
        (u : IsServedAlike kind (device_of kind r s) d2 outcome s t p) → served.answer ≡ u.result →
        chain_of kind d2 served.answer ≡ served →
        ServesBy (queue_of kind) s.mem t.mem p (advanced (queue_of kind) served (beside t) p) served.answer
    serve_at p free u same chain =
        let q = queue_of kind in
        let by : ServesBy q s.mem t.mem p u.part u.result = record {
          refused = λ why e. absurd (let bad : None ≡ Some why = sym free ∙ e in cc);
          serves = λ e. u.serves;
        } in
        subst (λ (c : ServedChain). ServesBy q s.mem t.mem p (advanced q c (beside t) p) c.answer) chain
        (subst (λ (x : Result (Option ℕ) Refusal). ServesBy q s.mem t.mem p
        (advanced q (chain_of kind d2 x) (beside t) p) x) (sym same)
        (subst (λ (x : Part). ServesBy q s.mem t.mem p x u.result) u.shape by))
