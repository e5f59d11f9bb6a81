-- A take by a device, from the take of its queue.
use Rattle.std.specs.Prelude.{◌≡◌, ℕ, ◌*◌, ◌+◌, List, ◌∷◌, Option, Some, None, Err, bit_or}
use Rattle.std.specs.Prelude.{Bool, true, not, ◌||◌, ◌++◌, [], length, Result, if◌then◌else◌, refl}
use Rattle.std.{specs.Prelude.{false, ◌%◌, nat_le, Ok}, proofs.Common.{arith, sym, ◌∙◌, ap, subst}}
use Rattle.{std.proofs.Math.ListN.set, vb_ram.specs.{Pages.{Page, Pages}, Part.{Part, QueuePart}}}
use Rattle.vb_virtio.specs.declared.refusals.Refusal.TheVariants.{NoQueue, NotReady, NeedsReset}
use Rattle.vb_virtio.specs.declared.refusals.Refusal.TheVariants.{Busy, Broken}
use Rattle.vb_virtio.specs.Queues.{is_queue_of_requests, lacks_feature, has_chains}
use Rattle.vb_virtio.specs.Status.{is_not_ready, has_fault, work_causes, contains, driver_ok}
use Rattle.vb_virtio.specs.Status.{failed, needs_reset}
use Rattle.vb_virtio.specs.FirstRefusal.{Cause, ◌⇒◌, first_refusal}
use Rattle.vb_virtio.specs.declared.statistics.LastStatistics.{LastStatistics}
use Rattle.vb_virtio.specs.declared.refusals.Refusal.{Refusal}
use Rattle.vb_virtio.specs.Layout.{ring_page}
use Rattle.vb_model.specs.Tables.{most_taken}
use Rattle.{vb_model.proofs.Cases.not_refused, vb_request.specs.Asked.{request_of, noted}}
use Rattle.vb_chain.specs.declared.{fault.ChainFault.ChainFault, pieces.Piece.Piece}
use Rattle.vb_chain.specs.{Table.descriptor_at, Chain.{ChainGives, FaultGives}}
use Rattle.vb_ring.specs.{declared.layout.Layout.Layout, Layout.layout_of, Entries.next_entry}
use Rattle.vb_device.specs.QueueState.{QueueState, with_request, next_of, IsChainOf, Leaves}
use Rattle.vb_device.specs.QueueState.{part_of, IsFaultOf, NextMeans, TakesNext, status_after}
use Rattle.vb_device.specs.{QueueState.is_full, Conditions.take_refusal, Calls.{TakeMeans, TakesBy}}
use Rattle.vb_device.{proofs.FromNext.KeepsRing, specs.Calls.{HasChain, HasFault, taking, noting}}
use Rattle.vb_device.specs.{Queues.{queue_part, with_queue, next_available}, Base.IsBase}
use Rattle.vb_device.specs.{Faults.{Breaks, needing_reset}, BaseCalls.queue_refusal}
use Rattle.vb_device.specs.Base.{index_of, queue_at, base_part, IsDeviceQueue}
use Rattle.vb_device.proofs.FourQueues.{at_each, part_get, part_set, set_here, set_same, base_set}
use Rattle.vb_request.specs.Refusals.{rule_of, readiness_refusal, take_refusal_by}

-- ---- refusals

same_some : (o : Option Refusal) (x y : Refusal) → o ≡ Some x → o ≡ Some y → x ≡ y
same_some o x y a b = cc

none_some : (o : Option Refusal) (x : Refusal) → o ≡ None → o ≡ Some x → ⊥
none_some o x a b = cc

-- the first causes decide where one of them holds, and else those after them do
pub first_stands : (causes more : List Cause) (why : Refusal) → first_refusal causes ≡ Some why
    → first_refusal (causes ++ more) ≡ Some why
first_stands [] more why e = absurd cc
first_stands (cause ∷ causes) more why e = grind (arith, first_stands causes more why)

pub first_passes : (causes more : List Cause) → first_refusal causes ≡ None
    → first_refusal (causes ++ more) ≡ first_refusal more
first_passes [] more e = refl
first_passes (cause ∷ causes) more e = grind (arith, first_passes causes more)

-- what a take is refused for before the taken chains are counted
abbrev pub first_causes : ℕ → ℕ → ℕ → List Cause
first_causes q s f = (not (has_chains q) ⇒ NoQueue) ∷ (is_not_ready s ⇒ NotReady)
    ∷ (has_fault s ⇒ NeedsReset) ∷ (lacks_feature f q ⇒ NoQueue) ∷ []

-- and then
abbrev last_cause : ℕ → Part → List Cause
last_cause q part = (nat_le (most_taken q) (length (queue_part q part).taken) ⇒ Busy) ∷ []

take_refused : (q : ℕ) (part : Part) (why : Refusal) →
    take_refusal_by q part.status part.features ≡ Some why → take_refusal q part ≡ Some why
take_refused q part why e =
    first_stands (first_causes q part.status part.features) (last_cause q part) why e

take_open : (q : ℕ) (part : Part) → take_refusal_by q part.status part.features ≡ None →
    take_refusal q part ≡
    (if nat_le (most_taken q) (length (queue_part q part).taken) then Some Busy else None)
take_open q part e =
    first_passes (first_causes q part.status part.features) (last_cause q part) e

pub take_known : (q s f : ℕ) → take_refusal_by q s f ≡ None → has_chains q ≡ true
take_known q s f e = let none = not_refused (first_causes q s f) e in grind arith

pub take_ready : (q s f : ℕ) → take_refusal_by q s f ≡ None → readiness_refusal s ≡ None
take_ready q s f e = let none = not_refused (first_causes q s f) e in grind arith

pub queue_known : (q s : ℕ) → queue_refusal q s ≡ None → has_chains q ≡ true
queue_known q s e =
    let none = not_refused ((not (is_queue_of_requests q) ⇒ NoQueue) ∷ work_causes s) e in grind arith

pub queue_status : (q s : ℕ) → queue_refusal q s ≡ None → readiness_refusal s ≡ None
queue_status q s e =
    let none = not_refused ((not (is_queue_of_requests q) ⇒ NoQueue) ∷ work_causes s) e in grind arith

-- a refusal of a take, which is no broken rule, is answered as it is
not_broken : (a b c d : Bool) (rule : ℕ) → first_refusal ((a ⇒ NoQueue) ∷ (b ⇒ NotReady)
    ∷ (c ⇒ NeedsReset) ∷ (d ⇒ NoQueue) ∷ []) ≡ Some (Broken rule) → ⊥
not_broken a b c d rule e = grind arith

means_refused : (q : ℕ) (mem : Pages) (part : Part) (why : Refusal)
    → take_refusal_by q part.status part.features ≡ Some why → TakeMeans q mem part part (Err why)
means_refused q mem part (Broken rule) e = absurd (not_broken (not (has_chains q))
    (is_not_ready part.status) (has_fault part.status) (lacks_feature part.features q) rule e)
means_refused q mem part why e = (take_refused q part why e, refl)

pub takes_refused : (q : ℕ) (mem : Pages) (part : Part) (why : Refusal) →
    take_refusal_by q part.status part.features ≡ Some why → TakesBy q mem mem part part (Err why)
takes_refused q mem part why e =
    let is : take_refusal q part ≡ Some why = take_refused q part why e in record {
      memory = refl;
      refused = λ other o. (ap Err (same_some (take_refusal q part) why other is o), refl);
      empty = λ o n. absurd (none_some (take_refusal q part) why o is);
      jump = λ f o n. absurd (none_some (take_refusal q part) why o is);
      fault = λ h f o n g. absurd (none_some (take_refusal q part) why o is);
      wrong = λ h pieces f o n g r. absurd (none_some (take_refusal q part) why o is);
      takes = λ h pieces pages o n g r. absurd (none_some (take_refusal q part) why o is);
      means = means_refused q mem part why e;
    }

-- ---- from the take of the queue

-- how a queue, the status and the statistics sit in a part, and how what its bytes say is the
-- queue's
pub record Sits (q : ℕ) (mem : Pages) (P : QueueState → ℕ → LastStatistics → Part)
    (x : QueueState) (s : ℕ) (l : LastStatistics) : Type 0 where
  pub refusal : take_refusal q (P x s l) ≡ (if is_full q x then Some Busy else None)
  pub size : (P x s l).queue_size ≡ x.ring.size
  pub next : next_available q mem (P x s l) ≡ next_of mem x
  pub chain : (h : ℕ) (pieces : List Piece) → HasChain q mem (P x s l) h pieces →
      IsChainOf mem x h pieces
  pub chain_back : (h : ℕ) (pieces : List Piece) → IsChainOf mem x h pieces →
      HasChain q mem (P x s l) h pieces
  pub fault : (h : ℕ) (f : ChainFault) → HasFault q mem (P x s l) h f → IsFaultOf mem x h f
  pub resets : needing_reset (P x s l) ≡ P x (bit_or s needs_reset) l
  pub takes : (h : ℕ) (pages : List ℕ) (pieces : List Piece) →
      taking q h pages (noting q mem pieces (P x s l)) ≡
      P (with_request h pages x) s (noted q mem pieces l)

is_busy : (b : Bool) (why : Refusal) → (if b then Some Busy else None) ≡ Some why →
    (b ≡ true) × (Busy ≡ why)
is_busy true why e = (refl, same_some (Some Busy) Busy why refl e)
is_busy false why e = absurd cc

not_busy : (b : Bool) → (if b then Some Busy else None) ≡ None → b ≡ false
not_busy true e = absurd cc
not_busy false e = refl

same_part : (P : QueueState → ℕ → LastStatistics → Part) (x1 x2 : QueueState) (s : ℕ)
    (l1 l2 : LastStatistics) → x2 ≡ x1 → l2 ≡ l1 → P x2 s l2 ≡ P x1 s l1
same_part P x1 x2 s l1 l2 e f = ap (λ x. P x s l2) e ∙ ap (λ l. P x1 s l) f

means_of : (q : ℕ) (mem : Pages) (P : QueueState → ℕ → LastStatistics → Part) (x1 x2 : QueueState)
    (s : ℕ) (l1 l2 : LastStatistics) (result : Result (Option ℕ) Refusal) → Sits q mem P x1 s l1
    → (is_full q x1 ≡ false → take_refusal q (P x1 s l1) ≡ None) → (is_full q x1 ≡ true
    → take_refusal q (P x1 s l1) ≡ Some Busy) → NextMeans q mem x1 x2 l1 l2 result
    → TakeMeans q mem (P x1 s l1) (P x2 (status_after result s) l2) result
means_of q mem P x1 x2 s l1 l2 (Ok None) sits free busy m =
    (free m.0, same_part P x1 x2 s l1 l2 m.1 m.2)
means_of q mem P x1 x2 s l1 l2 (Ok (Some h)) sits free busy m = (
  free m.0,
  (
    m.1.0,
    record {
      next = sits.next ∙ m.1.2;
      pieces = m.1.1;
      chain = sits.chain_back h m.1.1 m.1.3;
      request = ap (λ (n : ℕ). request_of q n mem m.1.1) sits.size ∙ m.1.4;
    },
    same_part P (with_request h m.1.0 x1) x2 s (noted q mem m.1.1 l1) l2 m.1.5 m.1.6 ∙
        sym (sits.takes h m.1.0 m.1.1),
  ),
)
means_of q mem P x1 x2 s l1 l2 (Err (Broken rule)) sits free busy m =
    (free m.0, same_part P x1 x2 (bit_or s needs_reset) l1 l2 m.1 m.2 ∙ sym sits.resets)
means_of q mem P x1 x2 s l1 l2 (Err why) sits free busy m =
    (busy m.1 ∙ ap Some (sym m.0), same_part P x1 x2 s l1 l2 m.2 m.3)

-- the part after an answer
after_is : (P : QueueState → ℕ → LastStatistics → Part) (x1 x2 : QueueState) (s : ℕ)
    (l1 l2 : LastStatistics) (result to : Result (Option ℕ) Refusal) → result ≡ to → x2 ≡ x1 →
    l2 ≡ l1 → P x2 (status_after result s) l2 ≡ P x1 (status_after to s) l1
after_is P x1 x2 s l1 l2 result to e f g =
    same_part P x1 x2 (status_after result s) l1 l2 f g ∙ ap (λ r. P x1 (status_after r s) l1) e

breaks : (P : QueueState → ℕ → LastStatistics → Part) (x1 x2 : QueueState) (s : ℕ)
    (l1 l2 : LastStatistics) (f : ChainFault) (result : Result (Option ℕ) Refusal) →
    needing_reset (P x1 s l1) ≡ P x1 (bit_or s needs_reset) l1 →
    Leaves x1 x2 l1 l2 result (Err (Broken (rule_of f))) →
    Breaks f (P x1 s l1) (P x2 (status_after result s) l2) result
breaks P x1 x2 s l1 l2 f result resets left = grind (arith, after_is)

pub takes_by : (q : ℕ) (mem : Pages) (P : QueueState → ℕ → LastStatistics → Part)
    (x1 x2 : QueueState) (s : ℕ) (l1 l2 : LastStatistics) (result : Result (Option ℕ) Refusal) →
    Sits q mem P x1 s l1 → TakesNext q mem x1 x2 l1 l2 result →
    TakesBy q mem mem (P x1 s l1) (P x2 (status_after result s) l2) result
takes_by q mem P x1 x2 s l1 l2 result sits t =
    let free : is_full q x1 ≡ false → take_refusal q (P x1 s l1) ≡ None =
    λ e. sits.refusal ∙ ap (λ b. if b then Some Busy else None) e in
    let busy : is_full q x1 ≡ true → take_refusal q (P x1 s l1) ≡ Some Busy =
    λ e. sits.refusal ∙ ap (λ b. if b then Some Busy else None) e in
    let room : take_refusal q (P x1 s l1) ≡ None → is_full q x1 ≡ false =
    λ e. not_busy (is_full q x1) (sym sits.refusal ∙ e) in record {
      memory = refl;
      refused = λ why e.
          let full = is_busy (is_full q x1) why (sym sits.refusal ∙ e) in
          let got = t.busy full.0 in
          (got.0 ∙ ap Err full.1, after_is P x1 x2 s l1 l2 result (Err Busy) got.0 got.1 got.2);
      empty = λ e n. (let got = t.empty (room e) (sym sits.next ∙ n) in (
        got.0,
        after_is P x1 x2 s l1 l2 result (Ok None) got.0 got.1 got.2,
      ));
      jump = λ f e n. breaks P x1 x2 s l1 l2 f result sits.resets
          (t.jump f (room e) (sym sits.next ∙ n));
      fault = λ h f e n gives. breaks P x1 x2 s l1 l2 f result sits.resets
          (t.fault h f (room e) (sym sits.next ∙ n) (sits.fault h f gives));
      wrong = λ h pieces f e n gives bad. breaks P x1 x2 s l1 l2 f result sits.resets
          (t.wrong h pieces f (room e) (sym sits.next ∙ n) (sits.chain h pieces gives)
          (ap (λ (k : ℕ). request_of q k mem pieces) (sym sits.size) ∙ bad));
      takes = λ h pieces pages e n gives good.
          let got = t.takes h pieces pages (room e) (sym sits.next ∙ n) (sits.chain h pieces gives)
          (ap (λ (k : ℕ). request_of q k mem pieces) (sym sits.size) ∙ good) in (
            got.0,
            after_is P (with_request h pages x1) x2 s (noted q mem pieces l1) l2 result
                (Ok (Some h)) got.0 got.1 got.2 ∙ sym (sits.takes h pages pieces),
          );
      means = means_of q mem P x1 x2 s l1 l2 result sits free busy t.means;
    }

-- ---- a queue of a device

abbrev with_at : ℕ → ℕ → ℕ → ℕ → ℕ → List QueueState → List Page → List Bool → Bool → QueueState → ℕ →
    LastStatistics → Part
with_at q f t a n qs loose flags paced x s l = base_part s f t a n (set qs (index_of q) x) l loose flags paced

-- the part of the queue that was put there
pub part_here : (q s f t a n : ℕ) (qs : List QueueState) (x : QueueState) (l : LastStatistics)
    (loose : List Page) (flags : List Bool) (paced : Bool) → length qs ≡ 4 → has_chains q ≡ true →
    queue_part q (base_part s f t a n (set qs (index_of q) x) l loose flags paced) ≡ part_of x
part_here q s f t a n qs x l loose flags paced four known = part_get q s f t a n
    (set qs (index_of q) x) l loose flags paced known ∙ ap part_of (set_here q qs x four known)

taking_two : (q h : ℕ) (pages : List ℕ) (k : QueuePart) (p : Part) → has_chains q ≡ true →
    taking q h pages (with_queue q k p) ≡ with_queue q (record k {
      next_avail = (k.next_avail + 1) % 65536;
      taken = k.taken ++ (record { head = h; pages = pages; visited = 0 } ∷ []);
    }) p
taking_two q h pages k p known = grind (arith, at_each)

takes_at_part : (q : ℕ) (mem : Pages) (s f t a n : ℕ) (qs : List QueueState) (loose : List Page) (flags : List Bool) (paced : Bool)
    (x : QueueState) (l : LastStatistics) (h : ℕ) (pages : List ℕ) (pieces : List Piece) →
    length qs ≡ 4 → has_chains q ≡ true →
    taking q h pages (noting q mem pieces (with_at q f t a n qs loose flags paced x s l)) ≡
    with_at q f t a n qs loose flags paced (with_request h pages x) s (noted q mem pieces l)
takes_at_part q mem s f t a n qs loose flags paced x l h pages pieces four known =
    let said : LastStatistics = noted q mem pieces l in
    ap (taking q h pages) (part_set q s f t a n qs x said loose flags paced four known) ∙
    (taking_two q h pages (part_of x) (base_part s f t a n qs said loose flags paced) known ∙
    sym (part_set q s f t a n qs (with_request h pages x) said loose flags paced four known))

pub sits_at : (q : ℕ) (mem : Pages) (s f t a n c : ℕ) (qs : List QueueState) (loose : List Page) (flags : List Bool) (paced : Bool)
    (l : LastStatistics) → IsBase mem s n qs c → take_refusal_by q s f ≡ None →
    Sits q mem (with_at q f t a n qs loose flags paced) (queue_at q qs) s l
sits_at q mem s f t a n c qs loose flags paced l b ok = let known : has_chains q ≡ true = take_known q s f ok in
    let x : QueueState = queue_at q qs in
    let is : IsDeviceQueue mem s n q x = b.each q known in
    let here : queue_part q (with_at q f t a n qs loose flags paced x s l) ≡ part_of x =
    part_here q s f t a n qs x l loose flags paced b.four known in record {
      refusal = take_open q (with_at q f t a n qs loose flags paced x s l) ok ∙
          ap (λ (p : QueuePart). if nat_le (most_taken q) (length p.taken) then Some Busy else None)
          here;
      size = sym is.size;
      next = ap (λ (p : QueuePart). next_entry mem (layout_of (ring_page n q) n) n p.next_avail) here ∙
          (ap (λ (y : Layout). next_entry mem y n x.ring.next_avail) (sym is.ring) ∙
          ap (λ (k : ℕ). next_entry mem x.ring.layout k x.ring.next_avail) (sym is.size));
      chain = λ h pieces g. subst
          (λ (k : ℕ). ChainGives (descriptor_at mem x.ring.layout.table) k (4096 * length mem) h
          pieces) (sym is.size)
          (subst (λ (y : Layout). ChainGives (descriptor_at mem y.table) n (4096 * length mem) h
          pieces) (sym is.ring) g);
      chain_back = λ h pieces g. subst
          (λ (y : Layout). ChainGives (descriptor_at mem y.table) n (4096 * length mem) h pieces)
          is.ring (subst (λ (k : ℕ). ChainGives (descriptor_at mem x.ring.layout.table) k
          (4096 * length mem) h pieces) is.size g);
      fault = λ h y g. subst
          (λ (k : ℕ). FaultGives (descriptor_at mem x.ring.layout.table) k (4096 * length mem) h y)
          (sym is.size)
          (subst (λ (z : Layout). FaultGives (descriptor_at mem z.table) n (4096 * length mem) h y)
          (sym is.ring) g);
      resets = refl;
      takes = λ h pages pieces.
          takes_at_part q mem s f t a n qs loose flags paced x l h pages pieces b.four known;
    }

pub takes_at : (q : ℕ) (mem : Pages) (s f t a n c : ℕ) (qs : List QueueState) (x2 : QueueState)
    (l1 l2 : LastStatistics) (loose : List Page) (flags : List Bool) (paced : Bool) (result : Result (Option ℕ) Refusal) →
    IsBase mem s n qs c → take_refusal_by q s f ≡ None →
    TakesNext q mem (queue_at q qs) x2 l1 l2 result →
    TakesBy q mem mem (base_part s f t a n qs l1 loose flags paced)
    (base_part (status_after result s) f t a n (set qs (index_of q) x2) l2 loose flags paced) result
takes_at q mem s f t a n c qs x2 l1 l2 loose flags paced result b ok takes =
    subst (λ (ys : List QueueState). TakesBy q mem mem (base_part s f t a n ys l1 loose flags paced)
    (base_part (status_after result s) f t a n (set qs (index_of q) x2) l2 loose flags paced) result)
    (set_same q qs b.four (take_known q s f ok))
    (takes_by q mem (with_at q f t a n qs loose flags paced) (queue_at q qs) x2 s l1 l2 result
    (sits_at q mem s f t a n c qs loose flags paced l1 b ok) takes)

-- ---- what stays true of a device

-- a status that doesn't refuse has DRIVER_OK
ok_of : (ok failed fault : Bool) →
    (if not ok || failed then Some NotReady else (if fault then Some NeedsReset else None)) ≡ None →
    ok ≡ true
ok_of true failed fault e = refl
ok_of false failed fault e = absurd cc

pub status_ok : (s : ℕ) → readiness_refusal s ≡ None → contains s driver_ok ≡ true
status_ok s e = ok_of (contains s driver_ok) (contains s failed) (has_fault s) e

pub base_kept : (q : ℕ) (mem : Pages) (s1 s2 n c : ℕ) (qs : List QueueState)
    (x2 : QueueState) → IsBase mem s1 n qs c → has_chains q ≡ true → contains s1 driver_ok ≡ true
    → KeepsRing mem (queue_at q qs) x2 → IsBase mem s2 n (set qs (index_of q) x2) c
base_kept q mem s1 s2 n c qs x2 b known driver k = base_set q mem mem s1 s2 n c c qs x2 b known
    (λ i x is. record {
      number = is.number;
      ring = is.ring;
      size = is.size;
      ready = λ e. is.ready driver;
      idle = is.idle;
      none = is.none;
    }) (λ is. record {
      number = k.number ∙ is.number;
      ring = k.layout ∙ is.ring;
      size = k.size ∙ is.size;
      ready = λ e. k.ready ∙ is.ready driver;
      idle = λ z. ap (λ (x : QueueState). x.ring.next_avail) (k.idle z) ∙ is.idle z;
      none = λ z. ap (λ (x : QueueState). x.taken) (k.idle z) ∙ is.none z;
    }) b.large b.room
