-- A notice in which nothing is served is a take that finds nothing, or a broken rule.
use Rattle.std.proofs.Common.{◌≡◌, ◌∙◌, ap, sym, subst, refl, arith, ℕ, ◌*◌, ◌/◌, ◌≤◌}
use Rattle.std.proofs.Common.{Bool, List, [], ◌∷◌, ◌++◌, length, Option, Some, None}
use Rattle.std.proofs.Common.{Result, Ok, Err}
use Rattle.std.specs.Prelude.{slice_get}
use Rattle.vb_virtio.specs.Layout.{reserved_pages, ring_page}
use Rattle.vb_virtio.specs.Queues.{Request}
use Rattle.vb_virtio.specs.declared.refusals.Refusal.{Refusal}
use Rattle.vb_virtio.specs.declared.refusals.Refusal.TheVariants.{Broken}
use Rattle.vb_ram.specs.{Pages.{end_of}, Part.Part}
use Rattle.vb_chain.specs.declared.{fault.ChainFault.{ChainFault, TheVariants.IndexJump}, pieces.Piece.Piece}
use Rattle.vb_chain.specs.{Chain.{ChainGives, FaultGives}, Table.descriptor_at}
use Rattle.vb_request.specs.{Refusals.rule_of}
use Rattle.vb_core.specs.declared.kinds.Kind.{Kind}
use Rattle.vb_core.specs.declared.device.{Device.Device}
use Rattle.vb_core.specs.Kinds.{queue_of}
use Rattle.vb_core.specs.Devices.{ring_of, needing_reset, queue_denial}
use Rattle.vb_core.specs.Settings.{memory_pages}
use Rattle.vb_served.proofs.ChainAgreement.{same_chain, same_break}
use Rattle.vb_device.specs.Calls.{HasChain, HasFault, TakesBy}
use Rattle.vb_device.specs.{Conditions.take_refusal, Queues.{queue_part, next_available}}
use Rattle.vb_device.specs.Faults.{needing_reset as part_needing_reset}
use Rattle.vb_monitor.specs.declared.outcome.Outcome.{Outcome}
use Rattle.vb_monitor.specs.Chains.{memory_end}
use Rattle.vb_monitor.proofs.WithinLemmas.{fault_of_small}
use Rattle.vb_monitor.specs.Notices.{stands}
use Rattle.vb_monitor.specs.Still.{index_in}
use Rattle.vb_served.specs.{Store.Store, Alike.{IsAlike}, Tied.{IsServedAlike, held_by}}
use Rattle.vb_device.specs.ServedChains.{with_held}
use Rattle.vb_served.proofs.ShapeLemmas.{shape_so, put_same, put_reset}
use Rattle.vb_core.specs.declared.kinds.Kind.TheVariants.{Inflate, Deflate, Statistics, Hint, Report}
use Rattle.vb_served.specs.One.{byte, head_in, descriptor_in, Leaves, BreaksRule, NextGives, NextFault}
use Rattle.vb_monitor.proofs.StillFound.{found_by}
use Rattle.vb_served.proofs.WordLemmas.{same_next, same_table}
use Rattle.vb_served.proofs.TakeLemmas.{takes_none}
use Rattle.vb_served.proofs.{AlikeLemmas.reset_alike, UsedRequests.IsReady, RequestLemmas.IsStrict}

-- the two devices are alike, and the kind's queue isn't refused, and none of its chains is taken
pub record IsTie (kind : Kind) (d1 : Device) (p1 : Part) (s : Store) : Type 0 where
  pub alike : IsAlike kind d1 p1 s
  pub ready : IsReady (queue_of kind) p1 s
  pub open_so : queue_denial kind d1 ≡ None
  pub may_take : take_refusal (queue_of kind) p1 ≡ None
  pub none_taken : (queue_part (queue_of kind) p1).taken ≡ []

pub pages_so : (kind : Kind) (d : Device) (p : Part) (s : Store) → IsAlike kind d p s →
    memory_pages d.settings ≡ length s.mem
pages_so kind d p s a =
    let whole : 4096 * length s.mem / 4096 ≡ length s.mem = omega arith in
    ap (λ (n : ℕ). n / 4096) a.end ∙ whole

pub strict_so : (kind : Kind) (d : Device) (p : Part) (s : Store) → IsAlike kind d p s →
    IsStrict d s (reserved_pages p.queue_size)
strict_so kind d p s a =
    record { skipping = a.strict; reserved_so = a.reserved; pages = pages_so kind d p s a }

end_is : (kind : Kind) (d : Device) (p : Part) (s : Store) → IsAlike kind d p s → memory_end d ≡ end_of s.mem
end_is kind d p s a = ap (λ (n : ℕ). 4096 * n) (pages_so kind d p s a)

-- ---- what is next

pub next_is : (kind : Kind) (d : Device) (p : Part) (s : Store) → IsTie kind d p s →
    next_available (queue_of kind) s.mem p
    ≡ found_by (stands (ring_of kind d) (index_in (byte s) (ring_of kind d)))
    (head_in (byte s) (ring_of kind d))
next_is kind d p s tie =
    same_next s.mem (ring_of kind d) (queue_of kind) p tie.ready.size tie.alike.ring

pub found_so : (kind : Kind) (d : Device) (p : Part) (s : Store) (o : Result Bool ChainFault) →
    IsTie kind d p s → stands (ring_of kind d) (index_in (byte s) (ring_of kind d)) ≡ o →
    next_available (queue_of kind) s.mem p ≡ found_by o (head_in (byte s) (ring_of kind d))
found_so kind d p s o tie e = next_is kind d p s tie
    ∙ ap (λ (x : Result Bool ChainFault). found_by x (head_in (byte s) (ring_of kind d))) e

pub chain_so : (kind : Kind) (d : Device) (p : Part) (s : Store) (pieces : List Piece) →
    IsTie kind d p s → NextGives (byte s) (ring_of kind d) (memory_end d) pieces →
    HasChain (queue_of kind) s.mem p (head_in (byte s) (ring_of kind d)) pieces
chain_so kind d p s pieces tie gives =
    let r = ring_of kind d in
    let h = head_in (byte s) r in
    same_chain (descriptor_in (byte s) r) (descriptor_at s.mem (ring_page p.queue_size (queue_of kind)))
    p.queue_size (end_of s.mem) h pieces
    (same_table s.mem r (queue_of kind) p tie.ready.size tie.alike.ring)
    (subst (λ (n : ℕ). ChainGives (descriptor_in (byte s) r) n (end_of s.mem) h pieces)
    tie.alike.ring.size
    (subst (λ (n : ℕ). ChainGives (descriptor_in (byte s) r) r.size n h pieces)
    (end_is kind d p s tie.alike) gives.gives))

-- a queue of the guest has 256 descriptors at most
few_so : (kind : Kind) (d : Device) (p : Part) (s : Store) → IsTie kind d p s →
    (ring_of kind d).size ≤ 256
few_so kind d p s tie =
    let size = tie.alike.ring.size in let most = tie.ready.size.most in omega (arith, size, most)

pub fault_so : (kind : Kind) (d : Device) (p : Part) (s : Store) (fault : ChainFault) →
    IsTie kind d p s → NextFault (byte s) (ring_of kind d) (memory_end d) fault →
    HasFault (queue_of kind) s.mem p (head_in (byte s) (ring_of kind d)) fault
fault_so kind d p s fault tie gives =
    let r = ring_of kind d in
    let h = head_in (byte s) r in
    same_break (descriptor_in (byte s) r) (descriptor_at s.mem (ring_page p.queue_size (queue_of kind)))
    p.queue_size (end_of s.mem) h fault
    (same_table s.mem r (queue_of kind) p tie.ready.size tie.alike.ring)
    (subst (λ (n : ℕ). FaultGives (descriptor_in (byte s) r) n (end_of s.mem) h fault)
    tie.alike.ring.size
    (subst (λ (n : ℕ). FaultGives (descriptor_in (byte s) r) r.size n h fault)
    (end_is kind d p s tie.alike)
    (fault_of_small (descriptor_in (byte s) r) r.size (memory_end d) h fault
    (few_so kind d p s tie) gives)))

-- the head that a notice used is the next one
pub heads_so : {E F : Type 0} (o : Result (Option ℕ) F) (h k : ℕ) → o ≡ Ok (Some h) →
    ◌≡◌ {A = Result (Option ℕ) E} (Ok (Some h)) (Ok (Some k)) → o ≡ Ok (Some k)
heads_so o h k next e = let same : h ≡ k = cc in next ∙ ap (λ (x : ℕ). Ok (Some x)) same

-- ---- nothing is served

pub none_tied : (kind : Kind) (d1 d2 : Device) (outcome : Outcome) (s t : Store) (p1 : Part) →
    IsTie kind d1 p1 s → next_available (queue_of kind) s.mem p1 ≡ Ok None →
    Leaves d1 d2 outcome.why None s t → IsServedAlike kind d1 d2 outcome s t p1
none_tied kind d1 d2 outcome s t p1 tie next left =
    let alike = subst (λ (x : Store). IsAlike kind d2 p1 x) (sym left.memory)
    (subst (λ (x : Device). IsAlike kind x p1 s) (sym left.device) tie.alike) in
    record {
      part = p1;
      result = Ok None;
      fault = IndexJump;
      serves = (
        p1,
        takes_none (queue_of kind) s.mem p1 tie.may_take next,
        (ap (λ (x : Store). x.mem) left.memory, refl),
      );
      ends = left.ends;
      broken = λ refusal e. absurd cc;
      held = λ head kind_so e. absurd cc;
      alike = alike;
      shape = shape_so kind d2 p1 p1 t (Ok None) alike (put_same kind p1) (none_held kind) refl;
      taken = ap (λ (x : Device). (ring_of kind x).next_avail) left.device;
      pages = ap (λ (x : Store). length x.mem) left.memory;
      head = λ h e. absurd cc;
      below = λ h is e. absurd cc;
    }
  where
    none_held : (kind : Kind) → (queue_part (queue_of kind) p1).taken
        ≡ with_held (held_by kind (Ok None)) (queue_part (queue_of kind) p1).taken
    none_held Inflate = refl
    none_held Deflate = refl
    none_held Statistics = refl
    none_held Hint = refl
    none_held Report = refl

pub broken_tied : (kind : Kind) (d1 d2 : Device) (outcome : Outcome) (s t : Store) (p1 : Part)
    (fault : ChainFault) → IsTie kind d1 p1 s →
    TakesBy (queue_of kind) s.mem s.mem p1 (part_needing_reset p1) (Err (Broken (rule_of fault))) →
    BreaksRule fault d1 d2 outcome.why s t → IsServedAlike kind d1 d2 outcome s t p1
broken_tied kind d1 d2 outcome s t p1 fault tie takes left =
    let alike = subst (λ (x : Store). IsAlike kind d2 (part_needing_reset p1) x) (sym left.memory)
    (subst (λ (x : Device). IsAlike kind x (part_needing_reset p1) s) (sym left.device)
    (reset_alike kind d1 p1 s tie.alike)) in
    record {
      part = part_needing_reset p1;
      result = Err (Broken (rule_of fault));
      fault = fault;
      serves = (
        part_needing_reset p1,
        takes,
        (ap (λ (x : Store). x.mem) left.memory, refl),
      );
      ends = left.ends;
      broken = λ refusal e. same refusal (rule_of fault) e;
      held = λ head kind_so e. absurd cc;
      alike = alike;
      shape = shape_so kind d2 (part_needing_reset p1) p1 t (Err (Broken (rule_of fault))) alike
          (put_reset kind p1) (still_taken kind) refl;
      taken = ap (λ (x : Device). (ring_of kind x).next_avail) left.device ∙ reset_count kind d1;
      pages = ap (λ (x : Store). length x.mem) left.memory;
      head = λ h e. absurd cc;
      below = λ h is e. absurd cc;
    }
  where
    same : (refusal : Refusal) (rule : ℕ) → ◌≡◌ {A = Result (Option ℕ) Refusal} (Err (Broken rule))
        (Err refusal) → refusal ≡ Broken rule
    same refusal rule e = cc

    still_taken : (kind : Kind) → (queue_part (queue_of kind) (part_needing_reset p1)).taken
        ≡ with_held (held_by kind (Err (Broken (rule_of fault)))) (queue_part (queue_of kind) p1).taken
    still_taken Inflate = refl
    still_taken Deflate = refl
    still_taken Statistics = refl
    still_taken Hint = refl
    still_taken Report = refl

    reset_count : (kind : Kind) (d : Device) → (ring_of kind (needing_reset d)).next_avail
        ≡ (ring_of kind d).next_avail
    reset_count Inflate d = refl
    reset_count Deflate d = refl
    reset_count Statistics d = refl
    reset_count Hint d = refl
    reset_count Report d = refl

-- the first of the taken ones
pub first_taken : (ts : List Request) (r : Request) → ts ≡ [] → slice_get (ts ++ (r ∷ [])) 0 ≡ Some r
first_taken ts r e = ap (λ (xs : List Request). slice_get (xs ++ (r ∷ [])) 0) e
