-- A finish by a device: a request is settled, and its chain is used.
use Rattle.std.specs.Prelude.{◌≡◌, ◌%◌, false, not, [], None, Result, Ok, if◌then◌else◌}
use Rattle.std.specs.Prelude.{ℕ, ◌+◌, ◌++◌, Bool, true, List, Option, Some, Err, refl}
use Rattle.std.proofs.Common.{subst, sym}
use Rattle.vb_device.specs.Conditions.{taken_at, use_refusal}
use Rattle.{std.proofs.Common.{arith, ◌∙◌, ap}, vb_ram.specs.{Pages.Pages, Part.{Part, QueuePart}}}
use Rattle.vb_virtio.specs.Queues.{Request, is_queue_of_requests}
use Rattle.vb_virtio.specs.declared.refusals.Refusal.{Refusal}
use Rattle.vb_virtio.specs.declared.refusals.Refusal.TheVariants.{NoQueue}
use Rattle.vb_device.specs.Calls.{lost_frames, without_frames, using}
use Rattle.vb_device.specs.{Calls.{settled, FinishesBy, Uses}, BaseCalls.{taken_out, UsesChain}}
use Rattle.vb_device.specs.{BaseCalls.SettlesBy, Queues.{queue_part, with_queue, queue_end}}
use Rattle.vb_device.proofs.{LooseFrames.{all_but_loose, lost_alone}, FourQueues.at_requests}

kind_of_finish : (a : Bool) (rest : Option Refusal) → (if not a then Some NoQueue else rest) ≡ None →
    a ≡ true
kind_of_finish true rest e = refl
kind_of_finish false rest e = absurd cc

-- what the used element adds
abbrev bumped : QueuePart → QueuePart
bumped k = record k { next_used = (k.next_used + 1) % 65536 }

used_is : (q index : ℕ) (pages : List ℕ) (mem : Pages) (p : Part) → is_queue_of_requests q ≡ true →
    with_queue q (bumped (queue_part q (settled q pages (taken_out q index pages mem p))))
    (settled q pages (taken_out q index pages mem p)) ≡
    record (settled q pages (using q index p)) { loose = p.loose ++ lost_frames q pages mem }
used_is q index pages mem p known = grind (arith, at_requests)

end_settled : (q index : ℕ) (pages : List ℕ) (mem : Pages) (p : Part) → is_queue_of_requests q
    ≡ true → queue_end q (settled q pages (taken_out q index pages mem p)) ≡ queue_end q p
end_settled q index pages mem p known =
    at_requests (λ n. queue_end n (settled n pages (taken_out n index pages mem p)) ≡ queue_end n p)
    refl refl refl q known

settles : (q index : ℕ) (r : Request) (m1 m2 m3 : Pages) (p1 p2 p3 : Part)
    → is_queue_of_requests q ≡ true → p1.loose ≡ [] → m2 ≡ without_frames q r.pages m1
    → p2 ≡ settled q r.pages (taken_out q index r.pages m1 p1)
    → UsesChain q r.head m2 m3 p2 p3 → Uses q index r m1 m3 p1 p3 (Ok r.head)
settles q index r m1 m2 m3 p1 p2 p3 kind none mem part used =
    let left : p3 ≡ record (settled q r.pages (using q index p1))
    { loose = p1.loose ++ lost_frames q r.pages m1 } = used.part
    ∙ (ap (λ (p : Part). with_queue q (bumped (queue_part q p)) p) part
    ∙ used_is q index r.pages m1 p1 kind) in
    let end : queue_end q p2 ≡ queue_end q p1 =
    ap (queue_end q) part ∙ end_settled q index r.pages m1 p1 kind in record {
      answer = refl;
      part = all_but_loose _ _ left;
      loose = lost_alone p1.loose p3.loose (lost_frames q r.pages m1) none
          (ap (λ (x : Part). x.loose) left);
      memory = rw (← mem) (rw (← end) used.memory);
    }

num_err : (h : ℕ) (why : Refusal) → Ok h ≡ Err why → ⊥
num_err h why e = cc

err_num : (h : ℕ) (why : Refusal) → Err why ≡ Ok h → ⊥
err_num h why e = cc

same_head : (o : Result ℕ Refusal) (x y : ℕ) → o ≡ Ok x → o ≡ Ok y → x ≡ y
same_head o x y a b = cc

pub finishes_err : (visits : Bool) (q index : ℕ) (m1 m2 : Pages) (p1 p2 : Part) (why : Refusal)
    → visits ≡ p1.paced → SettlesBy visits q index m1 m2 p1 p2 (Err why)
    → FinishesBy q index m1 m2 p1 p2 (Err why)
finishes_err visits q index m1 m2 p1 p2 why paced did =
    let b = subst (λ (v : Bool). SettlesBy v q index m1 m2 p1 p2 (Err why)) paced did in
    record {
      refused = b.refused;
      finished = λ x e at. absurd (err_num x.head why (b.settled x e at).0);
    }

pub settled_uses : (q index : ℕ) (r : Request) (m1 m2 m3 : Pages) (p1 p2 p3 : Part) (h : ℕ)
    → use_refusal false q index p1 ≡ None → taken_at q index p1 ≡ Some r → p1.loose ≡ []
    → SettlesBy false q index m1 m2 p1 p2 (Ok h) → UsesChain q h m2 m3 p2 p3
    → Uses q index r m1 m3 p1 p3 (Ok r.head)
settled_uses q index r m1 m2 m3 p1 p2 p3 h e at none b used =
    let got = b.settled r e at in
    let head : r.head ≡ h = same_head (Ok h) r.head h got.0 refl in
    settles q index r m1 m2 m3 p1 p2 p3 (kind_of_finish (is_queue_of_requests q) _ e) none got.1
    got.2 (subst (λ (x : ℕ). UsesChain q x m2 m3 p2 p3) (sym head) used)

pub finishes_ok : (visits : Bool) (q index h : ℕ) (m1 m2 m3 : Pages) (p1 p2 p3 : Part)
    → p1.loose ≡ [] → visits ≡ p1.paced → SettlesBy visits q index m1 m2 p1 p2 (Ok h)
    → UsesChain q h m2 m3 p2 p3 → FinishesBy q index m1 m3 p1 p3 (Ok h)
finishes_ok visits q index h m1 m2 m3 p1 p2 p3 none paced did used =
    let b = subst (λ (v : Bool). SettlesBy v q index m1 m2 p1 p2 (Ok h)) paced did in record {
      refused = λ w e. absurd (num_err h w (b.refused w e).0);
      finished = λ x e at.
          let got = b.settled x e at in
          let head : x.head ≡ h = same_head (Ok h) x.head h got.0 refl in rw (← head)
          (settles q index x m1 m2 m3 p1 p2 p3 (kind_of_finish (is_queue_of_requests q) _ e) none
          got.1 got.2 (rw head used));
    }
