-- What a report leaves as it is, and what counts as left in a balloon after it.
use Rattle.std.proofs.Common.{◌≡◌, ℕ, ◌+◌, ◌-◌, ◌≤◌, Bool, true, false, ◌==◌, nat_lt, nat_le, refl, ◌∙◌, arith}
use Rattle.vb_host.specs.declared.report.Report.{Report}
use Rattle.vb_host.specs.declared.seat.Seat.{Seat}
use Rattle.vb_host.specs.Promises.{HasTold}
use Rattle.vb_host.specs.Seats.{counting, heard, is_stale, left, noting, queuing, raised, served}
use Rattle.vb_host.specs.System.{Process, snapshot}
use Rattle.vb_host.proofs.Changes.{hears_follow, is_fresh}
use Rattle.vb_host.proofs.Moving.{has_told, target_same}
use Rattle.vb_host.proofs.Processes.{reports_now}
use Rattle.vb_host.proofs.Settling.{no_due}
use Rattle.vb_host.proofs.Sound.{IsKnown, after_counting, hears, and_right, believes, counts, either, le_true, lt_false, lt_true, notes}

pub heard_wanted : (turn : ℕ) (r : Report) (s : Seat) → (heard turn r s).wanted ≡ s.wanted
heard_wanted turn r s = hears (λ (x : Seat). x.wanted ≡ s.wanted) turn r s (record { granted = λ _ _ e. e; raised_to = λ _ e. e; turned = λ _ _ e. e }) refl
    (λ q. counts (λ (x : Seat). x.wanted ≡ s.wanted) q s (λ _ _. refl) (λ _. refl))

-- ---- its pages, and those outside

pages_noted : (ballooned held : ℕ) (r : Report) (s : Seat) → (noting ballooned held r s).pages + (noting ballooned held r s).outside ≤ s.pages + s.outside
pages_noted ballooned held r s = notes (λ (x : Seat). x.pages + x.outside ≤ s.pages + s.outside) ballooned held r s
    (λ e. omega (arith, le_true (left r s + r.outside + (s.ballooned - ballooned)) (s.pages + s.outside) (and_right (nat_le (s.ballooned - ballooned) (r.removed - s.removed)) _ e))) (λ _. omega arith)

pub heard_pages : (turn : ℕ) (r : Report) (s : Seat) → (heard turn r s).pages + (heard turn r s).outside ≤ s.pages + s.outside
heard_pages turn r s = hears (λ (x : Seat). x.pages + x.outside ≤ s.pages + s.outside) turn r s (record { granted = λ _ _ l. l; raised_to = λ _ l. l; turned = λ _ _ l. l }) (omega arith)
    (λ q. either (λ (x : Seat). x.pages + x.outside ≤ s.pages + s.outside) (q.deflates == s.granted) _ _ (λ _. pages_noted (q.ballooned - q.held) 0 q s) (λ _. pages_noted q.ballooned q.held q s))

-- ---- what a strict guest's deflate leaves in its balloon

held_noted : (ballooned held most : ℕ) (r : Report) (s : Seat) → held ≤ most → (noting ballooned held r s).held ≤ most
held_noted ballooned held most r s l = notes (λ (x : Seat). x.held ≤ most) ballooned held r s (λ _. l) (λ _. l)

-- it waits for no more than its process holds back
pub heard_held : (p : Process) (turn : ℕ) (s : Seat) → IsKnown p s → (heard turn (snapshot p) s).held ≤ p.held
heard_held p turn s k = either (λ (x : Seat). x.held ≤ p.held) (is_stale (snapshot p) s) _ _
    (λ e. absurd (is_fresh (snapshot p) s k.memory.granted k.memory.removed e))
    (λ _. believes (λ (q : Report). (queuing turn s (raised (snapshot p) (served (counting q s)))).held ≤ p.held) (snapshot p) s
    (λ _. after p turn (record (snapshot p) { ballooned = 0 }) s refl) (λ _. after p turn (snapshot p) s refl)) where
      after : (p : Process) (turn : ℕ) (q : Report) (s : Seat) → q.held ≡ p.held → (queuing turn s (raised (snapshot p) (served (counting q s)))).held ≤ p.held
      after p turn q s e = after_counting (λ (x : Seat). x.held ≤ p.held) turn (snapshot p) q s (record { granted = λ _ _ _. omega arith; raised_to = λ _ l. l; turned = λ _ _ l. l })
          (either (λ (x : Seat). x.held ≤ p.held) (q.deflates == s.granted) _ _ (λ _. held_noted (q.ballooned - q.held) 0 p.held q s (omega arith)) (λ _. held_noted q.ballooned q.held p.held q s (omega (arith, e))))

pub heard_deflates : (p : Process) (turn : ℕ) (s : Seat) → IsKnown p s → (heard turn (snapshot p) s).deflates ≡ p.deflates
heard_deflates p turn s k = either (λ (x : Seat). x.deflates ≡ p.deflates) (is_stale (snapshot p) s) _ _
    (λ e. absurd (is_fresh (snapshot p) s k.memory.granted k.memory.removed e))
    (λ _. believes (λ (q : Report). (queuing turn s (raised (snapshot p) (served (counting q s)))).deflates ≡ p.deflates) (snapshot p) s
    (λ _. after p turn (record (snapshot p) { ballooned = 0 }) s refl) (λ _. after p turn (snapshot p) s refl)) where
      after : (p : Process) (turn : ℕ) (q : Report) (s : Seat) → q.deflates ≡ p.deflates → (queuing turn s (raised (snapshot p) (served (counting q s)))).deflates ≡ p.deflates
      after p turn q s e = after_counting (λ (x : Seat). x.deflates ≡ p.deflates) turn (snapshot p) q s (record { granted = λ _ _ d. d; raised_to = λ _ d. d; turned = λ _ _ d. d })
          (counts (λ (x : Seat). x.deflates ≡ p.deflates) q s (λ _ _. e) (λ _. e))

left_by : (b : Bool) (p : Process) (s t : Seat) → nat_lt 0 t.held ≡ b → IsKnown p t → HasTold p s t → t.held ≤ p.held → s.uncounted ≡ 0 → p.balloon - p.held ≤ t.ballooned - t.held
left_by true p s t e k h l u =
    let w = lt_true 0 t.held e in
    let b = h.balloon u (λ same. absurd (omega (arith, same, k.memory.waiting w, k.memory.waited w))) in
    omega (arith, b, l)
left_by false p s t e k h l u = omega (arith, lt_false 0 t.held e, h.without u)

pub heard_left : (p : Process) (turn : ℕ) (s : Seat) → IsKnown p s → s.uncounted ≡ 0 → p.balloon - p.held ≤ (heard turn (snapshot p) s).ballooned - (heard turn (snapshot p) s).held
heard_left p turn s k u = let t = heard turn (snapshot p) s in
    left_by (nat_lt 0 t.held) p s t refl (hears_follow p s turn (snapshot p) k (reports_now s p k)).known (has_told p turn s k) (heard_held p turn s k) u

-- and where its driver has read the last target, that is the least
pub heard_read : (p : Process) (turn : ℕ) (s : Seat) → IsKnown p s → p.target_number ≡ s.target_number → p.read_target ≡ s.target → (heard turn (snapshot p) s).least_target ≡ s.target
heard_read p turn s k n r = (has_told p turn s k).read_target (no_due p.target_number s.target_number n) r ∙ target_same turn (snapshot p) s
