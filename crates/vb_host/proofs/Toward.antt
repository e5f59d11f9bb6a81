-- A deflate that goes no deeper than what its driver has read is granted by its report.
use Rattle.std.proofs.Common.{◌≡◌, ℕ, ◌+◌, ◌≤◌, ◌<◌, Bool, true, false, ◌&&◌, ◌==◌, List, Some, refl, ◌∙◌, arith}
use Rattle.std.proofs.lemmas.Bool.Decides.{nat_tests}
use Rattle.std.specs.Prelude.{slice_get}
use Rattle.vb_host.specs.declared.report.Report.{Report}
use Rattle.vb_host.specs.declared.seat.Seat.{Seat}
use Rattle.vb_host.specs.Promises.{IsTowardTarget}
use Rattle.vb_host.specs.Seats.{asked, believed, waits, covers, served, holding, is_news, remembered, counting, raised, queuing, is_stale, heard, taken_over, queued}
use Rattle.vb_host.specs.System.{Process, Guest, Step, snapshot, opened, through}
use Rattle.vb_host.proofs.Budget.{opened_safe, run_true}
use Rattle.vb_host.proofs.Changes.{is_fresh}
use Rattle.vb_host.proofs.Lists.{all_get}
use Rattle.vb_host.proofs.Shown.{news, seen_all}
use Rattle.vb_host.proofs.Sound.{believes, counts, either, eq_true, notes, queues, IsTrusty}

pub covers_by : (s : Seat) → waits s ≡ true → asked s ≡ 0 → covers s ≡ true
covers_by s w e = grind (arith, nat_tests)

pub waits_by : (s : Seat) → 0 < s.held → waits s ≡ true
waits_by s w = grind (arith, nat_tests)

asks_none : (s : Seat) → s.least_target + s.held ≤ s.ballooned → asked s ≡ 0
asks_none s l = either (λ (n : ℕ). n ≡ 0) (waits s) _ _ (λ _. omega arith) (λ _. refl)

covered_by : (s : Seat) → 0 < s.held → s.least_target + s.held ≤ s.ballooned → covers s ≡ true
covered_by s w l = covers_by s (waits_by s w) (asks_none s l)

pub asks_empty : (s : Seat) → s.ballooned ≡ 0 → asked s ≡ 0
asks_empty s e = either (λ (n : ℕ). n ≡ 0) (waits s) _ _ (λ _. omega (arith, e)) (λ _. refl)

covered_empty : (r : Report) (s : Seat) → 0 < r.held → s.granted < r.deflates → s.ballooned ≡ 0 → covers (counting (record r { ballooned = 0 }) s) ≡ true
covered_empty r s w g e = either (λ (x : Seat). covers x ≡ true) (r.deflates == s.granted) _ _ (λ t. absurd (omega (arith, eq_true r.deflates s.granted t)))
    (λ _. notes (λ (x : Seat). covers x ≡ true) 0 r.held (record r { ballooned = 0 }) s
    (λ _. let x = holding r.held (record r { ballooned = 0 }) (remembered 0 (record r { ballooned = 0 }) s) in covers_by x (waits_by x w) (asks_empty x refl))
    (λ _. let x = holding r.held (record r { ballooned = 0 }) s in covers_by x (waits_by x w) (asks_empty x e)))

covered_report : (r : Report) (s : Seat) → 0 < r.held → s.granted < r.deflates → s.least_target + r.held ≤ r.ballooned → is_news r.ballooned r s ≡ true → covers (counting r s) ≡ true
covered_report r s w g l n = either (λ (x : Seat). covers x ≡ true) (r.deflates == s.granted) _ _ (λ t. absurd (omega (arith, eq_true r.deflates s.granted t)))
    (λ _. notes (λ (x : Seat). covers x ≡ true) r.ballooned r.held r s (λ _. covered_by (holding r.held r (remembered r.ballooned r s)) w l)
    (λ f. absurd (not_so (is_news r.ballooned r s) n f))) where
      not_so : (c : Bool) → c ≡ true → c ≡ false → ⊥
      not_so c e f = absurd (cc)

covered_believed : (r : Report) (s : Seat) → 0 < r.held → s.granted < r.deflates → s.least_target + r.held ≤ r.ballooned → (0 < s.uncounted → s.ballooned ≡ 0) → is_news r.ballooned r s ≡ true
    → covers (counting (believed s r) s) ≡ true
covered_believed r s w g l e n = believes (λ (q : Report). covers (counting q s) ≡ true) r s (λ u. covered_empty r s w g (e u)) (λ _. covered_report r s w g l n)

count_of : (r : Report) (s : Seat) → (counting r s).deflates ≡ r.deflates
count_of r s = counts (λ (x : Seat). x.deflates ≡ r.deflates) r s (λ _ _. refl) (λ _. refl)

believed_count : (r : Report) (s : Seat) → (counting (believed s r) s).deflates ≡ r.deflates
believed_count r s = believes (λ (q : Report). (counting q s).deflates ≡ r.deflates) r s (λ _. count_of (record r { ballooned = 0 }) s) (λ _. count_of r s)

served_covered : (s : Seat) → covers s ≡ true → (served s).granted ≡ s.deflates
served_covered s e = either (λ (x : Seat). x.granted ≡ s.deflates) (covers s) _ _ (λ _. refl) (λ f. absurd (cc))

raised_granted : (r : Report) (s : Seat) → (raised r s).granted ≡ s.granted
raised_granted r s = either (λ (x : Seat). x.granted ≡ s.granted) ((r.target_number == s.target_number) && (r.read_target == s.target)) _ _ (λ _. refl) (λ _. refl)

queued_granted : (turn : ℕ) (old s : Seat) → (queuing turn old s).granted ≡ s.granted
queued_granted turn old s = queues (λ (x : Seat). x.granted ≡ s.granted) turn old s refl (λ _. refl)

-- what a report asks for that is lent already is granted
pub granted_at_once : (turn : ℕ) (r : Report) (s : Seat) → 0 < r.held → s.granted < r.deflates → s.removed ≤ r.removed → s.least_target + r.held ≤ r.ballooned
    → (0 < s.uncounted → s.ballooned ≡ 0) → is_news r.ballooned r s ≡ true → (heard turn r s).granted ≡ r.deflates
granted_at_once turn r s w g x l u n = let q = believed s r in either (λ (t : Seat). t.granted ≡ r.deflates) (is_stale r s) _ _ (λ t. absurd (is_fresh r s (omega (arith, g)) x t))
    (λ _. queued_granted turn s (raised r (served (counting q s))) ∙ (raised_granted r (served (counting q s)) ∙ (served_covered (counting q s) (covered_believed r s w g l u n) ∙ believed_count r s)))

pub toward_never_waits : (frames overdraft : ℕ) (sizes : List ℕ) (steps : List Step) (n turn : ℕ) (g : Guest)
    → slice_get (through steps (opened frames overdraft sizes)).guests n ≡ Some g → g.strict ≡ true → IsTowardTarget g
    → (heard turn (snapshot g.process) g.seat).granted ≡ g.process.deflates
toward_never_waits frames overdraft sizes steps n turn g e strict t =
    let known = (all_get IsTrusty _ n g (run_true (opened frames overdraft sizes) steps (opened_safe frames overdraft sizes).each) e strict).known in
    granted_at_once turn (snapshot g.process) g.seat t.holds t.waits known.memory.removed (omega (arith, t.no_deeper, known.targets.least_read)) known.empty
    (news g.process g.process.balloon g.seat known (seen_all g.process g.seat known))

-- and by the first report to a later lender
pub toward_later : (p : Process) (turn : ℕ) → 0 < p.held → p.read_target + p.held ≤ p.balloon → covers (queued turn (taken_over p.pages (snapshot p))) ≡ true
toward_later p turn w l = covered_by (taken_over p.pages (snapshot p)) w (omega (arith, l))
