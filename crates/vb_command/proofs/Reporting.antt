-- The lines of a run of guests on threads, and how many calls its scripts have.
use Rattle.std.proofs.Common.{◌≡◌, sym, ap, ◌∙◌, subst, ℕ, suc, zero, ◌+◌, ◌*◌, ◌<◌, ◌≤◌}
use Rattle.std.proofs.Common.{Bool, true, List, [], ◌∷◌, ◌++◌, length, get_or, take, arith, sum_by}
use Rattle.std.{proofs.Common.{add-one, drop}, specs.Prelude.{◌==◌, ◌&&◌, nat_le}}
use Rattle.std.specs.{List.list_all, declared.vec.Vec.Vec, declared.alloc.Global.Global}
use Rattle.std.proofs.lemmas.Bool.{and_parts, Decides.nat_tests}
use Rattle.std.proofs.lemmas.List.{append_assoc, append-nil, take-append-drop}
use Rattle.std.proofs.lemmas.List.Folds.{list_all-append, list_all_more}
use Rattle.std.proofs.lemmas.List.Sums.{sum_by-cons, sum_by-take-le, sum_by_more}
use Rattle.vb_virtio.specs.Limits.{is_config}
use Rattle.vb_model.specs.declared.calls.Call.{Call}
use Rattle.vb_ram.proofs.Limits.{config_limits}
use Rattle.vb_run.specs.Plans.{are_scripts, is_guest_plan, is_script, may_stand}
use Rattle.vb_run.specs.declared.plan.{GuestPlan.GuestPlan, TheConstants.MAX_SCRIPT_CALLS}
use Rattle.vb_run.specs.declared.report.GuestReport.{GuestReport}
use Rattle.vb_command.specs.Threads.{calls_of, guest_line, guest_lines}

is_below : (a b : ℕ) → nat_le a b ≡ true → a ≤ b
is_below a b h = grind (arith, nat_tests, h)

is_equal : (a b : ℕ) → (a == b) ≡ true → a ≡ b
is_equal a b h = grind (arith, nat_tests, h)

scripts_bounded : (cpu : ℕ) (scripts : List (Vec Call Global)) → are_scripts cpu scripts ≡ true
    → sum_by (λ script. length script.items) scripts ≤ 100_000 * length scripts
scripts_bounded cpu [] h = omega arith
scripts_bounded cpu (script ∷ scripts) h =
    let parts = and_parts (is_script cpu script.items) (are_scripts (suc cpu) scripts) h in
    let own = and_parts (nat_le (length script.items) MAX_SCRIPT_CALLS)
    (list_all (may_stand cpu) script.items) parts.0 in
    let few : length script.items ≤ 100_000 = is_below _ _ own.0 in
    let rest = scripts_bounded (suc cpu) scripts parts.1 in
    let all = sum_by-cons (λ (s : Vec Call Global). length s.items) script scripts in
    omega (arith, few, rest, all)

-- four processors at most, and 100,000 calls each
pub calls_bounded : (plan : GuestPlan) → is_guest_plan plan ≡ true → calls_of plan ≤ 400_000
calls_bounded plan h = let c = plan.config in
    let outer = and_parts (is_config c.pages c.queue_size c.processors)
    ((length plan.scripts.items == c.processors) && are_scripts 0 plan.scripts.items) h in
    let inner = and_parts (length plan.scripts.items == c.processors)
    (are_scripts 0 plan.scripts.items) outer.1 in
    let four = (config_limits c.pages c.queue_size c.processors outer.0).processors_most in
    let count : length plan.scripts.items ≡ c.processors = is_equal _ _ inner.0 in
    let all = scripts_bounded 0 plan.scripts.items inner.1 in omega (arith, four, count, all)

-- so are those of one script more
pub one_more_script : (plan : GuestPlan) (i : ℕ) (script : Vec Call Global) → is_guest_plan plan
    ≡ true → i < length plan.scripts.items → get_or plan.scripts.items i script ≡ script
    → sum_by (λ s. length s.items) (take i plan.scripts.items) + length script.items ≤ 400_000
one_more_script plan i script h lt is = let f = λ (s : Vec Call Global). length s.items in
    let more = sum_by_more f plan.scripts.items i script lt in
    let same : f (get_or plan.scripts.items i script) ≡ length script.items = ap f is in
    omega (arith, more, same, sum_by-take-le f plan.scripts.items (i + 1), calls_bounded plan h)

lines_next : (first i : ℕ) (plans : List GuestPlan) (reports : List GuestReport)
    (plan : GuestPlan) (report : GuestReport) → i < length plans → length reports ≡ length plans
    → guest_lines first (take (suc i) plans) (take (suc i) reports)
    ≡ guest_lines first (take i plans) (take i reports)
    ++ guest_line (first + i) (calls_of (get_or plans i plan))
    (length (get_or reports i report).frames.items)
lines_next first i [] reports plan report lt same = absurd (omega (arith, lt))
lines_next first i (p ∷ ps) [] plan report lt same = absurd (omega (arith, same))
lines_next first zero (p ∷ ps) (r ∷ rs) plan report lt same =
    let at : first ≡ first + 0 = omega arith in
    append-nil _ ∙ ap (λ n. guest_line n (calls_of p) (length r.frames.items)) at
lines_next first (suc i) (p ∷ ps) (r ∷ rs) plan report lt same =
    let own = guest_line first (calls_of p) (length r.frames.items) in
    let at : suc first + i ≡ first + suc i = omega arith in
    let rest = lines_next (suc first) i ps rs plan report (omega (arith, lt))
    (omega (arith, same)) in
    ap (λ l. own ++ l) (subst (λ n. guest_lines (suc first) (take (suc i) ps) (take (suc i) rs)
    ≡ guest_lines (suc first) (take i ps) (take i rs)
    ++ guest_line n (calls_of (get_or ps i plan)) (length (get_or rs i report).frames.items)) at rest)
    ∙ sym (append_assoc own (guest_lines (suc first) (take i ps) (take i rs))
    (guest_line (first + suc i) (calls_of (get_or ps i plan))
    (length (get_or rs i report).frames.items)))

-- the line of one guest more
pub one_more_line : (i : ℕ) (plans : List GuestPlan) (reports : List GuestReport)
    (plan : GuestPlan) (report : GuestReport) → i < length plans → length reports ≡ length plans
    → plan ≡ get_or plans i plan → report ≡ get_or reports i report
    → guest_lines 0 (take (i + 1) plans) (take (i + 1) reports)
    ≡ guest_lines 0 (take i plans) (take i reports)
    ++ guest_line i (calls_of plan) (length report.frames.items)
one_more_line i plans reports plan report lt same is report_is = let at : 0 + i ≡ i = omega arith in
    ap (λ n. guest_lines 0 (take n plans) (take n reports)) (add-one i) ∙ lines_next
    0 i plans reports plan report lt same ∙ ap (λ n. guest_lines 0 (take i plans) (take i reports)
    ++ guest_line n (calls_of (get_or plans i plan))
    (length (get_or reports i report).frames.items)) at
    ∙ ap (λ (p : GuestPlan). guest_lines 0 (take i plans) (take i reports)
    ++ guest_line i (calls_of p) (length (get_or reports i report).frames.items)) (sym is)
    ∙ ap (λ (r : GuestReport). guest_lines 0 (take i plans) (take i reports)
    ++ guest_line i (calls_of plan) (length r.frames.items)) (sym report_is)

-- what all of a list passes, one of it does
pub one_passes : {X : Type 0} (test : X → Bool) (xs : List X) (i : ℕ) (x : X) → i < length xs
    → x ≡ get_or xs i x → list_all test xs ≡ true → test x ≡ true
one_passes test xs i x lt is all =
    let front : list_all test (take (i + 1) xs) ≡ true =
    (and_parts (list_all test (take (i + 1) xs)) (list_all test (drop (i + 1) xs))
    (sym (list_all-append test (take (i + 1) xs) (drop (i + 1) xs))
    ∙ ap (list_all test) (take-append-drop (i + 1) xs) ∙ all)).0 in
    ap test is ∙ (and_parts (list_all test (take i xs)) (test (get_or xs i x))
    (sym (list_all_more test xs i x lt) ∙ front)).1
