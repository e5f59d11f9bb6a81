-- A script's plan is as good as the one that the runner gets.
use Rattle.std.proofs.Common.{◌≡◌, refl, sym, ap, ◌∙◌, subst, ℕ, suc, ◌+◌, Bool, true, false, List}
use Rattle.std.{proofs.Common.{[], ◌∷◌, ◌++◌, length, map, Some, None, arith}, specs.List.list_all}
use Rattle.std.specs.Prelude.{◌==◌, ◌&&◌, not, nat_le, Option, Result, Ok, if◌then◌else◌}
use Rattle.std.{specs.declared.vec.Vec.Vec, specs.declared.alloc.Global.Global}
use Rattle.std.{proofs.lemmas.Bool.and_parts, proofs.lemmas.Bool.Decides.nat_tests}
use Rattle.std.{proofs.lemmas.List.length-map, proofs.lemmas.List.Folds.list_all-append}
use Rattle.vb_virtio.specs.Limits.{is_config, max_guests}
use Rattle.vb_model.specs.declared.calls.Call.{Call}
use Rattle.vb_run.specs.Plans.{are_scripts, is_guest_plan, is_plan, is_script}
use Rattle.vb_run.{specs.declared.plan.Bells.Bells, specs.declared.plan.GuestPlan.GuestPlan}
use Rattle.vb_run.{specs.declared.plan.Plan.Plan, specs.declared.report.Report.Report}
use Rattle.vb_script.{specs.declared.script.ThreadsGuest.ThreadsGuest, specs.Lines.is_paced}
use Rattle.vb_command.specs.Plans.{IsPlanOf, Part, can_run, is_part, may_be_scripts, part_of}
use Rattle.vb_command.specs.{Plans.planned_part, Threads.{IsPlanFault, IsRunOfText, IsThreadsFault}}
use Rattle.vb_command.specs.declared.fault.ProgramFault.{ProgramFault, TheVariants.{BadLine, BadPlan}}
use Rattle.vb_command.specs.declared.fault.ProgramFault.TheVariants.{Memory, Audit, Stream}
use Rattle.vb_script.specs.Plans.{Plan as Planned, guest_plan}

pub config_none : {A : Type 0} (b : Bool) (x : A) (o : Option A)
    → o ≡ (if b then Some x else None) → o ≡ None → b ≡ false
config_none true x o e none = absurd (cc (sym none ∙ e))
config_none false x o e none = refl

scripts_alike : (cpu : ℕ) (scripts : List (Vec Call Global))
    → are_scripts cpu scripts ≡ may_be_scripts cpu (map (λ script. script.items) scripts)
scripts_alike cpu [] = refl
scripts_alike cpu (script ∷ scripts) =
    ap (λ (b : Bool). is_script cpu script.items && b) (scripts_alike (suc cpu) scripts)

guest_alike : (guest : GuestPlan) → is_guest_plan guest ≡ is_part (part_of guest)
guest_alike guest = let scripts = guest.scripts.items in
    let count = length-map scripts (λ (script : Vec Call Global). script.items) in
    let alike = scripts_alike 0 scripts in
    ap (λ (b : Bool). is_config guest.config.pages guest.config.queue_size guest.config.processors
    && ((length scripts == guest.config.processors) && b)) alike
    ∙ ap (λ (n : ℕ). is_config guest.config.pages guest.config.queue_size guest.config.processors
    && ((n == guest.config.processors)
    && may_be_scripts 0 (map (λ (script : Vec Call Global). script.items) scripts))) (sym count)

guests_alike : (guests : List GuestPlan)
    → list_all is_guest_plan guests ≡ list_all is_part (map part_of guests)
guests_alike [] = refl
guests_alike (guest ∷ guests) = λ i. guest_alike guest i && guests_alike guests i

same_number : (n : ℕ) → (n == n) ≡ true
same_number n = grind (arith, nat_tests)

-- the runner can run its plan just where that of the script can be run
pub plans_alike : (planned : Planned) (bells : Bells) (plan : Plan) → IsPlanOf planned bells plan
    → is_plan plan (length plan.guests.items) ≡ can_run planned
plans_alike planned bells plan is = let guests = plan.guests.items in
    let count : length guests ≡ length planned.guests = sym (length-map guests part_of)
    ∙ ap (λ (l : List _). length l) is.guests ∙ length-map planned.guests planned_part in
    let whole : list_all is_guest_plan guests ≡ list_all is_part (map planned_part planned.guests) =
    guests_alike guests ∙ ap (list_all is_part) is.guests in
    let n = length guests in
    ap (λ (b : Bool). not (n == 0) && (nat_le n max_guests && (b && list_all is_guest_plan guests)))
    (same_number n) ∙ ap (λ (b : Bool). not (n == 0) && (nat_le n max_guests && b)) whole
    ∙ ap (λ (m : ℕ). not (m == 0) && (nat_le m max_guests
    && list_all is_part (map planned_part planned.guests))) count

and_false : (a b : Bool) → b ≡ false → (a && b) ≡ false
and_false true b e = e
and_false false b e = refl

-- ---- the guests one by one: those that are planned, and those that are left

pub part_fails : (part : Part) → is_config part.pages part.queue_size part.processors ≡ false
    → is_part part ≡ false
part_fails part e = ap (λ (b : Bool). b && ((length part.scripts == part.processors)
    && may_be_scripts 0 part.scripts)) e

pub parts_fail : (parts : List Part) (part : Part) (rest all : List Part)
    → parts ++ part ∷ rest ≡ all → is_part part ≡ false → list_all is_part all ≡ false
parts_fail parts part rest all whole e = subst (λ (l : List Part). list_all is_part l ≡ false) whole
    (list_all-append is_part parts (part ∷ rest)
    ∙ and_false _ _ (ap (λ (b : Bool). b && list_all is_part rest) e))

-- ---- what a run's ends say of its script

pub fault_of_plan : (planned : Planned) (bells : Bells) (plan : Plan) → IsPlanOf planned bells plan
    → (fault : ProgramFault) → IsPlanFault (is_plan plan (length plan.guests.items)) fault
    → IsThreadsFault (Ok (Some planned)) fault
fault_of_plan planned bells plan is (BadLine number) bad = absurd bad
fault_of_plan planned bells plan is BadPlan bad =
    ap not (sym (plans_alike planned bells plan is) ∙ bad)
fault_of_plan planned bells plan is Memory bad = tt
fault_of_plan planned bells plan is Audit bad = sym (plans_alike planned bells plan is) ∙ bad
fault_of_plan planned bells plan is Stream bad = tt

pub guests_run : (script : Result (Option Planned) ℕ) (bells : Bells) (plan : Plan)
    (report : Report) → IsRunOfText script bells plan report
    → list_all is_guest_plan plan.guests.items ≡ true
guests_run script bells plan report run = let n = length plan.guests.items in
    let guests = list_all is_guest_plan plan.guests.items in
    let runs : is_plan plan n ≡ true = plans_alike run.0 bells plan run.2.plan_is ∙ run.2.runs in
    let some = and_parts (not (n == 0)) (nat_le n max_guests && ((n == n) && guests)) runs in
    let few = and_parts (nat_le n max_guests) ((n == n) && guests) some.1 in
    (and_parts (n == n) guests few.1).1

-- the paces of a script's guests are those of the plan that it makes
pub paces_planned : (guests : List ThreadsGuest) → map is_paced (map (λ guest. guest.pace) guests)
    ≡ map (λ guest. is_paced guest.pace) (map guest_plan guests)
paces_planned [] = refl
paces_planned (guest ∷ guests) = ap (λ (l : List Bool). is_paced guest.pace ∷ l) (paces_planned guests)
