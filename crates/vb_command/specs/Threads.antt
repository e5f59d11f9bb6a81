-- How a run of guests on threads ends: what is written where, and the exit status.
use Rattle.std.specs.Prelude.{◌≡◌, ◌<◌, ◌⊎◌, ⊤, ℕ, suc, Bool, true, false, List, [], ◌∷◌, ◌++◌}
use Rattle.std.specs.Prelude.{length, map, sum_by, All}
use Rattle.std.specs.Prelude.{Option, Some, Result, Ok, Err, IfSome, codes}
use Rattle.std.specs.Fmt.{decimal}
use Rattle.std.specs.Io.KnownBytes.{Appends, Keeps}
use Rattle.vb_script.specs.Lines.{is_paced}
use Rattle.vb_script.specs.Plans.{Plan as Planned, threads_script_of}
use Rattle.vb_run.specs.Reports.{IsReport}
use Rattle.vb_run.specs.declared.plan.Bells.{Bells}
use Rattle.vb_run.specs.declared.plan.GuestPlan.{GuestPlan}
use Rattle.vb_run.specs.declared.plan.Plan.{Plan}
use Rattle.vb_run.specs.declared.report.GuestReport.{GuestReport}
use Rattle.vb_run.specs.declared.report.Report.{Report}
use Rattle.vb_command.specs.Ends.{IsWithinBound, Says, fault_line}
use Rattle.vb_command.specs.Faults.{IfRead, UnlessStream, status_of}
use Rattle.vb_command.specs.Plans.{IsPlanOf, can_run, lacks_plan, makes_plan}
use Rattle.vb_command.specs.declared.fault.ProgramFault.{ProgramFault}
use Rattle.vb_command.specs.declared.fault.ProgramFault.TheVariants.{BadLine, BadPlan, Memory}
use Rattle.vb_command.specs.declared.fault.ProgramFault.TheVariants.{Audit}
use Rattle.vb_command.specs.declared.fault.ProgramFault.TheVariants.{Stream}

-- how many calls all scripts of a guest have
abbrev pub calls_of : GuestPlan → ℕ
calls_of plan = sum_by (λ script. length script.items) plan.scripts.items

-- the guest of this number, how many calls its scripts have, and how many frames it has at the end
abbrev pub guest_line : ℕ → ℕ → ℕ → List ℕ
guest_line guest calls frames =
    codes "guest " ++ (decimal guest ++ (codes " calls " ++ (decimal calls
    ++ (codes " frames " ++ (decimal frames ++ 10 ∷ [])))))

-- a line for each guest, from this number on
abbrev pub guest_lines : ℕ → List GuestPlan → List GuestReport → List ℕ
guest_lines guest [] reports = []
guest_lines guest (plan ∷ plans) [] = []
guest_lines guest (plan ∷ plans) (report ∷ reports) =
    guest_line guest (calls_of plan) (length report.frames.items)
    ++ guest_lines (suc guest) plans reports

-- the guests, and that none has a frame of another's
abbrev pub report_lines : Plan → Report → List ℕ
report_lines plan report =
    guest_lines 0 plan.guests.items report.guests.items ++ (codes "disjoint" ++ 10 ∷ [])

-- each frame of these guests is one of the first n
abbrev pub AreWithin : ℕ → List GuestReport → Type 0
AreWithin frames reports = All (λ report. All (λ f. f < frames) report.frames.items) reports

-- a report of a run of just this plan, which can be run, each guest on a device of its pace and on
-- the frames of its host
pub record IsRunOf (planned : Planned) (bells : Bells) (plan : Plan) (report : Report) : Type 0
  where
    pub runs : can_run planned ≡ true
    pub plan_is : IsPlanOf planned bells plan
    pub report_is : IsReport plan (map (λ guest. is_paced guest.pace) planned.guests) report
    pub within : AreWithin planned.frames report.guests.items

-- of the plan that a text makes
abbrev pub IsRunOfText : Result (Option Planned) ℕ → Bells → Plan → Report → Type 0
IsRunOfText script bells plan report =
    (planned : Planned) × (script ≡ Ok (Some planned)) × IsRunOf planned bells plan report

-- what is written to known bytes: the lines of such a report
abbrev pub PrintsReport : Bells → Result (Option Planned) ℕ → Option (List ℕ)
    → Option (List ℕ) → Type 0
PrintsReport bells script old new =
    (plan : Plan) × (report : Report) × IsRunOfText script bells plan report
    × Appends old new (report_lines plan report)

-- Why there is no report: a bad line, which is the first; a text that makes no plan that can be
-- run; an allocation failure; an audit that failed, of a plan that can be run; or a stream.
abbrev pub IsThreadsFault : Result (Option Planned) ℕ → ProgramFault → Type 0
IsThreadsFault script (BadLine number) = script ≡ Err number
IsThreadsFault script BadPlan = lacks_plan script ≡ true
IsThreadsFault script Memory = ⊤
IsThreadsFault script Audit = makes_plan script ≡ true
IsThreadsFault script Stream = ⊤

-- The same of a text, which is within the bound where it has a bad line, makes no plan or was run.
abbrev pub IsTextFault : List ℕ → ProgramFault → Type 0
IsTextFault text fault =
    IsThreadsFault (threads_script_of text) fault × IfRead fault (IsWithinBound text)

-- the same of a plan, by whether it can be run
abbrev pub IsPlanFault : Bool → ProgramFault → Type 0
IsPlanFault runs (BadLine number) = ⊥
IsPlanFault runs BadPlan = runs ≡ false
IsPlanFault runs Memory = ⊤
IsPlanFault runs Audit = runs ≡ true
IsPlanFault runs Stream = ⊥

-- Where a text is read, the lines of a report are printed and the status is 0; or there is a fault,
-- which says so by its line and its status, and unless a stream is broken nothing is printed.
abbrev pub ThreadsEnds : Bells → Option (List ℕ) → Option (List ℕ) → Option (List ℕ)
    → Option (List ℕ) → Option (List ℕ) → ℕ → Type 0
ThreadsEnds bells input output written errors said status =
    ((status ≡ 0)
    × IfSome input (λ text. IsWithinBound text
    × PrintsReport bells (threads_script_of text) output written)
    × Keeps errors said)
    ⊎ ((fault : ProgramFault)
    × IfSome input (λ text. IsTextFault text fault)
    × UnlessStream fault (Keeps output written)
    × Says (fault_line fault) (status_of fault) errors said status)
