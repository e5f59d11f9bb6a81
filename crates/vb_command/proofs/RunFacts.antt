-- Which plans can be run, and what is a plan's run and is printed of it.
use Rattle.std.proofs.Common.{◌≡◌, ◌↔◌, ◌∙◌, ◌++◌, ℕ, Bool, true, false, List, [], ◌∷◌, length, map}
use Rattle.std.proofs.Common.{replicate, codes, refl, subst, arith, All, ◌<◌}
use Rattle.std.specs.Fmt.{digits}
use Rattle.std.specs.Prelude.{Option, Some, None, Result, Ok, Err}
use Rattle.std.specs.declared.{alloc.Global.Global, vec.Vec.Vec}
use Rattle.vb_model.specs.declared.calls.Call.{Call, TheVariants.{Alloc, Stats, Work}}
use Rattle.vb_script.specs.declared.lines.Pace.TheVariants.{Immediate, Paced}
use Rattle.vb_script.specs.Plans.{Plan as Planned, GuestPlan as PlannedGuest}
use Rattle.vb_run.specs.Reports.{IsReport}
use Rattle.vb_run.specs.declared.plan.{Bells.TheVariants.Drop, GuestPlan.GuestPlan, Plan.Plan}
use Rattle.vb_run.specs.declared.report.{GuestReport.GuestReport, Report.Report}
use Rattle.vb_command.specs.Plans.{Part, part_of, planned_part, IsPlanOf, can_run, makes_plan, lacks_plan}
use Rattle.vb_command.specs.Threads.{calls_of, guest_line, guest_lines, report_lines, AreWithin, IsRunOf}
use Rattle.vb_command.specs.Threads.{IsRunOfText, PrintsReport}

-- ---- plans of 64 frames with three rounds at a floor of 16

abbrev planned : List PlannedGuest → Planned
planned guests = record { frames = 64; guests = guests; floor = 16; rounds = 3 }

-- a guest as large as may be told, and with these scripts
abbrev sized : ℕ → ℕ → ℕ → List (List Call) → PlannedGuest
sized pages queue_size processors scripts = record {
  pace = Paced;
  pages = pages;
  queue_size = queue_size;
  processors = processors;
  scripts = scripts;
}

abbrev guest : List (List Call) → PlannedGuest
guest scripts = sized 64 8 (length scripts) scripts

abbrev quiet : PlannedGuest
quiet = guest ([] ∷ [])

-- one to eight guests can, each of whose processors has a script of its own calls
can : map can_run (planned (quiet ∷ []) ∷ planned (replicate 8 quiet)
    ∷ planned (guest ((Alloc 0 5 ∷ Stats ∷ []) ∷ (Alloc 1 0 ∷ []) ∷ []) ∷ []) ∷ [])
    ≡ true ∷ true ∷ true ∷ []
can = refl

-- no guest, nine, one after another that can, a size or queues that none has, fewer scripts or
-- more, another processor's call, and a device's
cannot : map (λ guests. can_run (planned guests)) ([] ∷ replicate 9 quiet
    ∷ (quiet ∷ sized 63 8 1 ([] ∷ []) ∷ []) ∷ (sized 63 8 1 ([] ∷ []) ∷ quiet ∷ [])
    ∷ (sized 64 7 1 ([] ∷ []) ∷ []) ∷ (sized 64 8 5 ([] ∷ [] ∷ [] ∷ [] ∷ [] ∷ []) ∷ [])
    ∷ (sized 64 8 2 ([] ∷ []) ∷ []) ∷ (sized 64 8 1 ([] ∷ [] ∷ []) ∷ [])
    ∷ (guest ([] ∷ (Alloc 0 5 ∷ []) ∷ []) ∷ []) ∷ (guest ((Stats ∷ Alloc 1 5 ∷ []) ∷ []) ∷ [])
    ∷ (guest ((Work ∷ []) ∷ []) ∷ []) ∷ []) ≡ replicate 11 false
cannot = refl

-- a text makes a plan, lacks one, or has a bad line and does neither
made : map makes_plan (Err 1 ∷ Ok None ∷ Ok (Some (planned [])) ∷ Ok (Some (planned (quiet ∷ []))) ∷ [])
    ≡ false ∷ false ∷ false ∷ true ∷ []
made = refl

lacked : map lacks_plan (Err 1 ∷ Ok None ∷ Ok (Some (planned [])) ∷ Ok (Some (planned (quiet ∷ []))) ∷ [])
    ≡ false ∷ true ∷ true ∷ false ∷ []
lacked = refl

-- ---- the plan that is run is just the one that was read

part : Part
part = record { pages = 64; queue_size = 8; processors = 2; scripts = (Stats ∷ []) ∷ [] ∷ [] }

parts : (plan : GuestPlan) (first second : Vec Call Global)
    → plan.config ≡ record { pages = 64; queue_size = 8; processors = 2 }
    → plan.scripts.items ≡ first ∷ second ∷ [] → first.items ≡ Stats ∷ [] → second.items ≡ []
    → (part_of plan ≡ part) × (planned_part (guest ((Stats ∷ []) ∷ [] ∷ [])) ≡ part)
unfolding part
parts plan first second sizes scripts a b = (rw (sizes, scripts, a, b) refl, refl)

is_plan : (plan : Plan) → IsPlanOf (planned (guest ((Stats ∷ []) ∷ [] ∷ []) ∷ [])) Drop plan
    ↔ ((map part_of plan.guests.items ≡ part ∷ []) × (plan.frames ≡ 64) × (plan.bells ≡ Drop)
    × (plan.floor ≡ 16) × (plan.rounds ≡ 3))
unfolding part
is_plan plan = (
  λ is. (is.guests, is.frames, is.bells, is.floor, is.rounds),
  λ all. record {
    guests = all.0;
    frames = all.1;
    bells = all.2;
    floor = all.3;
    rounds = all.4;
  },
)

-- ---- its run: on devices of its paces, and on its frames alone

abbrev pub two : Planned
two = planned (record quiet { pace = Immediate } ∷ quiet ∷ [])

is_run : (plan : Plan) (report : Report) → IsRunOf two Drop plan report
    ↔ ((can_run two ≡ true) × IsPlanOf two Drop plan × IsReport plan (false ∷ true ∷ []) report
    × AreWithin 64 report.guests.items)
is_run plan report = (
  λ is. (is.runs, is.plan_is, is.report_is, is.within),
  λ all. record { runs = all.0; plan_is = all.1; report_is = all.2; within = all.3 },
)

not_run : (plan : Plan) (report : Report) → IsRunOf (planned []) Drop plan report → ⊥
not_run plan report is = let wrong : false ≡ true = is.runs in cc

past_the_last : (r : GuestReport) → r.frames.items ≡ 5 ∷ 64 ∷ [] → All (λ f. f < 64) r.frames.items → ⊥
past_the_last r is all =
    let l : 64 < 64 = subst (All (λ (f : ℕ). f < 64)) is all 1 0 (omega arith) in omega (arith, l)

-- the first and the last frame of 64, and the one after them, of either guest
within : (a b : GuestReport) → a.frames.items ≡ 0 ∷ 63 ∷ []
    → (b.frames.items ≡ [] → AreWithin 64 (a ∷ b ∷ []))
    × (b.frames.items ≡ 5 ∷ 64 ∷ [] → (AreWithin 64 (a ∷ b ∷ []) → ⊥) × (AreWithin 64 (b ∷ a ∷ []) → ⊥))
within a b has = (
  λ none. grind arith,
  λ past. (
    λ are. past_the_last b past (are 1 a (omega arith)),
    λ are. past_the_last b past (are 0 a (omega arith)),
  ),
)

-- of a text it is the run of the plan that it makes, and a text that makes none has none
of_text : (plan : Plan) (report : Report)
    → (IsRunOfText (Ok (Some two)) Drop plan report ↔ IsRunOf two Drop plan report)
    × (IsRunOfText (Err 3) Drop plan report → ⊥) × (IsRunOfText (Ok None) Drop plan report → ⊥)
of_text plan report = (
  (λ is. grind (arith, is), λ is. (two, refl, is)),
  λ is. (let wrong = is.1 in absurd cc),
  λ is. (let wrong = is.1 in absurd cc),
)

-- ---- the lines of a report

-- all calls of both scripts
calls : (plan : GuestPlan) (first second : Vec Call Global) → plan.scripts.items ≡ first ∷ second ∷ []
    → length first.items ≡ 9 → length second.items ≡ 3 → calls_of plan ≡ 12
calls plan first second scripts a b = rw (scripts, a, b) refl

one_line : guest_line 7 12 30 ≡ codes "guest 7 calls 12 frames 30\n"
unfolding digits
one_line = refl

-- a line for each guest by rising number, of its own calls and frames, and then the audit's
lines : (plan : Plan) (report : Report) (p q : GuestPlan) (r s : GuestReport)
    → plan.guests.items ≡ p ∷ q ∷ [] → report.guests.items ≡ r ∷ s ∷ []
    → length r.frames.items ≡ 2 → length s.frames.items ≡ 0 → calls_of p ≡ 12 → calls_of q ≡ 0
    → (report_lines plan report
    ≡ guest_line 0 12 2 ++ (guest_line 1 0 0 ++ []) ++ codes "disjoint\n")
    × (guest_lines 9 (p ∷ q ∷ []) (r ∷ []) ≡ guest_line 9 12 2 ++ [])
    × (guest_lines 9 (p ∷ []) (r ∷ s ∷ []) ≡ guest_line 9 12 2 ++ [])
lines plan report p q r s plans reports a b c d = grind (arith, plans, reports, a, b, c, d)

-- they are printed after what was there, of the run of the plan that the text makes
prints : (new : List ℕ) → PrintsReport Drop (Ok (Some two)) (Some (codes "a")) (Some new)
    ↔ ((plan : Plan) × (report : Report) × IsRunOf two Drop plan report
    × (new ≡ codes "a" ++ report_lines plan report))
prints new = (
  λ is. (is.0, is.1, (of_text is.0 is.1).0.0 is.2, is.3),
  λ is. (is.0, is.1, (two, refl, is.2), is.3),
)

prints_nothing : (new : Option (List ℕ))
    → (PrintsReport Drop (Err 3) (Some []) new → ⊥) × (PrintsReport Drop (Ok None) (Some []) new → ⊥)
    × (PrintsReport Drop (Ok (Some two)) (Some []) None → ⊥)
prints_nothing new = (
  λ is. (of_text is.0 is.1).1 is.2,
  λ is. (of_text is.0 is.1).2 is.2,
  λ is. is.3,
)
