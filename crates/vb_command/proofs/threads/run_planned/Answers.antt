use Rattle.std.proofs.Common.{rules, ◌≡◌, Err, ◌∙◌, sym, subst, ap, map, List, Bool}
use Rattle.vb_run.specs.Reports.{IsReport}
use Rattle.vb_script.{specs.declared.script.ThreadsGuest.ThreadsGuest, specs.Lines.is_paced}
use Rattle.vb_script.specs.Plans.{planned_by}
use Rattle.vb_command.specs.Threads.{AreWithin}
use Rattle.vb_command.proofs.Planning.{fault_of_plan, paces_planned, plans_alike}
use Rattle.vb_command.proofs.threads.run_planned.Goals as goal

pub returns-in_err-report : goal.returns-in_err-report
returns-in_err-report g c = let is = rw c.in-Some.is at c.in_ok-plan.ensures in
    let fault = fault_of_plan (planned_by c.args.script) c.args.bells c.in-Some.plan is
    c.in_err-report.field-0.0 c.in_err-report.ensures in
    let passed : c.from_residual-in_err-report.result ≡ Err c.in_err-report.field-0.0 =
    search rules in rw passed fault

pub returns : goal.returns
returns g c = let is = rw c.in-Some.is at c.in_ok-plan.ensures in record {
  runs = sym (plans_alike (planned_by c.args.script) c.args.bells c.in-Some.plan is)
      ∙ c.in_ok-report.ensures.0;
  plan_is = is;
  report_is = subst (λ (paces : List Bool). IsReport c.in-Some.plan paces c.in_ok-report.report)
      (ap (map is_paced) c.as_slice-2.ensures.value ∙ ap (map is_paced) c.in_ok-paces.ensures
      ∙ ap (λ (l : List ThreadsGuest). map is_paced (map (λ guest. guest.pace) l))
      c.as_slice.ensures.value ∙ paces_planned c.args.script.guests.items) c.in_ok-report.ensures.1;
  within = subst (λ n. AreWithin n c.in_ok-report.report.guests.items) is.frames
      c.in_ok-report.ensures.2;
}
