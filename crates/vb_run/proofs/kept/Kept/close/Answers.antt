use Rattle.std.proofs.Common.{rules, sym, subst, ◌≡◌, true, false}
use Rattle.vb_run.specs.{Paces.is_deferred, Past.{AreHushed, Past}, Reports.IsPlanned}
use Rattle.vb_run.proofs.Closing.{closes, still_planned}
use Rattle.vb_run.proofs.kept.Kept.close.Goals as goal

pub returns-clause-report : goal.returns-clause-report
returns-clause-report g c =
    closes _ _ _ c.args.of.floor c.args.of.number c.args.plan.now (is_deferred c.args.of.pace) c.args.rounds.now _
    c.kept.invariant
    (subst (IsPlanned c.args.of.floor c.args.of.number c.args.plan.now (is_deferred c.args.of.pace)
    c.args.rounds.now)
    (sym c.kept.view_is) (c.in_ok-is_planned.ensures.0 (search rules)))
    (subst (λ (p : Past). AreHushed p.quiet) (sym c.kept.view_is) c.in_ok-drain.ensures.quiet)
    (rw (sym c.as_slice.ensures.value) (c.all_ended.ensures.0 (search rules))) (search rules)
    c.in_ok-frames.ensures

pub returns-then-not-branch-clause-audit : goal.returns-then-not-branch-clause-audit
returns-then-not-branch-clause-audit g c = λ is. (
  search rules,
  λ planned.
      let made : c.in_ok-is_planned.field-0 ≡ true =
      c.in_ok-is_planned.ensures.1 (still_planned c.args.of.floor c.args.of.number
      c.args.plan.now (is_deferred c.args.of.pace) c.args.rounds.now c.args.self _ c.in_ok-drain.ensures.same
      c.in_ok-drain.ensures.balanced planned) in
      let not_made : c.in_ok-is_planned.field-0 ≡ false = search rules in cc,
)
