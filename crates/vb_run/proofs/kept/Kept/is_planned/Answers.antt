use Rattle.std.proofs.Common.{rules, sym, subst}
use Rattle.vb_run.{proofs.Closing.is_planned, specs.Past.{AreScripts, Past, scripts_in}}
use Rattle.vb_run.specs.Paces.{is_deferred}
use Rattle.vb_run.proofs.kept.Kept.is_planned.Goals as goal

pub returns : goal.returns
returns g c =
    is_planned c.has_made.result c.args.of.floor c.args.of.number c.args.plan.now (is_deferred c.args.of.pace)
    c.args.rounds.now c.in_ok-expected.expected.items (scripts_in c.self.inside.scripts.items)
    c.self.inside.history.items c.args.self.now (c.is_guest.ensures.0 (search rules))
    (subst (λ (p : Past). AreScripts p.scripts c.args.plan.now.scripts.items) c.self.view_is
    (rw (sym c.as_slice.ensures.value, sym c.as_slice-2.ensures.value)
    (c.are_of.ensures.0 (search rules))))
    (search rules)
    c.in_ok-expected.ensures
    (rw (sym c.as_slice-3.ensures.value, sym c.as_slice-4.ensures.value) c.has_made.ensures)
